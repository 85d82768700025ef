use Rattle.std.proofs.Common.{◌≡◌, ◌∙◌, ◌++◌, ap, List}
use Rattle.bt_log.specs.declared.message.Message.{Message}
use Rattle.bt_run.specs.declared.course.Step.{Step}
use Rattle.bt_run.specs.Counts.{calls_at, counts_told}
use Rattle.bt_run.specs.Meaning.{Meaning}
use Rattle.bt_run.specs.inner.Cases.{bbl_of, shown_of}
use Rattle.bt_run.specs.inner.Steps.{calls_in}
use Rattle.bt_run.specs.inner.Walk.{with_steps}
use Rattle.bt_run.proofs.CountLemmas.{counted_alike}
use Rattle.bt_run.proofs.answers.Run.new_answers.Goals as goal

pub returns : goal.returns
returns c = λ before was is.
    let run = c.args.self.now in
    let w = c.args.walk.now in
    let us : List Step = with_steps run.kept.steps w.steps in
    let log : c.in_ok-log.log ≡ before ++ counts_told (calls_at us) =
    c.in_ok-log.ensures before was (c.as_slice.ensures ∙ is) ∙ ap (λ (ms : List Message). before ++ ms) (counted_alike (calls_in w.calls) (calls_at us) c.requires.calls)
    in
    let wanted : c.in_ok-wanted.wanted ≡ run.answers.wanted = c.in_ok-wanted.ensures ∙ c.as_slice-2.ensures in
    ap (λ (m : Meaning). record m { bbl = bbl_of us }) c.in_ok-answers.ensures ∙ (λ j. shown_of (bbl_of us) (log j) (wanted j))
