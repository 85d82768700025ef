use Rattle.std.proofs.Common.{◌≡◌, refl}
use Rattle.bt_text.proofs.NameLemmas.{if_ok}
use Rattle.bt_run.specs.declared.answers.Answers.{Answers}
use Rattle.bt_run.specs.Meaning.{meaning}
use Rattle.bt_run.specs.Shown.{meaning_of}
use Rattle.bt_run.specs.inner.Cases.{run_with}
use Rattle.bt_run.specs.inner.Steps.{run_shown}
use Rattle.bt_run.proofs.AnswerLemmas.{meant}
use Rattle.bt_run.proofs.once.run_once.Goals as goal

pub returns : goal.returns
returns c =
    let files = c.args.files.now in
    let root = c.args.root.now in
    let min = c.args.min in
    let cited = c.in_ok-citations.citations in
    let ran = run_with files cited min cited.style in
    if_ok (λ (a : Answers). meaning_of a ≡ run_shown ran cited.wanted) (λ (a : Answers). meaning_of a ≡ meaning files root min)
    c.show_asked-answers.result
    (λ a is. meant files root min cited ran cited.wanted (meaning_of a) is refl refl c.in_ok-citations.ensures.value)
    c.show_asked-answers.ensures
