use Rattle.std.proofs.Common.{◌∙◌, ap, sym, map}
use Rattle.bt_bib.specs.BibText.{pieces_of}
use Rattle.bt_resolve.specs.declared.question.Question.{Question}
use Rattle.bt_run.proofs.FindingLemmas.{put_texts, within_texts}
use Rattle.bt_run.proofs.kept_resolution.KeptResolution.put.Goals as goal

pub put-requires : goal.put-requires
put-requires c = c.args.self.now.edited c.in-Some.edit (sym c.take.ensures.value ∙ c.in-Some.is) c.in-Some-made.made c.in-Some-made.is

pub set-requires : goal.set-requires
set-requires c =
    let kept = c.args.self.now in
    within_texts kept.resolution kept.texts c.in-Some.edit.number kept.read
    (kept.edited c.in-Some.edit (sym c.take.ensures.value ∙ c.in-Some.is) c.in-Some-made.made c.in-Some-made.is).database

pub invariant_of-self-2-clause-read : goal.invariant_of-self-2-clause-read
invariant_of-self-2-clause-read c =
    let kept = c.args.self.now in
    let edit = c.in-Some.edit in
    ap (λ (q : Question). q.databases) (put_texts kept.resolution c.put.new.self kept.texts edit.number edit.text edit.items kept.read edit.read c.put.ensures)
    ∙ ap (map pieces_of) (sym c.set.ensures)
