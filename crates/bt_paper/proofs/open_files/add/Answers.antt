use Rattle.std.proofs.Common.{◌≡◌, ◌∙◌, sym, subst, None}
use Rattle.bt_job.specs.FileNames.{text_of}
use Rattle.bt_paper.proofs.TextLemmas.{text_added}
use Rattle.bt_paper.proofs.open_files.add.Goals as goal

pub returns : goal.returns
returns c =
    let named = c.as_slice-2.ensures ∙ sym c.as_slice-3.ensures in
    let none = subst (λ n. text_of c.args.session.now.texts n ≡ None) named (c.lacks.ensures c.if-not-lacks.false) in
    text_added c.args.session.now c.give-written.new.session c.args.known.now c.note.new.known _ _ _ none
    c.note.ensures.keeps c.give-written.ensures.kept c.give-written.ensures.gives
