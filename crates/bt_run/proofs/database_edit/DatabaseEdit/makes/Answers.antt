use Rattle.std.proofs.Common.{◌∙◌, ◌+◌, ap, sym, refl, ℕ, List, Some, [], length}
use Rattle.std.proofs.lemmas.List.{take_rest}
use Rattle.std.proofs.lemmas.Option.{slice_get-get_or, slice_get_read}
use Rattle.bt_run.proofs.FindingLemmas.{one_other}
use Rattle.bt_run.proofs.database_edit.DatabaseEdit.makes.Goals as goal

pub returns : goal.returns
returns c = λ go.
    let kept = c.args.kept.now in
    let texts = c.args.texts.now in
    let n = c.args.self.now.number in
    let same = sym (c.as_slice.ensures ∙ c.deref.ensures) ∙ c.equal_bytes.ensures c.if-not-equal_bytes.false ∙ c.as_slice-2.ensures ∙ c.deref-2.ensures in
    let there = slice_get_read texts (length texts) n c.index-texts-number.result refl c.if-number-texts.false c.index-texts-number.is ∙ ap (λ (t : List ℕ). Some t) same in
    one_other kept texts n _ c.args.self.now.text (slice_get-get_or kept n [] c.if-number-kept.false) there
    (c.are_same.ensures c.if-not-are_same.false)
    (sym (take_rest kept (n + 1)) ∙ c.are_same-2.ensures go ∙ take_rest texts (n + 1))
