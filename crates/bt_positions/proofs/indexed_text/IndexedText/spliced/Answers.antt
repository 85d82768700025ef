use Rattle.std.proofs.Common.{◌∙◌, ap, sym, subst, ℕ, List, None}
use Rattle.memchr.specs.Find.{IsFirstByte, is_byte}
use Rattle.bt_positions.specs.declared.lines.Lines.TheVariants.{Bibtex}
use Rattle.bt_positions.specs.inner.LineStarts.{line_starts}
use Rattle.bt_positions.proofs.StartLemmas.{without_returns}
use Rattle.bt_positions.proofs.indexed_text.IndexedText.spliced.Goals as goal

pub with_starts-requires-clause-editor : goal.with_starts-requires-clause-editor
with_starts-requires-clause-editor c =
    let bytes = c.in_ok-bytes.bytes.items in
    let none = subst (λ (t : List ℕ). IsFirstByte (is_byte 13) t None) c.as_slice.ensures.value (c.has_return-else-has_return.ensures c.if-has_return-2.false) in
    c.in_ok-editor.ensures ∙ ap (line_starts Bibtex 0) (sym c.in_ok-bytes.ensures) ∙ sym (without_returns bytes none)
