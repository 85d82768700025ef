use Rattle.std.proofs.Common.{get_or, drop, ◌∙◌, arith}
use Rattle.std.proofs.lemmas.List.{take_rest, at_drop_more}
use Rattle.bt_text.specs.Special.{symbols}
use Rattle.bt_text.proofs.SpecialLemmas.{symbols_control, kept_control}
use Rattle.bt_text.proofs.purification.push_pure_special.Goals as goal

pub walk-preserved-then-byte-eq92 : goal.walk-preserved-then-byte-eq92
walk-preserved-then-byte-eq92 c =
    let s = c.walk.rest.now in
    let cons = at_drop_more symbols s 0 0 (omega arith) in
    let first = symbols_control (get_or s 0 0) (drop 1 s) c.if-byte-eq92.true in
    let name = rw (take_rest s 1) at c.control_parts.ensures.name in
    let after = rw (take_rest s 1) at c.control_parts.ensures.behind in
    rw (c.in_ok-extend_from_slice.ensures.items, c.letters_of.ensures, name, after) (kept_control c.walk.out.items s _ _ _ (cons ∙ first) ∙ c.walk.invariant)
