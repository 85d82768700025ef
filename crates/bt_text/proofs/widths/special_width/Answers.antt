use Rattle.std.proofs.Common.{get_or, drop, ◌∙◌, arith}
use Rattle.std.proofs.lemmas.List.{take_rest, at_drop_more, length-drop}
use Rattle.bt_text.specs.Special.{symbols}
use Rattle.bt_text.proofs.WidthsLemmas.{width_control}
use Rattle.bt_text.proofs.SpecialLemmas.{symbols_control}
use Rattle.bt_text.proofs.widths.special_width.Goals as goal

pub loop-rest-preserved-then-byte-eq92 : goal.loop-rest-preserved-then-byte-eq92
loop-rest-preserved-then-byte-eq92 c =
    let s = c.loop-rest.rest.now in
    let cons = at_drop_more symbols s 0 0 (omega arith) in
    let first = symbols_control (get_or s 0 0) (drop 1 s) c.if-byte-eq92.true in
    let name = rw (take_rest s 1) at c.control_parts.ensures.name in
    let after = rw (take_rest s 1) at c.control_parts.ensures.behind in
    let shorter = rw (take_rest s 1) at c.control_parts.ensures.shorter in
    let sum = width_control (symbols s) _ _ _ (cons ∙ first) in
    let exact = rw name at c.control_width-total.ensures.exact in
    let total = c.loop-rest.invariant.1 in
    (omega (arith, shorter, length-drop 1 s), rw after (omega (arith, sum, exact, total)))
