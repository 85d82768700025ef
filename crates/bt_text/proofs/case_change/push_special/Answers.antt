use Rattle.std.proofs.Common.{get_or, drop, ◌∙◌, arith}
use Rattle.std.proofs.lemmas.List.{take_rest, at_drop_more}
use Rattle.bt_text.specs.CaseChange.{changed_symbol}
use Rattle.bt_text.specs.Special.{symbols}
use Rattle.bt_text.proofs.SpecialLemmas.{symbols_control}
use Rattle.bt_text.proofs.CasingLemmas.{control_step}
use Rattle.bt_text.proofs.case_change.push_special.Goals as goal

pub walk-preserved-then-byte-eq92 : goal.walk-preserved-then-byte-eq92
walk-preserved-then-byte-eq92 c =
    let s = c.walk.rest.now in
    let cons = at_drop_more symbols s 0 0 (omega arith) in
    let first = symbols_control (get_or s 0 0) (drop 1 s) c.if-byte-eq92.true in
    let name = rw (take_rest s 1) at c.control_parts.ensures.name in
    let gap = rw (take_rest s 1) at c.control_parts.ensures.gap in
    let after = rw (take_rest s 1) at c.control_parts.ensures.behind in
    rw (c.in_ok-push_control.ensures, name, gap, after) (control_step (changed_symbol c.args.mode) c.walk.out.items s _ _ _ (cons ∙ first) ∙ c.walk.invariant)
