use Rattle.std.proofs.Common.{sym, refl, ◌∙◌, arith}
use Rattle.bt_names.proofs.ListingLemmas.{name_skipped, unmarked}
use Rattle.bt_names.proofs.names.name_after.Goals as goal

pub walk-preserved-then-not-is_mark : goal.walk-preserved-then-not-is_mark
walk-preserved-then-not-is_mark c =
    let t = c.args.names.now in
    let i = c.walk.place in
    let inv = c.walk.invariant in
    let same = unmarked t i c.walk-test.true (sym c.is_mark.ensures ∙ c.if-not-is_mark.true) in
    (inv.0 ∙ same.0, omega (arith, inv.1), name_skipped t c.walk.start i c.walk.left _ _ c.walk-test.true refl same.1 inv.2)
