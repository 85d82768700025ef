use Rattle.std.proofs.Common.{◌≡◌, ◌&&◌, ℕ, Bool, cond, eqb, sym, ap, ◌∙◌, take, arith}
use Rattle.bt_text.specs.Depth.{depth}
use Rattle.bt_names.specs.Names.{has_and_at}
use Rattle.bt_names.proofs.ListingLemmas.{and_places_more, unmarked}
use Rattle.bt_names.proofs.names.count.Goals as goal

pub walk-preserved-then-not-is_mark : goal.walk-preserved-then-not-is_mark
walk-preserved-then-not-is_mark c =
    let t = c.args.names.now in
    let i = c.walk.place in
    let inv = c.walk.invariant in
    let same = unmarked t i c.walk-test.true (sym c.is_mark.ensures ∙ c.if-not-is_mark.true) in
    let none : cond {A = ℕ} (eqb (depth (take i t)) 0 && has_and_at t i) 1 0 ≡ 0 = ap (λ (b : Bool). cond {A = ℕ} b 1 0) same.1 in
    (inv.0 ∙ same.0, omega (arith, inv.1), omega (arith, inv.2), omega (arith, inv.3, and_places_more t i, none))
