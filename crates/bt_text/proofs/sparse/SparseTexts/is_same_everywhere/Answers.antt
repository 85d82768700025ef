use Rattle.std.proofs.Common.{◌≡◌, refl, arith, length}
use Rattle.bt_text.proofs.LayerLemmas.{alike_are_same}
use Rattle.bt_text.proofs.sparse.SparseTexts.is_same_everywhere.Goals as goal

pub returns : goal.returns
returns c =
    let long : length c.args.self.now ≡ length c.args.others.now = omega (arith, c.len.ensures, c.len-2.ensures, c.if-len.false) in (
      λ same. alike_are_same c.args.self.now c.args.others.now long (λ i lt. c.places.invariant i (omega (arith, lt, c.places-test.false, c.len-place-end.ensures))),
      λ same. refl,
    )
