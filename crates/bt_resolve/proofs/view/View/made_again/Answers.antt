use Rattle.std.proofs.Common.{refl}
use Rattle.bt_resolve.specs.inner.Heirs.{is_marked, made_at}
use Rattle.bt_resolve.proofs.MadeAgainLemmas.{made_next, made_all}
use Rattle.bt_resolve.proofs.view.View.made_again.Goals as goal

pub places-preserved : goal.places-preserved
places-preserved c =
    let v = c.args.self.now in
    let heirs = c.args.heirs.now in
    made_next (made_at v.asked.now v.min v.family.now heirs.values) (is_marked heirs.marks) c.args.places.now c.places.k _ c.places.made c.make_again.new.made c.places-test.true refl
    c.places.invariant (c.in_ok-make_again.ensures c.if-not-branch.false)

pub returns : goal.returns
returns c =
    let v = c.args.self.now in
    let heirs = c.args.heirs.now in
    made_all (made_at v.asked.now v.min v.family.now heirs.values) (is_marked heirs.marks) c.args.places.now c.places.k c.places.made c.places-test.false c.places.invariant
