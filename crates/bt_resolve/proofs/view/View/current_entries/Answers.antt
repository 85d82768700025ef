use Rattle.std.proofs.Common.{◌∙◌, refl}
use Rattle.bt_resolve.specs.inner.Heirs.{made_at}
use Rattle.bt_resolve.proofs.MadeAgainLemmas.{found_more}
use Rattle.bt_resolve.proofs.view.View.current_entries.Goals as goal

pub places-preserved : goal.places-preserved
places-preserved c =
    let v = c.args.self.now in
    c.in_ok-push_if_any.ensures.ok
    ∙ found_more (made_at v.asked.now v.min v.family.now c.args.values.now) c.args.places.now c.places.place-index _ c.places.entries c.in_ok-current_entry.field-0 c.places-test.true refl c.in_ok-current_entry.ensures c.places.invariant
