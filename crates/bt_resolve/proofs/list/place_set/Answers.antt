use Rattle.std.specs.Prelude.{nat_eq}
use Rattle.std.specs.HashSet.{contains}
use Rattle.bt_resolve.proofs.ListLemmas.{among_next}
use Rattle.bt_resolve.proofs.list.place_set.Goals as goal

pub places-preserved : goal.places-preserved
places-preserved c =
    among_next c.args.places.now c.places.place-index 0 (λ p. contains nat_eq c.places.set p) (λ p. contains nat_eq c.insert_place.new.set p) c.places-test.true c.in_ok-insert_place.ensures.set c.places.invariant
