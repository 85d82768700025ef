use Rattle.std.proofs.Common.{◌≡◌, drop, map}
use Rattle.serde_json.specs.View.{members_view}
use Rattle.bt_places.specs.Shapes.{with_names}
use Rattle.bt_places.proofs.shapes.put_all.Given as goal

abbrev pub invariant-names : goal.invariant-names
invariant-names l =
    with_names (map (λ name. name.now) (drop l.name-index l.names)) (members_view l.able.entries) ≡ with_names (map (λ name. name.now) l.names) (members_view l.initial.able.entries)
