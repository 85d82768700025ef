use Rattle.std.proofs.Common.{◌≡◌, drop, map}
use Rattle.std.specs.List.{fold}
use Rattle.serde_json.specs.View.{view}
use Rattle.bt_places.proofs.picking.with_all.Given as goal

abbrev pub invariant-found : goal.invariant-found
invariant-found g l =
    let pick = g.K.Pick.picked l.picker l.file.uri.now l.file.text.now in
    fold pick (map view l.all.items) (drop l.one-index l.found) ≡ fold pick (map view l.fn.list.items) l.found
