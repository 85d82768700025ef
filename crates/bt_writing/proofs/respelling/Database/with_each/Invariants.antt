use Rattle.std.proofs.Common.{◌≡◌, drop, map}
use Rattle.std.specs.List.{fold}
use Rattle.serde_json.specs.View.{view}
use Rattle.bt_writing.specs.Respelling.{with_respelling}
use Rattle.bt_writing.proofs.respelling.Database.with_each.Given as goal

abbrev pub invariant-found : goal.invariant-found
invariant-found l =
    let add = with_respelling l.self.document.now l.self.pieces.now in
    fold add (map view l.all.items) (drop l.one-index l.found) ≡ fold add (map view l.fn.list.items) l.found
