use Rattle.std.proofs.Common.{◌≡◌, drop, map}
use Rattle.std.specs.List.{fold}
use Rattle.serde_json.specs.View.{view}
use Rattle.bt_answers.specs.Links.{with_link}
use Rattle.bt_answers.proofs.links.with_links.Given as goal

abbrev pub invariant-links : goal.invariant-links
invariant-links g l =
    let add = with_link (g.P.Paper.shown l.paper).files l.document in
    fold add (map view l.all.items) (drop l.link-index l.found) ≡ fold add (map view l.fn.list.items) l.found
