use Rattle.std.proofs.Common.{◌≡◌, drop, map}
use Rattle.serde_json.specs.View.{view}
use Rattle.bt_places.specs.Visiting.{with_files}
use Rattle.bt_places.proofs.visiting.with_files.Given as goal

abbrev pub invariant-files : goal.invariant-files
invariant-files g l =
    let files = (g.P.Paper.shown l.paper).files in
    let add = g.V.Visit.added l.visitor in
    with_files add (drop l.n files) (map view l.all.items) ≡ with_files add files (map view l.fn.list.items)
