use Rattle.std.proofs.Common.{◌≡◌, ◌++◌, drop, map}
use Rattle.serde_json.specs.View.{view}
use Rattle.bt_writing.specs.Citing.{candidates_in}
use Rattle.bt_writing.proofs.citing.candidates.Given as goal

abbrev pub invariant-files : goal.invariant-files
invariant-files g l =
    let files = (g.P.Paper.shown l.paper).files in
    map view l.list.items ++ candidates_in l.written (drop l.n files) ≡ candidates_in l.written files
