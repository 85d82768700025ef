use Rattle.std.proofs.Common.{◌≡◌, drop, map}
use Rattle.std.specs.List.{fold}
use Rattle.serde_json.specs.View.{view}
use Rattle.bt_answers.specs.Faults.{with_faults_at}
use Rattle.bt_answers.proofs.faults.with_link_faults.Given as goal

abbrev pub invariant-found : goal.invariant-found
invariant-found g l =
    let add = with_faults_at (g.P.Paper.shown l.paper) l.document in
    fold add (map view l.all.items) (drop l.link-index l.found) ≡ fold add (map view l.fn.list.items) l.found
