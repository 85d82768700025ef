use Rattle.std.proofs.Common.{◌≡◌, drop, map}
use Rattle.std.specs.List.{fold}
use Rattle.serde_json.specs.View.{view}
use Rattle.bt_writing.specs.StyleActions.{with_trial}
use Rattle.bt_writing.proofs.style_actions.Trials.with_each.Given as goal

abbrev pub invariant-found : goal.invariant-found
invariant-found l =
    let add = with_trial l.self.database.now l.self.from l.self.to in
    fold add (map view l.all.items) (drop l.one-index l.found) ≡ fold add (map view l.fn.list.items) l.found
