use Rattle.std.proofs.Common.{◌≡◌, ◌++◌, take}
use Rattle.std.specs.List.{flat_map}
use Rattle.bt_resolve.specs.References.{missing_messages}
use Rattle.bt_resolve.proofs.view.View.all_missing.Given as goal

abbrev pub invariant-keys : goal.invariant-keys
invariant-keys l = l.messages ≡ l.initial.messages ++ flat_map (missing_messages l.self.family.now) (take l.k l.keys)
