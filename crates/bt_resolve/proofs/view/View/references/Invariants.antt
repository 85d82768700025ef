use Rattle.std.proofs.Common.{◌≡◌, ◌++◌, take}
use Rattle.std.specs.List.{flat_map}
use Rattle.bt_resolve.specs.References.{reference_messages}
use Rattle.bt_resolve.proofs.view.View.references.Given as goal

abbrev pub invariant-places : goal.invariant-places
invariant-places l = l.messages ≡ l.initial.messages ++ flat_map (reference_messages l.self.asked.now.keys l.self.family.now) (take l.place-index l.places)
