use Rattle.std.proofs.Common.{◌≡◌, map, take}
use Rattle.bt_resolve.specs.Listed.{parent_of}
use Rattle.bt_resolve.proofs.family.all_parents.Given as goal

abbrev pub invariant-entries : goal.invariant-entries
invariant-entries l = l.parents.items ≡ map (parent_of l.store) (take l.entry-index l.store)
