use Rattle.std.proofs.Common.{◌≡◌, take}
use Rattle.bt_resolve.specs.inner.Inheritance.{values_read}
use Rattle.bt_resolve.proofs.inheritance.values_read.Given as goal

abbrev pub invariant-entries : goal.invariant-entries
invariant-entries l = l.values.items ≡ values_read (take l.entry-index l.stored)
