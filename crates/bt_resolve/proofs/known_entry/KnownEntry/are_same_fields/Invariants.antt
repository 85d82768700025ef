use Rattle.std.proofs.Common.{drop}
use Rattle.bt_text.specs.ByName.{known}
use Rattle.bt_resolve.specs.inner.KnownEntries.{AreSameFields}
use Rattle.bt_resolve.proofs.known_entry.KnownEntry.are_same_fields.Given as goal

abbrev pub invariant-fields : goal.invariant-fields
invariant-fields l = AreSameFields (known l.self.macros.now) (known l.macros) (drop l.k l.fields) → AreSameFields (known l.self.macros.now) (known l.macros) l.fields
