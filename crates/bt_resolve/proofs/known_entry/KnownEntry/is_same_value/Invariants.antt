use Rattle.std.proofs.Common.{drop}
use Rattle.bt_text.specs.ByName.{known}
use Rattle.bt_resolve.specs.inner.KnownEntries.{IsSameValue}
use Rattle.bt_resolve.proofs.known_entry.KnownEntry.is_same_value.Given as goal

abbrev pub invariant-parts : goal.invariant-parts
invariant-parts l = IsSameValue (known l.self.macros.now) (known l.macros) (drop l.k l.parts) → IsSameValue (known l.self.macros.now) (known l.macros) l.parts
