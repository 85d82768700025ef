use Rattle.std.proofs.Common.{◌≡◌, drop, map}
use Rattle.bt_bib.specs.Items.{items_of}
use Rattle.bt_text.specs.ByName.{known}
use Rattle.bt_resolve.specs.Resolved.{all_items}
use Rattle.bt_resolve.specs.inner.Databases.{macros_after}
use Rattle.bt_resolve.proofs.macros_before.define_databases.Given as goal

abbrev pub invariant-databases : goal.invariant-databases
invariant-databases l = macros_after (known l.macros) (all_items (map items_of (drop l.k l.databases))) ≡ macros_after (known l.initial.macros) (all_items (map items_of l.databases))
