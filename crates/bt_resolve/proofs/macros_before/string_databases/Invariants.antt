use Rattle.std.proofs.Common.{ℕ, ◌+◌, ◌≤◌, drop, length, map}
use Rattle.bt_bib.specs.Items.{items_of}
use Rattle.bt_resolve.specs.Resolved.{all_items}
use Rattle.bt_resolve.specs.inner.Databases.{DefineNothing}
use Rattle.bt_resolve.proofs.macros_before.string_databases.Given as goal

abbrev pub invariant-databases : goal.invariant-databases
invariant-databases l = (i : ℕ) → length l.databases ≤ i + l.k → DefineNothing (all_items (map items_of (drop i l.databases)))
