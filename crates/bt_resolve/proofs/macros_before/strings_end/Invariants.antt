use Rattle.std.proofs.Common.{ℕ, ◌+◌, ◌≤◌, drop, length}
use Rattle.bt_bib.specs.Items.{items_of}
use Rattle.bt_resolve.specs.inner.Databases.{DefineNothing}
use Rattle.bt_resolve.proofs.macros_before.strings_end.Given as goal

abbrev pub invariant-pieces : goal.invariant-pieces
invariant-pieces l = (i : ℕ) → length l.pieces ≤ i + l.k → DefineNothing (items_of (drop i l.pieces))
