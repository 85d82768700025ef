-- How far a reading is before each piece, and after the last one of its database.
use Rattle.std.specs.Prelude.{ℕ, ◌+◌, List, [], ◌∷◌, ◌++◌, length}
use Rattle.bt_bib.specs.Items.{items_of}
use Rattle.bt_bib.specs.declared.placed_pieces.PlacedPiece.{PlacedPiece}
use Rattle.bt_resolve.specs.declared.asked.Asked.{Asked}
use Rattle.bt_resolve.specs.declared.reading.Reach.{Reach}
use Rattle.bt_resolve.specs.inner.Databases.{State, after_items}

abbrev pub reach : State → Reach
reach s = record { stored = length s.stored; told = length s.messages }

-- before each piece of a database
abbrev pub passed : Asked → ℕ → State → List PlacedPiece → List Reach
passed a number s [] = []
passed a number s (p ∷ ps) = reach s ∷ passed a number (after_items a number s (items_of (p ∷ []))) ps

-- and after the last one
abbrev pub reaches : Asked → ℕ → State → List PlacedPiece → List Reach
reaches a number s ps = passed a number s ps ++ reach (after_items a number s (items_of ps)) ∷ []

-- in the databases from this number on
abbrev pub database_reaches : Asked → ℕ → State → List (List PlacedPiece) → List (List Reach)
database_reaches a number s [] = []
database_reaches a number s (ps ∷ databases) =
    reaches a number s ps ∷ database_reaches a (number + 1) (after_items a number s (items_of ps)) databases
