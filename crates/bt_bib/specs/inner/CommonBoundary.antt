-- What is re-read up to a boundary.
use Rattle.std.specs.Prelude.{ℕ, ◌+◌, ◌-◌, ◌≡◌, ◌≤◌, Bool, true, false, List, [], ◌∷◌, length, take, Option, Some, None, if◌then◌else◌}
use Rattle.bt_bib.specs.declared.spot.Spot.{Spot}
use Rattle.bt_bib.specs.declared.placed_pieces.PlacedPiece.{PlacedPiece}
use Rattle.bt_bib.specs.Spot.{start}
use Rattle.bt_bib.specs.Boundaries.{last_end}
use Rattle.bt_bib.specs.Splice.{is_common}

-- pieces up to the first boundary that passes a test
abbrev pub until : (ℕ → Bool) → Spot → List PlacedPiece → List PlacedPiece
until test s [] = []
until test s (p ∷ ps) = if test s.place then [] else p ∷ until test p.end ps

-- how many pieces of the old text end at or before a place, if the place is a common boundary
abbrev pub IsJoint : List PlacedPiece → ℕ → ℕ → ℕ → ℕ → Option ℕ → Type 0
IsJoint old begin end inserted place None = is_common old begin end inserted place ≡ false
IsJoint old begin end inserted place (Some index) =
    (is_common old begin end inserted place ≡ true) × (index ≤ length old) ×
    ((last_end start (take index old)).place ≡ place - (begin + inserted) + end)
