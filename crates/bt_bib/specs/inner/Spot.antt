-- Spots that lie in a text.
use Rattle.std.specs.Prelude.{ℕ, ◌+◌, ◌≤◌, List, length}
use Rattle.bt_bib.specs.declared.spot.Spot.{Spot}

-- the spot lies in the text
pub record IsIn (text : List ℕ) (s : Spot) : Type 0 where
  pub place : s.place ≤ length text
  pub line : s.line ≤ s.place + 1

-- the spot lies in the text, at another one or after it
pub record IsAhead (text : List ℕ) (from s : Spot) : Type 0 where
  pub order : from.place ≤ s.place
  pub place : s.place ≤ length text
  pub line : s.line ≤ s.place + 1
