-- What the laws of the crate say. `proofs/laws/Laws.antt` proves them.
use Rattle.std.specs.Prelude.{◌≡◌, flat_map, List, ℕ, ◌≤◌, length}
use Rattle.bt_text.specs.Pieces.{bytes_of, pieces}
use Rattle.bt_text.specs.LineBreaks.{broken, broken_within}

-- The pieces of a text leave out no byte and add none.
abbrev pub PiecesMakeUpTheText : Type 0
PiecesMakeUpTheText = (text : List ℕ) → flat_map bytes_of (pieces text) ≡ text

-- Any number of breaks from that of a text's bytes on breaks it in the same way: the number is never reached.
abbrev pub AnyBoundServes : Type 0
AnyBoundServes = (text : List ℕ) (reserve : ℕ) → length text ≤ reserve → broken_within reserve text ≡ broken text
