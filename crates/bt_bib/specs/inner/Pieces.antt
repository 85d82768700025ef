-- An item of the code with the place after it, which may be a fault's.
use Rattle.std.specs.Prelude.{◌≡◌, ℕ, Option, Some, None, Result, Ok, Err}
use Rattle.bt_bib.specs.declared.spot.Spot.{Spot}
use Rattle.bt_bib.specs.declared.item.Closing.{Closing}
use Rattle.bt_bib.specs.declared.item.Content.{Content}
use Rattle.bt_bib.specs.declared.item.Piece.{Piece}
use Rattle.bt_bib.specs.declared.item.Piece.TheVariants as pieces
use Rattle.bt_bib.specs.declared.stop.ReadStop.{ReadStop}
use Rattle.bt_bib.specs.declared.stop.ReadStop.TheVariants.{OutOfMemory, Stopped}

-- A piece of the code, with the place after it, is an item with such an end. If memory ran out, there is none.
abbrev pub IsFaulty : ℕ → Content → Option Closing → ReadStop → Piece × Spot → Type 0
IsFaulty line content close OutOfMemory made = ⊥
IsFaulty line content close (Stopped fault s) made =
    made ≡ (pieces.Item (record { line = line; content = content; close = close; fault = Some fault }), s)

abbrev pub IsItem : ℕ → Content → Option Closing → Result Spot ReadStop → Piece × Spot → Type 0
IsItem line content close (Ok s) made =
    made ≡ (pieces.Item (record { line = line; content = content; close = close; fault = None }), s)
IsItem line content close (Err halt) made = IsFaulty line content close halt made
