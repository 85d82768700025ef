-- Parts of rules, for the functions and lemmas that speak of them.
use Rattle.std.specs.Prelude.{ℕ, ◌+◌, if◌then◌else◌, List, [], ◌∷◌, ◌++◌, take, drop, Option, None, Some}
use Rattle.bt_text.specs.declared.modes.Mode.{Mode}
use Rattle.bt_text.specs.declared.modes.Mode.TheVariants.{Title, Lower, Upper}
use Rattle.bt_text.specs.declared.output.Output.{Output}
use Rattle.bt_text.specs.ByteTests.{is_brace, is_white, space}
use Rattle.bt_text.specs.CaseChange.{large_control, small_control}
use Rattle.bt_text.specs.LineBreaks.{line_unless_empty}
use Rattle.bt_text.specs.Pieces.{Piece, brace, other}
use Rattle.bt_text.specs.White.{begins_white}

-- a byte outside of special characters
abbrev pub single : ℕ → Piece
single b = if is_brace b then brace b else other b

-- a control sequence in the case of the mode
abbrev pub changed_control : Mode → (name gap : List ℕ) → List ℕ
changed_control Upper name gap = large_control name gap
changed_control Lower name gap = small_control name gap
changed_control Title name gap = small_control name gap

-- what is left of the byte b before t: of a run of white space its last byte, as a space
abbrev pub joined_byte : ℕ → List ℕ → List ℕ
joined_byte b t = if is_white b then (if begins_white t then [] else space ∷ []) else b ∷ []

-- A text that is broken at this place, and whose rest is broken again.
abbrev pub broken_at : List ℕ → (List ℕ → Output) → Option ℕ → Output
broken_at t again None = record { lines = []; held = t }
broken_at t again (Some i) =
    let b = again (space ∷ space ∷ drop (i + 1) t) in
    record { lines = line_unless_empty (take i t) ++ b.lines; held = b.held }
