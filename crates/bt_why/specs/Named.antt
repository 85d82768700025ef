-- What the marks of bytes name.
use Rattle.std.specs.Prelude.{◌≡◌, ℕ, Bool, true, false, List, [], ◌∷◌, Option, Some, None, Vec, All, option_and_then, ◌||◌, nat_eq, slice_get, slice_index_or, option_map}
use Rattle.std.specs.declared.alloc.Global.{Global}
use Rattle.bt_actions.specs.declared.entry.Entry.{Entry}
use Rattle.bt_style.specs.declared.builtin.Builtin.{Builtin}
use Rattle.std.specs.Char.{to_ascii_lowercase}
use Rattle.bt_words.specs.Constants.{constant_at}
use Rattle.bt_why.specs.declared.machine.Machine.{Machine}
use Rattle.bt_marks.specs.declared.marks.Mark.{Mark}
use Rattle.bt_marks.specs.Places.{mark_at, step_at}
use Rattle.bt_marks.specs.declared.marks.Site.{Site}
use Rattle.bt_marks.specs.declared.marks.Source.{Source}
use Rattle.bt_marks.specs.declared.marks.Source.TheVariants.{Literal, Quote, Field, Key, «Type» as Kind, Preamble, Indent, Made, Added, Put}
use Rattle.bt_marks.specs.declared.lines.Written.{Written}
use Rattle.bt_why.specs.declared.rerun.Rerun.{Rerun}

-- the entry of the step in which a word ran
abbrev pub entry_at : Machine → Site → Option Entry
entry_at m site =
    option_and_then (λ p. slice_get m.entries.now p) (option_and_then (λ step. slice_index_or m.step_entries.items step None) (step_at m.marks site))

-- the text that a source names, for a word; none for what built-in functions made
abbrev pub text_named : Machine → Site → Source → Option (List ℕ)
text_named m site (Literal number) = Some (constant_at m.program.now number)
text_named m site Quote = Some (34 ∷ [])
text_named m site Indent = Some (32 ∷ [])
text_named m site (Field field) = option_and_then (λ e. slice_index_or e.fields field None) (entry_at m site)
text_named m site Key = option_map (λ e. e.key) (entry_at m site)
text_named m site Kind = option_map (λ e. e.kind) (entry_at m site)
text_named m site Preamble = Some m.preamble.now
text_named m site (Made b of) = None
text_named m site (Added b of) = None
text_named m site (Put b) = None

-- whether a built-in function added what has this source
abbrev pub is_added : Source → Bool
is_added (Added b of) = true
is_added (Put b) = true
is_added source = false

-- whether a byte is the one that is named; if a built-in function changed it, it may be a space, or a letter in another case
abbrev pub is_byte_of : Bool → ℕ → ℕ → Bool
is_byte_of false named byte = nat_eq byte named
is_byte_of true named byte = nat_eq byte 32 || nat_eq (to_ascii_lowercase byte) (to_ascii_lowercase named)

-- A byte is right if its mark leads, through what built-in functions made of it, to a place that has it, or to what a
-- built-in function added. The truth value says whether one has changed it on the way.
pub data IsRight (m : Machine) (byte at : ℕ) : Bool → ℕ → Type 0 where
  -- the place that the mark names has the byte
  Named : (made : Bool) (number : ℕ) (mark : Mark) (text : List ℕ) (named : ℕ) → mark_at m.marks number ≡ Some mark →
      text_named m mark.site mark.source ≡ Some text → slice_get text at ≡ Some named →
      is_byte_of made named byte ≡ true → IsRight m byte at made number
  -- a built-in function made it of what another mark names
  Changed : (made : Bool) (number : ℕ) (mark : Mark) (by : Builtin) (of : ℕ) → mark_at m.marks number ≡ Some mark →
      mark.source ≡ Made by of → IsRight m byte at true of → IsRight m byte at made number
  -- a built-in function added it
  Supplied : (made : Bool) (number : ℕ) (mark : Mark) → mark_at m.marks number ≡ Some mark → is_added mark.source ≡ true →
      IsRight m byte at made number

-- every byte of a line is right
abbrev pub IsLineRight : Machine → List Written → Type 0
IsLineRight m line = All (λ w. IsRight m w.marked.byte w.marked.at false w.marked.mark) line

-- every byte of some lines is right
abbrev pub AreRight : Machine → List (Vec Written Global) → Type 0
AreRight m lines = All (λ line. IsLineRight m line.items) lines

-- every byte of the lines of some steps is right
abbrev pub AllRight : Machine → List Rerun → Type 0
AllRight m steps = All (λ step. AreRight m step.left.lines.items) steps
