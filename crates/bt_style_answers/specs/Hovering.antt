-- What is shown of the name under the cursor.
use Rattle.std.specs.Prelude.{ℕ, Bool, if◌then◌else◌, List, [], ◌∷◌, codes}
use Rattle.serde_json.specs.Data.{Data, null, string, object, member, no_members}
use Rattle.bt_positions.specs.Positions.{offset_of}
use Rattle.bt_positions.specs.declared.counting.Counting.{Counting}
use Rattle.bt_positions.specs.declared.indexed_text.Position.{Position}
use Rattle.bt_style_text.specs.Marks.{marks_of}
use Rattle.bt_style_text.specs.Hover.{hover_of}
use Rattle.bt_effects.specs.Words.{with_notes}
use Rattle.bt_shapes.specs.Shapes.{text}

-- the format of words, as the protocol calls it
abbrev pub kind_of : Bool → List ℕ
kind_of plain = if plain then codes "plaintext" else codes "markdown"

-- what a hover shows of words, as plain text or in Markdown
abbrev pub hover_contents : Bool → List ℕ → Data
hover_contents plain words =
    object (member (codes "contents") (object (member (codes "kind") (string (kind_of plain))
    (member (codes "value") (text words) no_members))) no_members)

abbrev pub shown_words : Bool → List ℕ → Data
shown_words plain [] = null
shown_words plain (b ∷ words) = hover_contents plain (b ∷ words)

-- what is shown of the name at a position, and the notes below; null if there is nothing to say
abbrev pub hover_at : Bool → Counting → List ℕ → Position → List ℕ → Data
hover_at plain c words at notes = shown_words plain (with_notes (hover_of words (marks_of words) (offset_of c at words)) notes)
