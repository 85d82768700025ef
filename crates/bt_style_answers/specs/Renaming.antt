-- Renames the name under the cursor.
use Rattle.std.specs.Prelude.{ℕ, List, [], ◌∷◌, map, Option, Some, None, Result, Ok, Err}
use Rattle.serde_json.specs.Data.{Data, null}
use Rattle.serde_json.specs.View.{view}
use Rattle.serde_json.specs.declared.value.Value.{Value}
use Rattle.bt_positions.specs.Positions.{offset_of}
use Rattle.bt_positions.specs.declared.counting.Counting.{Counting}
use Rattle.bt_positions.specs.declared.indexed_text.Position.{Position}
use Rattle.bt_style_text.specs.declared.marks.Mark.{Mark}
use Rattle.bt_style_text.specs.declared.renaming.RenameRefusal.{RenameRefusal}
use Rattle.bt_style_text.specs.declared.renaming.RenameRefusal.TheVariants.{NotDeclared}
use Rattle.bt_style_text.specs.Marks.{marks_of}
use Rattle.bt_style_text.specs.Names.{name_at, definition}
use Rattle.bt_style_text.specs.Renaming.{rename}
use Rattle.bt_shapes.specs.Shapes.{range_of, text_edit, file_edit, workspace_edit}

-- a value as data, or why there is none
abbrev pub refused_or : Result Value RenameRefusal → Result Data RenameRefusal
refused_or (Ok v) = Ok (view v)
refused_or (Err why) = Err why

-- the edit that gives a mark a new name
abbrev pub edit_of : Counting → List ℕ → List ℕ → Mark → Data
edit_of c words new mark = text_edit (range_of c words mark.start mark.end) new

-- the edits of one file
abbrev pub file_changes : List ℕ → List Data → Data
file_changes uri edits = workspace_edit (file_edit uri edits ∷ [])

abbrev pub edits_or_refusal : Counting → List ℕ → List ℕ → List ℕ → Result (List Mark) RenameRefusal → Result Data RenameRefusal
edits_or_refusal c uri words new (Ok marks) = Ok (file_changes uri (map (edit_of c words new) marks))
edits_or_refusal c uri words new (Err refusal) = Err refusal

-- the edits that give the name at a position a new one, or why it can't have this one
abbrev pub rename_at : Counting → List ℕ → List ℕ → Position → List ℕ → Result Data RenameRefusal
rename_at c uri words at new = edits_or_refusal c uri words new (rename words (marks_of words) (offset_of c at words) new)

abbrev pub range_or_refusal : Counting → List ℕ → Option Mark → Option Mark → Result Data RenameRefusal
range_or_refusal c words (Some mark) (Some declaration) = Ok (range_of c words mark.start mark.end)
range_or_refusal c words (Some mark) None = Err NotDeclared
range_or_refusal c words None declaration = Ok null

-- the range of the name at a position; null if there is none, and refused if the style doesn't declare it
abbrev pub renamed_range_at : Counting → List ℕ → Position → Result Data RenameRefusal
renamed_range_at c words at =
    range_or_refusal c words (name_at (offset_of c at words) (marks_of words))
    (definition words (marks_of words) (offset_of c at words))
