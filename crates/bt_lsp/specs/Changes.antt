-- The changes of a `didChange`.
use Rattle.std.specs.Prelude.{ℕ, List, [], ◌∷◌, ◌++◌, codes, Option, Some, None, option_map, option_and_then}
use Rattle.serde_json.specs.Data.{Data, Items, no_items, item}
use Rattle.serde_json.specs.Find.{pointer, as_array}
use Rattle.bt_positions.specs.declared.counting.Counting.{Counting}
use Rattle.bt_positions.specs.declared.indexed_text.Position.{Position}
use Rattle.bt_documents.specs.declared.changes.Change.{Change}
use Rattle.bt_documents.specs.declared.changes.Change.TheVariants.{Whole, Range}
use Rattle.bt_places.specs.Parameters.{text_at, position_at}
use Rattle.bt_places.specs.Words.{bytes_of}

-- the change to these bytes of the part between two positions, or of the whole text if one of them is missing
abbrev pub change_between : Option Position → Option Position → List ℕ → Change
change_between (Some from) (Some to) bytes = Range from to bytes
change_between (Some from) None bytes = Whole bytes
change_between None to bytes = Whole bytes

-- a change; none if it has no text
abbrev pub change_of : Counting → Data → Option Change
change_of c d =
    option_map (λ text. change_between (position_at (codes "/range/start/line") (codes "/range/start/character") d)
    (position_at (codes "/range/end/line") (codes "/range/end/character") d) (bytes_of c text))
    (text_at (codes "/text") d)

-- these changes and those of a list, in order; none if one of the list has no text
abbrev pub changes_with : Counting → List Change → Items → Option (List Change)
changes_with c done no_items = Some done
changes_with c done (item d ds) = elim (change_of c d) [ None ↦ None | Some x ↦ changes_with c (done ++ x ∷ []) ds ]

-- the changes of a message; none if they can't be read
abbrev pub changes_of : Counting → Data → Option (List Change)
changes_of c m =
    option_and_then (changes_with c []) (option_and_then as_array (pointer (codes "/params/contentChanges") m))
