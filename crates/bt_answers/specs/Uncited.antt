-- What a hover shows of an entry: the lines that it prints, or that nothing cites it.
use Rattle.std.specs.Prelude.{ℕ, Bool, not, ◌||◌, is_some, if◌then◌else◌, List, ◌++◌, codes, false}
use Rattle.serde_json.specs.Data.{Data, null}
use Rattle.serde_json.specs.Find.{as_null}
use Rattle.bt_text.specs.NameList.{has_name}
use Rattle.bt_positions.specs.declared.indexed_text.Position.{Position}
use Rattle.bt_documents.specs.declared.document.Document.{Document}
use Rattle.bt_places.specs.Entries.{is_database}
use Rattle.bt_places.specs.Hover.{key_at, hover_at}
use Rattle.bt_places.specs.Shown.{Shown}
use Rattle.bt_style_answers.specs.Hovering.{hover_contents}
use Rattle.bt_answers.specs.declared.hints.Names.TheVariants.{Asked}
use Rattle.bt_answers.specs.Faults.{is_some_text}
use Rattle.bt_answers.specs.Hints.{names_in, asks_all}

abbrev pub uncited_words : List ℕ → List ℕ
uncited_words key = codes "Nothing in this paper cites `" ++ key ++ codes "`."

-- what a hover shows of an entry that nothing cites
abbrev pub uncited_hover : Bool → List ℕ → Data
uncited_hover plain key = hover_contents plain (uncited_words key)

-- whether neither a citation nor a cross-reference asks for a key
abbrev pub is_uncited : List (List ℕ × List ℕ) → List ℕ → Bool
is_uncited files key =
    let asked = names_in Asked files in
    if not (is_some_text key) then false else (if asks_all asked then false else not (has_name asked key))

abbrev pub uncited_of : List (List ℕ × List ℕ) → Bool → List ℕ → Data
uncited_of files plain key = if is_uncited files key then uncited_hover plain key else null

-- that nothing cites the entry at a position of a database of the run, if that is so; otherwise null
abbrev pub uncited_at : List (List ℕ × List ℕ) → Bool → Document → Position → Data
uncited_at files plain d at =
    if not (is_database d.name) || not d.in_step then null
    else uncited_of files plain (key_at d at)

abbrev pub or_else : Data → Data → Data
or_else lines other = if is_some (as_null lines) then other else lines

-- what a hover shows at a position of a document: the lines of the entry there, or that nothing cites it
abbrev pub hovered_at : Shown → Bool → Document → Position → Data
hovered_at shown plain d at = or_else (hover_at shown.entry_text plain d at) (uncited_at shown.files plain d at)
