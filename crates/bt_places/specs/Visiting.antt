-- Lists of values over the files of a paper, and over LaTeX's open texts.
use Rattle.std.specs.Prelude.{ℕ, Bool, true, false, if◌then◌else◌, List, [], ◌∷◌}
use Rattle.std.specs.List.{fold}
use Rattle.serde_json.specs.Data.{Data}
use Rattle.bt_documents.specs.declared.document.Document.{Document}
use Rattle.bt_places.specs.Entries.{is_tex}

-- a list with what is added for files, each with its URI and its text
abbrev pub with_files : (List Data → List ℕ → List ℕ → List Data) → List (List ℕ × List ℕ) → List Data → List Data
with_files add [] list = list
with_files add (f ∷ files) list = with_files add files (add list f.0 f.1)

-- a list with what is added for an open text of LaTeX
abbrev pub with_tex : (List Data → List ℕ → List ℕ → List Data) → List Data → Document → List Data
with_tex add list d = if is_tex d.name then add list d.name d.text else list

-- a list with what is added for LaTeX's open texts
abbrev pub with_texts : (List Data → List ℕ → List ℕ → List Data) → List Document → List Data → List Data
with_texts add docs list = fold (with_tex add) list docs

-- whether a list has a value
abbrev pub is_any : List Data → Bool
is_any [] = false
is_any (d ∷ ds) = true
