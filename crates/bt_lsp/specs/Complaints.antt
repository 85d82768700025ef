-- What an editor is told of errors about files for which no open document has a place.
use Rattle.std.specs.Prelude.{ℕ, Bool, false, ◌&&◌, ◌||◌, not, if◌then◌else◌, List, [], ◌∷◌, ◌++◌, codes, length, bytes_eq, Option, Some, None}
use Rattle.std.specs.List.{fold}
use Rattle.bt_shapes.specs.Text.{as_utf8}
use Rattle.serde_json.specs.Data.{Data}
use Rattle.bt_log.specs.declared.message.Message.{Message}
use Rattle.bt_log.specs.declared.message.Place.{Place}
use Rattle.bt_log.specs.declared.message.Place.TheVariants.{Line, DatabaseLine, WholeFile, Step}
use Rattle.bt_documents.specs.declared.document.Document.{Document}
use Rattle.bt_mentions.specs.declared.linking.Link.{Link}
use Rattle.bt_mentions.specs.Links.{links}
use Rattle.bt_places.specs.Entries.{is_tex}
use Rattle.bt_answers.specs.Faults.{fault_words, faulty_file, is_fault, is_some_text, linked_name}
use Rattle.bt_lsp.specs.News.{run_name, warning}
use Rattle.bt_places.specs.Shown.{Shown}

-- whether links of a text mean a file, or it is known already
abbrev pub or_means : List ℕ → List ℕ → Bool → Link → Bool
or_means words file known l = known || bytes_eq (linked_name words l) file

-- whether a document is a text of LaTeX that names a file
abbrev pub names_file : List ℕ → Document → Bool
names_file file d = is_tex d.name && fold (or_means d.text file) false (links d.text)

-- the file of a line; empty if there is none
abbrev pub file_of : Option Place → List ℕ
file_of None = []
file_of (Some (Line file line byte)) = file
file_of (Some (DatabaseLine database line byte)) = []
file_of (Some (WholeFile file)) = file
file_of (Some (Step style line)) = style

-- whether an error is shown in a document: at its line, or at its file's name
abbrev pub is_shown_in : Shown → Message → Document → Bool
is_shown_in shown m d = (d.in_step && bytes_eq (file_of m.place) (run_name shown d)) || names_file (faulty_file m) d

-- whether an error is shown in a document, or in an earlier one
abbrev pub or_shown_in : Shown → Message → Bool → Document → Bool
or_shown_in shown m known d = known || is_shown_in shown m d

-- whether an error about a file is shown in no document
abbrev pub is_homeless : Shown → List Document → Message → Bool
is_homeless shown docs m = is_fault m && not (fold (or_shown_in shown m) false docs)

-- a text with what such an error says
abbrev pub with_complaint : Shown → List Document → List ℕ → Message → List ℕ
with_complaint shown docs words m =
    if is_homeless shown docs m then words ++ (codes " " ++ fault_words (length shown.files) m.said ++ codes ".") else words

-- what is said if there has been no run, since there is no job: its log is empty
abbrev pub jobless_words : List ℕ
jobless_words = codes " I found no .aux file that names a database. Run latex once, or choose the paper."

-- what there is to say of errors about files for which no document has a place; empty if there is nothing
abbrev pub complaints : Shown → List Document → List ℕ
complaints shown docs =
    if is_some_text shown.log then fold (with_complaint shown docs) [] shown.messages else jobless_words

-- the warning in these words
abbrev pub complaint : List ℕ → Data
complaint words = warning (as_utf8 (codes "bibtex-lsp:" ++ words))

-- a list with what there is to say, unless that is nothing or was said before
abbrev pub with_complaints : List ℕ → List ℕ → List Data → List Data
with_complaints said words list =
    if not (is_some_text words) || bytes_eq words said then list else list ++ complaint words ∷ []
