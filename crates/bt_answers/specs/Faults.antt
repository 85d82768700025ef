-- Files that the run couldn't use, shown where a text of LaTeX names them.
use Rattle.std.specs.Prelude.{ℕ, nat_lt, Bool, true, false, ◌||◌, not, if◌then◌else◌, List, [], ◌∷◌, ◌++◌, length, codes, bytes_eq}
use Rattle.std.specs.List.{fold, list_any}
use Rattle.serde_json.specs.Data.{Data, number, unsigned, string, object, member, no_members}
use Rattle.bt_log.specs.declared.message.Message.{Message}
use Rattle.bt_log.specs.declared.message.Rank.{Rank}
use Rattle.bt_log.specs.declared.message.Rank.TheVariants.{FileLine, Note, CallCount, Warning, Error, Fatal}
use Rattle.bt_log.specs.declared.message.Said.{Said}
use Rattle.bt_log.specs.declared.message.Said.TheVariants.{Words, OfFile}
use Rattle.bt_log.specs.Wording.{said_words}
use Rattle.bt_documents.specs.declared.document.Document.{Document}
use Rattle.bt_mentions.specs.declared.linking.Link.{Link}
use Rattle.bt_mentions.specs.Databases.{part}
use Rattle.bt_mentions.specs.Links.{links}
use Rattle.bt_places.specs.Entries.{is_tex}
use Rattle.bt_places.specs.Shown.{Shown}
use Rattle.bt_answers.specs.Links.{full_name}
use Rattle.bt_places.specs.Shapes.{text, range_of}

-- whether messages of a rank are errors
abbrev pub is_error : Rank → Bool
is_error FileLine = false
is_error Note = false
is_error CallCount = false
is_error Warning = false
is_error Error = true
is_error Fatal = true

-- the file that words are about; empty if they are about none
abbrev pub file_said : Said → List ℕ
file_said (Words words) = []
file_said (OfFile note file) = file

-- the file that an error is about, such as a missing database; empty for any other message
abbrev pub faulty_file : Message → List ℕ
faulty_file m = if is_error m.rank then file_said m.said else []

-- whether a text has a byte
abbrev pub is_some_text : List ℕ → Bool
is_some_text [] = false
is_some_text (b ∷ t) = true

-- whether a message is an error about a file
abbrev pub is_fault : Message → Bool
is_fault m = is_some_text (faulty_file m)

-- whether some messages are errors about files
abbrev pub any_fault : List Message → Bool
any_fault messages = list_any is_fault messages

-- the name of the file that a link of a text means
abbrev pub linked_name : List ℕ → Link → List ℕ
linked_name words l = full_name [] l.kind (part l.from l.to words)

-- the diagnostic of a fault
abbrev pub fault_value : Data → List ℕ → Data
fault_value range words =
    object (member (codes "message") (text words) (member (codes "range") range
    (member (codes "severity") (number (unsigned 1)) (member (codes "source") (string (codes "bibtex")) no_members))))

-- what an error about a file says, if the paper has this number of files; if it has 64, the file may be there
abbrev pub fault_words : ℕ → Said → List ℕ
fault_words count said =
    if nat_lt count 64 then said_words said
    else said_words said ++ codes ". This paper has 64 files, and bibtex-lsp can open no more"

-- a list with the diagnostic of a message at a link, if it is about the file of this name
abbrev pub with_fault : ℕ → Document → Link → List ℕ → List Data → Message → List Data
with_fault count d l name list m =
    if bytes_eq (faulty_file m) name then list ++ fault_value (range_of d.counting d.text l.from l.to) (fault_words count m.said) ∷ []
    else list

-- a list with the diagnostics of messages at a link of a document
abbrev pub with_faults_at : Shown → Document → List Data → Link → List Data
with_faults_at shown d list l = fold (with_fault (length shown.files) d l (linked_name d.text l)) list shown.messages

-- A list with the errors about files at the names of these files in a document, if it is a text of LaTeX of at most 1 GiB.
abbrev pub with_faults : Shown → Document → List Data → List Data
with_faults shown d list =
    if not (is_tex d.name) || not (any_fault shown.messages) || nat_lt 1073741824 (length d.text) then list
    else fold (with_faults_at shown d) list (links d.text)
