-- What a session over an author's files shows to the desk.
use Rattle.std.specs.Prelude.{◌≡◌, ℕ, Bool, true, false, if◌then◌else◌, List, [], ◌∷◌, map, length, ◌==◌, bytes_eq, Option, Some, None, unwrap_or}
use Rattle.bt_log.specs.declared.message.Message.{Message}
use Rattle.bt_job.specs.FileNames.{text_of}
use Rattle.bibtex.specs.declared.state.State.{State}
use Rattle.bibtex.specs.EntryText.{entry_text}
use Rattle.bt_session.specs.Author.{shown, steps_of, is_full_for}
use Rattle.bt_documents.specs.declared.document.Document.{Document}
use Rattle.bt_paper.specs.declared.known.Known.{Known}
use Rattle.bt_places.specs.Shown.{Shown as Sight}
use Rattle.bt_paper.specs.Known.{name_of}

-- a session's text of a name, if there are a session and a name
abbrev pub text_under : Option State → Option (List ℕ) → Option (List ℕ)
text_under None name = None
text_under (Some s) None = None
text_under (Some s) (Some name) = text_of s.texts name

-- the text of the file at a URI
abbrev pub text_at : Option State → List Known → List ℕ → Option (List ℕ)
text_at session known uri = text_under session (name_of known uri)

-- whether a session has no room for a file of this name, or there is no session or no file
abbrev pub refuses_under : Option State → Option (List ℕ) → Bool
refuses_under None name = true
refuses_under (Some s) None = true
refuses_under (Some s) (Some name) = is_full_for s.texts name

-- whether the file at a URI is none of the job, or the session has no room for it; a text of any size is admitted
abbrev pub refuses_at : Option State → List Known → List ℕ → Bool
refuses_at session known uri = refuses_under session (name_of known uri)

-- the messages of the run
abbrev pub messages_of : Option State → List Message
messages_of None = []
messages_of (Some s) = (shown s).messages

-- the bibliography
abbrev pub bibliography_of : Option State → List ℕ
bibliography_of None = []
bibliography_of (Some s) = (shown s).bbl

-- the log
abbrev pub log_of : Option State → List ℕ
log_of None = []
log_of (Some s) = (shown s).blg

-- the run's status
abbrev pub status_of : Option State → ℕ
status_of None = 0
status_of (Some s) = (shown s).status

-- what the entry of a key prints
abbrev pub entry_of : Option State → List ℕ → List ℕ
entry_of None key = []
entry_of (Some s) key = entry_text key (steps_of s)

-- a file's URI and its text, which is empty if the run has none
abbrev pub file_of : Option State → Known → List ℕ × List ℕ
file_of session k = (k.uri, unwrap_or (text_under session (Some k.name)) [])

-- the files of the run
abbrev pub files_of : Option State → List Known → List (List ℕ × List ℕ)
files_of session known = map (file_of session) known

-- what the desk sees
abbrev pub shown_of : Option State → List Known → Sight
shown_of session known =
    record {
      name = name_of known;
      messages = messages_of session;
      files = files_of session known;
      entry_text = entry_of session;
      bibliography = bibliography_of session;
      log = log_of session;
      status = status_of session;
    }

-- A session runs the job of a name, with min-crossrefs 2 as BibTeX has it. There is none if no job is named.
abbrev pub IsOfJob : List ℕ → Option State → Type 0
IsOfJob root None = (length root == 0) ≡ true
IsOfJob root (Some s) = (s.root ≡ root) × (s.min ≡ 2)

-- the job stays
abbrev pub KeepsJob : State → State → Type 0
KeepsJob old new = (new.root ≡ old.root) × (new.min ≡ old.min)

-- whether one of the documents has this name
abbrev pub is_among : List ℕ → List Document → Bool
is_among name [] = false
is_among name (d ∷ ds) = if bytes_eq d.name name then true else is_among name ds

-- a name has this text now, and every other has the one that it had
abbrev pub GivesText : List ℕ → List ℕ → State → State → Type 0
GivesText name new old after =
    (other : List ℕ) → text_of after.texts other ≡ (if bytes_eq name other then Some new else text_of old.texts other)

-- every other name has the text that it had
abbrev pub OthersStay : List ℕ → State → State → Type 0
OthersStay name old after = (other : List ℕ) → bytes_eq name other ≡ false → text_of after.texts other ≡ text_of old.texts other

-- files keep their texts, whatever others come
abbrev pub KeepsTexts : (List ℕ → Option (List ℕ)) → (List ℕ → Option (List ℕ)) → Type 0
KeepsTexts old new = (uri text : List ℕ) → old uri ≡ Some text → new uri ≡ Some text

-- the same but for the file at a URI
abbrev pub KeepsOthers : List ℕ → (List ℕ → Option (List ℕ)) → (List ℕ → Option (List ℕ)) → Type 0
KeepsOthers but old new = (uri text : List ℕ) → bytes_eq uri but ≡ false → old uri ≡ Some text → new uri ≡ Some text
