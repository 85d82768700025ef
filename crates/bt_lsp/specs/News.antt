-- What the editor is told after a change.
use Rattle.std.specs.Prelude.{ℕ, nat_lt, not, ◌||◌, ◌&&◌, Bool, if◌then◌else◌, List, [], ◌∷◌, ◌++◌, map, length, codes, Option, Some, None}
use Rattle.serde_json.specs.Data.{Data, number, unsigned, string, object, member, no_members}
use Rattle.bt_rpc.specs.Messages.{notification}
use Rattle.bt_documents.specs.declared.document.Document.{Document}
use Rattle.bt_diagnostics.specs.declared.diagnostic.Diagnostic.{Diagnostic}
use Rattle.bt_diagnostics.specs.Diagnostics.{diagnostics}
use Rattle.bt_lsp.specs.declared.methods.Notice.{Notice}
use Rattle.bt_lsp.specs.declared.methods.Notice.TheVariants.{Opened, Changed, Closed, Saved, Exit, Other}
use Rattle.bt_places.specs.Shown.{Shown}
use Rattle.bt_lsp.specs.declared.server.Server.{Server}
use Rattle.bt_lsp.specs.Announcing.{with_announced}
use Rattle.bt_places.specs.Parameters.{text_at}
use Rattle.bt_places.specs.Entries.{is_style, is_tex, or_empty}
use Rattle.bt_answers.specs.Keys.{role_of, key_spans}
use Rattle.bt_answers.specs.Faults.{with_faults}
use Rattle.bt_answers.specs.Hints.{with_hints}
use Rattle.bt_answers.specs.Related.{diagnostics_in}
use Rattle.bt_places.specs.Shapes.{publication}
use Rattle.bt_lsp.specs.Placing.{fault_in, found_in, with_messages}
use Rattle.bt_lsp.specs.Styles.{with_style_hints}
use Rattle.bt_style_text.specs.declared.words.Word.{Word}

-- the name that the run has for a document's file; empty if it has none
abbrev pub run_name : Shown → Document → List ℕ
run_name shown d = or_empty (shown.name d.name)

-- Whether messages are shown in a document: the run has its text, or it is a LaTeX text, which cites keys but is no file of
-- the run.
abbrev pub shows : Document → Bool
shows d = d.in_step || is_tex d.name

-- The diagnostics of a document of at most 1 GiB: the messages of the run at their places in its text, or at the keys that
-- they are about.
abbrev pub shown_of : Shown → Document → List Diagnostic
shown_of shown d =
    if not (shows d) || nat_lt 1073741824 (length d.text) then []
    else diagnostics (run_name shown d) d.counting d.text (role_of d.name) (key_spans shown d) shown.messages

-- whether a document is a style of at most 256 KiB of which the run has the text
abbrev pub is_run_style : Document → Bool
is_run_style d = d.in_step && is_style d.name && not (nat_lt 262144 (length d.text))

-- the word of the fault of the run's style, if a document is that and the word is known
abbrev pub fault_for : Shown → Document → Option Word
fault_for shown d = if is_run_style d then fault_in (run_name shown d) d.text shown.messages else None

-- the diagnostics of the run's style, at words
abbrev pub style_values : {P : Type 0} → (P → Shown) → Server P → Option Word → Document → List Data
style_values shown s fault d =
    with_messages s.shows_related d fault
    (found_in (run_name (shown s.paper) d) d (role_of d.name) (key_spans (shown s.paper) d)) s.step_words [] (shown s.paper).messages

-- the diagnostics of a document in the form of the protocol
abbrev pub values_of : {P : Type 0} → (P → Shown) → Server P → Option Word → Document → List Data
values_of shown s fault d =
    if is_run_style d then style_values shown s fault d else diagnostics_in s.shows_related d (shown_of (shown s.paper) d)

-- the notification that publishes them, errors about files at their names, the hints, and what the check of a style found
abbrev pub publication_of : {P : Type 0} → (P → Shown) → Server P → Document → Data
publication_of shown s d =
    let fault = fault_for (shown s.paper) d in
    publication d.name (with_style_hints s.checked fault d (with_hints (shown s.paper).files d
    (with_faults (shown s.paper) d (values_of shown s fault d))))

-- the diagnostics of each open document
abbrev pub all_published : {P : Type 0} → (P → Shown) → Server P → List Document → List Data
all_published shown s docs = map (publication_of shown s) docs

-- what comes first, then the diagnostics of each open document, and what is announced
abbrev pub news : {P : Type 0} → (P → Shown) → Server P → List Data → List Data
news shown s first = with_announced s.announced (shown s.paper) (first ++ all_published shown s s.documents)

-- what the editor is told if a message was lost
abbrev pub lost_words : List ℕ
lost_words = codes "bibtex-lsp lost a message. Close the changed files and open them again."

-- what it is told if memory ran out for a document's text
abbrev pub behind_words : List ℕ
behind_words = codes "bibtex-lsp is out of memory: the bibliography lags behind. It tries again with your next change."

-- the parameters of a warning in these words
abbrev pub warning_params : List ℕ → Data
warning_params words = object (member (codes "message") (string words) (member (codes "type") (number (unsigned 2)) no_members))

-- the warning
abbrev pub warning : List ℕ → Data
warning words = notification (codes "window/showMessage") (warning_params words)

-- the warning, if it is due
abbrev pub warned : List ℕ → Bool → List Data
warned words is_due = if is_due then warning words ∷ [] else []

-- the warnings: that a message was lost, and that memory ran out for a document's text
abbrev pub warnings : Bool → Bool → List Data
warnings lost behind = warned lost_words lost ++ warned behind_words behind

-- that the document of this URI has no diagnostics, if there is a URI
abbrev pub cleared_at : Option (List ℕ) → List Data
cleared_at None = []
cleared_at (Some uri) = publication uri [] ∷ []

-- that a document which is closed has no diagnostics
abbrev pub cleared : Notice → Data → List Data
cleared Closed m = cleared_at (text_at (codes "/params/textDocument/uri") m)
cleared Opened m = []
cleared Changed m = []
cleared Saved m = []
cleared Exit m = []
cleared Other m = []
