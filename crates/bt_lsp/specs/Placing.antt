-- The diagnostics of a style.
use Rattle.std.specs.Prelude.{ℕ, min, length, Bool, false, if◌then◌else◌, List, [], ◌∷◌, ◌++◌, map, drop, codes, bytes_eq, Option, Some, None}
use Rattle.std.specs.List.{find, fold}
use Rattle.bt_text.specs.ByName.{known}
use Rattle.serde_json.specs.Data.{Data, number, unsigned, string, array, object, member, no_members}
use Rattle.serde_json.specs.View.{items_of}
use Rattle.bt_positions.specs.Positions.{position_of}
use Rattle.bt_log.specs.declared.message.Message.{Message}
use Rattle.bt_log.specs.declared.message.Place.{Place}
use Rattle.bt_log.specs.declared.message.Place.TheVariants.{Line, Step}
use Rattle.bt_log.specs.declared.message.Said.{Said}
use Rattle.bt_log.specs.declared.message.Said.TheVariants.{Words}
use Rattle.bt_documents.specs.declared.document.Document.{Document}
use Rattle.bt_diagnostics.specs.declared.diagnostic.Diagnostic.{Diagnostic}
use Rattle.bt_diagnostics.specs.declared.keys.Keys.{Keys}
use Rattle.bt_diagnostics.specs.declared.keys.KeyRole.{KeyRole}
use Rattle.bt_diagnostics.specs.declared.spans.Span.{Span}
use Rattle.bt_diagnostics.specs.Diagnostics.{diagnostics}
use Rattle.bt_style_text.specs.declared.words.Word.{Word}
use Rattle.bt_style_faults.specs.Faulty.{faulty_word}
use Rattle.bt_style_answers.specs.Hinting.{likely_at, fault_words}
use Rattle.bt_remarks.specs.declared.step_word.CallWord.{CallWord}
use Rattle.bt_remarks.specs.declared.step_word.StepWord.{StepWord}
use Rattle.bt_places.specs.Shapes.{text, range, range_of, location, diagnostic}

-- a diagnostic at another part of a document
abbrev pub moved : Document → ℕ → ℕ → Diagnostic → Diagnostic
moved d start end f = record {
  from = position_of d.counting (min start (length d.text)) d.text;
  to = position_of d.counting (min end (length d.text)) d.text;
  severity = f.severity;
  words = f.words;
}

-- a call as a related place
abbrev pub call : Document → CallWord → Data
call d c =
    object (member (codes "location") (location d.name (range_of d.counting d.text c.start c.end))
    (member (codes "message") (text c.words) no_members))

-- a diagnostic with related places
abbrev pub diagnostic_with : Diagnostic → List Data → Data
diagnostic_with f places =
    object (member (codes "message") (text f.words) (member (codes "range") (range f.from f.to)
    (member (codes "relatedInformation") (array (items_of places))
    (member (codes "severity") (number (unsigned f.severity)) (member (codes "source") (string (codes "bibtex")) no_members)))))

-- whether a message is at a line of the file of this name
abbrev pub is_line_of : List ℕ → Option Place → Bool
is_line_of name (Some (Line file line byte)) = bytes_eq file name
is_line_of name place = false

-- the first message at a line of this file
abbrev pub first_line_of : List ℕ → List Message → Option Message
first_line_of name messages = find (λ (m : Message). is_line_of name m.place) messages

abbrev pub fault_of : List ℕ → Option Place → Said → Option Word
fault_of text (Some (Line file line byte)) (Words words) = faulty_word line words text
fault_of text place said = None

abbrev pub fault_if_any : List ℕ → Option Message → Option Word
fault_if_any text None = None
fault_if_any text (Some m) = fault_of text m.place m.said

-- the word of the style's fault, of which the first message at a line of this file speaks
abbrev pub fault_in : List ℕ → List ℕ → List Message → Option Word
fault_in name text messages = fault_if_any text (first_line_of name messages)

-- a diagnostic at a word, with the name that is probably meant if nothing declares the word
abbrev pub at_name : Document → Word → Diagnostic → Diagnostic
at_name d w f = record (moved d w.start w.end f) { words = fault_words f.words (likely_at d.text w) }

-- the diagnostic of a style's fault: at its word, if that is known
abbrev pub at_fault : Document → Option Word → Diagnostic → Data
at_fault d None f = diagnostic f
at_fault d (Some w) f = diagnostic (at_name d w f)

-- The diagnostic of a step's message: at the word that ran, if that is known, with the calls that led there if the editor
-- shows related places.
abbrev pub at_step : Bool → Document → Option StepWord → Diagnostic → Data
at_step relates d None f = diagnostic f
at_step relates d (Some w) f =
    let there = moved d w.start w.end f in if relates then diagnostic_with there (map (call d) w.calls) else diagnostic there

-- the diagnostic of a message at this place that says this, in a style with a fault at this word
abbrev pub value_at : Bool → Document → Option Word → Option StepWord → Option Place → Said → Diagnostic → Data
value_at relates d fault word (Some (Line file line byte)) (Words words) f = at_fault d fault f
value_at relates d fault word (Some (Step style line)) said f = at_step relates d word f
value_at relates d fault word place said f = diagnostic f

-- a list with a diagnostic of a message
abbrev pub with_one : Bool → Document → Option Word → Option StepWord → Message → List Data → Diagnostic → List Data
with_one relates d fault word m list f = list ++ value_at relates d fault word m.place m.said f ∷ []

-- a list with the diagnostics of a message
abbrev pub with_placed : Bool → Document → Option Word → Option StepWord → Message → List Data → List Diagnostic → List Data
with_placed relates d fault word m list found = fold (with_one relates d fault word m) list found

-- the first word of a list, if there is one
abbrev pub first_word : List (Option StepWord) → Option StepWord
first_word [] = None
first_word (w ∷ ws) = w

-- the diagnostics of a message in a style, which has keys of this role at these places
abbrev pub found_in : List ℕ → Document → KeyRole → (List ℕ → Option Span) → Message → List Diagnostic
found_in name d role spans m = diagnostics name d.counting d.text role spans (m ∷ [])

-- the same of these keys
abbrev pub found_by : Keys → List ℕ → Document → Message → List Diagnostic
found_by keys name d = found_in name d keys.role (known keys.spans)

-- A list with the diagnostics of messages in a style: each at its place (`found`), but the style's fault at its word, and the
-- message of a step at the word that ran, as far as these are known. A list has the words of the messages.
abbrev pub with_messages : Bool → Document → Option Word → (Message → List Diagnostic) → List (Option StepWord) → List Data → List Message → List Data
with_messages relates d fault found words list [] = list
with_messages relates d fault found words list (m ∷ ms) =
    with_messages relates d fault found (drop 1 words) (with_placed relates d fault (first_word words) m list (found m)) ms

-- the diagnostics of messages in a style, which has these keys
abbrev pub told_in : Bool → Document → Option Word → Keys → List ℕ → List (Option StepWord) → List Message → List Data
told_in relates d fault keys name words messages = with_messages relates d fault (found_by keys name d) words [] messages
