-- The diagnostics of a run in a document.
use Rattle.std.specs.Prelude.{ℕ, min, length, if◌then◌else◌, List, ◌∷◌, ◌++◌, Option, Some, None, filter_map, bytes_eq}
use Rattle.bt_positions.specs.declared.counting.Counting.{Counting}
use Rattle.bt_positions.specs.Positions.{position_of}
use Rattle.bt_log.specs.declared.message.Message.{Message}
use Rattle.bt_log.specs.declared.message.Rank.{Rank}
use Rattle.bt_log.specs.declared.message.Rank.TheVariants.{FileLine, Note, CallCount, Warning, Error, Fatal}
use Rattle.bt_log.specs.declared.message.Place.{Place}
use Rattle.bt_log.specs.declared.message.Place.TheVariants.{Line, DatabaseLine, WholeFile, Step}
use Rattle.bt_log.specs.Wording.{said_words}
use Rattle.bt_diagnostics.specs.declared.diagnostic.Diagnostic.{Diagnostic}
use Rattle.bt_diagnostics.specs.declared.keys.KeyRole.{KeyRole}
use Rattle.bt_diagnostics.specs.declared.spans.Span.{Span}
use Rattle.bt_diagnostics.specs.Keys.{key_span}
use Rattle.bt_diagnostics.specs.Spans.{span_of}

-- the severity of a rank, as the protocol numbers it; none if its messages aren't shown
abbrev pub severity_of : Rank → Option ℕ
severity_of FileLine = None
severity_of CallCount = None
severity_of Note = Some 3
severity_of Warning = Some 2
severity_of Error = Some 1
severity_of Fatal = Some 1

-- the part of a file's text that a place means, if it lies in that file
abbrev pub span_at : List ℕ → List ℕ → Option Place → Option Span
span_at name text None = None
span_at name text (Some (Line file line byte)) = if bytes_eq file name then Some (span_of line byte text) else None
span_at name text (Some (DatabaseLine database line byte)) = None
span_at name text (Some (WholeFile file)) = if bytes_eq file name then Some (span_of 1 None text) else None
span_at name text (Some (Step style line)) = if bytes_eq style name then Some (span_of line None text) else None

-- what a message says, and its second line if it has one
abbrev pub words_of : Message → List ℕ
words_of m = elim m.second [ None ↦ said_words m.said | Some more ↦ said_words m.said ++ 10 ∷ more ]

-- the part of a document's text at which a message is shown: its place, if that is here, or else the key that it is about
abbrev pub span_for : List ℕ → List ℕ → KeyRole → (List ℕ → Option Span) → Message → Option Span
span_for name text role spans m = elim (span_at name text m.place) [ None ↦ key_span role spans m | Some s ↦ Some s ]

-- the diagnostic of a message, given its severity and a part of the text, cut off at the text's end; none if one of these
-- is missing
abbrev pub shown_at : Counting → List ℕ → Message → Option ℕ → Option Span → Option Diagnostic
shown_at c text m (Some severity) (Some s) =
    Some (record {
      from = position_of c (min s.begin (length text)) text;
      to = position_of c (min s.end (length text)) text;
      severity = severity;
      words = words_of m;
    })
shown_at c text m severity place = None

-- the diagnostic of a message in a document; none if it belongs elsewhere or isn't shown
abbrev pub diagnostic_of : List ℕ → Counting → List ℕ → KeyRole → (List ℕ → Option Span) → Message → Option Diagnostic
diagnostic_of name c text role spans m = shown_at c text m (severity_of m.rank) (span_for name text role spans m)

-- The diagnostics of messages in the text of the file with this name, in the order of the messages. The text has keys of
-- this role at these places.
abbrev pub diagnostics : List ℕ → Counting → List ℕ → KeyRole → (List ℕ → Option Span) → List Message → List Diagnostic
diagnostics name c text role spans messages = filter_map (diagnostic_of name c text role spans) messages
