-- The keys of a document at which the run's messages about entries are shown.
use Rattle.std.specs.Prelude.{ℕ, ◌&&◌, ◌||◌, if◌then◌else◌, List, [], ◌∷◌, Option, Some, None}
use Rattle.std.specs.List.{list_any}
use Rattle.bt_text.specs.CaseFolding.{is_same_folded}
use Rattle.bt_text.specs.ByName.{no_value}
use Rattle.bt_documents.specs.declared.document.Document.{Document}
use Rattle.bt_diagnostics.specs.declared.keys.KeyRole.{KeyRole}
use Rattle.bt_diagnostics.specs.declared.keys.KeyRole.TheVariants.{Entry, Citation}
use Rattle.bt_diagnostics.specs.declared.spans.Span.{Span}
use Rattle.bt_diagnostics.specs.Keys.{is_at_key}
use Rattle.bt_mentions.specs.declared.mention.Mention.{Mention}
use Rattle.bt_mentions.specs.Databases.{part}
use Rattle.bt_mentions.specs.Keys.{entry_keys}
use Rattle.bt_places.specs.Entries.{is_database, is_style, is_tex}
use Rattle.bt_answers.specs.Hints.{is_small}
use Rattle.bt_places.specs.Mentioning.{citations_of}
use Rattle.bt_places.specs.Shown.{Shown}

-- what the keys of a document of this name are
abbrev pub role_of : List ℕ → KeyRole
role_of name = if is_database name then Entry else Citation

-- where a text mentions a key first; keys are compared without case
abbrev pub first_in : List ℕ → List Mention → List ℕ → Option Span
first_in text [] key = None
first_in text (m ∷ ms) key =
    if is_same_folded (part m.from m.to text) key then Some (record { begin = m.from; end = m.to }) else first_in text ms key

-- The keys at which messages are shown: a database's entries, or the citations of any other text. A small paper's LaTeX
-- texts have hints at their citations instead.
abbrev pub keys_in : List (List ℕ × List ℕ) → Document → List Mention
keys_in files d =
    if is_database d.name then entry_keys d.text
    else (if is_style d.name || (is_tex d.name && is_small files) then [] else citations_of d.name d.text)

-- where a document has them
abbrev pub spans_of : List (List ℕ × List ℕ) → Document → List ℕ → Option Span
spans_of files d = first_in d.text (keys_in files d)

-- the same, if there is a message for them
abbrev pub key_spans : Shown → Document → List ℕ → Option Span
key_spans shown d = if list_any (is_at_key (role_of d.name)) shown.messages then spans_of shown.files d else no_value
