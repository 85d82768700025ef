-- Values of the protocol.
use Rattle.std.specs.Prelude.{ℕ, Bool, true, false, if◌then◌else◌, List, [], ◌∷◌, ◌++◌, map, codes}
use Rattle.std.specs.Str.{is_utf8}
use Rattle.bt_shapes.specs.Text.{as_utf8}
use Rattle.serde_json.specs.Data.{Data, Members, null, put, number, unsigned, boolean, string, array, item, no_items, object, member, no_members}
use Rattle.serde_json.specs.View.{items_of}
use Rattle.bt_diagnostics.specs.declared.diagnostic.Diagnostic.{Diagnostic}
use Rattle.bt_rpc.specs.Messages.{notification}
pub use Rattle.bt_shapes.specs.Shapes.{text, range, range_of, location}

-- a diagnostic
abbrev pub diagnostic : Diagnostic → Data
diagnostic d =
    object (member (codes "message") (text d.words) (member (codes "range") (range d.from d.to)
    (member (codes "severity") (number (unsigned d.severity)) (member (codes "source") (string (codes "bibtex"))
    no_members))))

-- its parameters: the diagnostics of a document
abbrev pub publication_params : List ℕ → List Data → Data
publication_params uri list =
    object (member (codes "diagnostics") (array (items_of list))
    (member (codes "uri") (text uri) no_members))

-- the notification that publishes them
abbrev pub publication : List ℕ → List Data → Data
publication uri list = notification (codes "textDocument/publishDiagnostics") (publication_params uri list)

-- what a hover shows, in a format of the protocol
abbrev pub contents : List ℕ → List ℕ → Data
contents kind words =
    object (member (codes "contents") (object (member (codes "kind") (string kind)
    (member (codes "value") (string words) no_members))) no_members)

-- what a hover shows of lines: plain text, or a block of LaTeX in Markdown
abbrev pub hover : Bool → List ℕ → Data
hover true lines = contents (codes "plaintext") (as_utf8 lines)
hover false lines = contents (codes "markdown") (codes "```tex\n" ++ as_utf8 lines ++ codes "```")

-- the bibliography or the log, with the run's status
abbrev pub shown_text : List ℕ → ℕ → Data
shown_text bytes status =
    object (member (codes "exact") (boolean (is_utf8 bytes)) (member (codes "status") (number (unsigned status))
    (member (codes "text") (text bytes) no_members)))

-- the run's status
abbrev pub shown_status : ℕ → Data
shown_status status = object (member (codes "status") (number (unsigned status)) no_members)

-- how completion works
abbrev pub completion_options : Data
completion_options =
    object (member (codes "triggerCharacters") (array (item (string (codes "{")) (item (string (codes ",")) (item (string (codes "@")) no_items))))
    no_members)

-- how renaming works
abbrev pub rename_options : Data
rename_options = object (member (codes "prepareProvider") (boolean true) no_members)

-- how texts are sent
abbrev pub sync_options : Data
sync_options =
    object (member (codes "change") (number (unsigned 2)) (member (codes "openClose") (boolean true)
    (member (codes "save") (boolean true) no_members)))

-- how links and lenses are sent
abbrev pub whole_options : Data
whole_options = object (member (codes "resolveProvider") (boolean false) no_members)

-- what the server can do, as far as it has options or values of its own
abbrev pub choices : List ℕ → Data → Data → Data
choices encoding completion sync =
    object (member (codes "codeLensProvider") whole_options (member (codes "completionProvider") completion
    (member (codes "documentLinkProvider") whole_options (member (codes "positionEncoding") (string encoding)
    (member (codes "renameProvider") rename_options (member (codes "textDocumentSync") sync no_members))))))

-- that each of some names is true, beside other members
abbrev pub with_names : List (List ℕ) → Members → Members
with_names [] ms = ms
with_names (name ∷ names) ms = with_names names (put name (boolean true) ms)

-- what else it can do
abbrev pub ability_names : List (List ℕ)
ability_names = map codes ("codeActionProvider" ∷ "definitionProvider" ∷ "documentFormattingProvider" ∷
    "documentRangeFormattingProvider" ∷ "documentSymbolProvider" ∷ "foldingRangeProvider" ∷ "hoverProvider" ∷
    "referencesProvider" ∷ "workspaceSymbolProvider" ∷ [])

-- all that it can do
abbrev pub abilities : Data → Data
abilities null = null
abilities (boolean b) = boolean b
abilities (number n) = number n
abilities (string words) = string words
abilities (array ds) = array ds
abilities (object ms) = object (with_names ability_names ms)

-- the units in which positions count
abbrev pub encoding_of : Bool → List ℕ
encoding_of counts_bytes = if counts_bytes then codes "utf-8" else codes "utf-16"

-- the answer to `initialize`: how positions count, and what the server can do
abbrev pub capabilities : Bool → Data
capabilities counts_bytes =
    object (member (codes "capabilities")
    (abilities (choices (encoding_of counts_bytes) completion_options sync_options))
    (member (codes "serverInfo") (object (member (codes "name") (string (codes "bibtex-lsp")) no_members)) no_members))
