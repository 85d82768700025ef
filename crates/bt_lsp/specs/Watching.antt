-- The files for whose changes on disk the server asks.
use Rattle.std.specs.Prelude.{Bool, false, if◌then◌else◌, List, [], ◌∷◌, ◌++◌, codes, unwrap_or}
use Rattle.serde_json.specs.Data.{Data, string, array, item, no_items, object, member, no_members}
use Rattle.bt_places.specs.Parameters.{flag_at}
use Rattle.bt_lsp.specs.Progress.{begin_messages}

-- whether an editor watches files for a server that asks for it, as it says in `initialize`
abbrev pub watches_files : Data → Bool
watches_files m =
    unwrap_or (flag_at (codes "/params/capabilities/workspace/didChangeWatchedFiles/dynamicRegistration") m) false

-- the files that LaTeX writes and authors change
abbrev pub watchers : Data
watchers =
    object (member (codes "watchers") (array (item (object (member (codes "globPattern") (string (codes "**/*.{aux,bib,bst}"))
    no_members)) no_items)) no_members)

-- what is registered
abbrev pub registrations : Data
registrations =
    object (member (codes "registrations") (array (item
    (object (member (codes "id") (string (codes "bibtex-lsp/files"))
    (member (codes "method") (string (codes "workspace/didChangeWatchedFiles"))
    (member (codes "registerOptions") watchers no_members)))) no_items)) no_members)

-- the request for it
abbrev pub registering : Data
registering =
    object (member (codes "id") (string (codes "bibtex-lsp/watch")) (member (codes "jsonrpc") (string (codes "2.0"))
    (member (codes "method") (string (codes "client/registerCapability")) (member (codes "params") registrations no_members))))

-- what is said if the first run is announced
abbrev pub begin_messages_if : Bool → List Data
begin_messages_if shows = if shows then begin_messages else []

-- what an editor is told after `initialized`: that the first run begins, and which files are to be watched
abbrev pub greeting : Bool → Bool → List Data
greeting shows watches = if watches then begin_messages_if shows ++ registering ∷ [] else begin_messages_if shows
