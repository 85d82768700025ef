-- Progress of a paper's first run.
use Rattle.std.specs.Prelude.{ℕ, Bool, false, if◌then◌else◌, List, [], ◌∷◌, ◌++◌, codes, unwrap_or}
use Rattle.serde_json.specs.Data.{Data, string, object, member, no_members}
use Rattle.bt_rpc.specs.Messages.{notification}
use Rattle.bt_places.specs.Parameters.{flag_at}

-- whether an editor shows progress, as it says in `initialize`
abbrev pub shows_progress : Data → Bool
shows_progress m = unwrap_or (flag_at (codes "/params/capabilities/window/workDoneProgress") m) false

-- the name of the run among what goes on, and the id of the request that creates it
abbrev pub token : List ℕ
token = codes "bibtex-lsp/first-run"

-- the run begins
abbrev pub beginning : Data
beginning =
    object (member (codes "kind") (string (codes "begin")) (member (codes "message") (string (codes "reading the paper"))
    (member (codes "title") (string (codes "BibTeX")) no_members)))

-- the run has ended
abbrev pub ending : Data
ending = object (member (codes "kind") (string (codes "end")) no_members)

-- the request that creates the token
abbrev pub creating : Data
creating =
    object (member (codes "id") (string token) (member (codes "jsonrpc") (string (codes "2.0"))
    (member (codes "method") (string (codes "window/workDoneProgress/create"))
    (member (codes "params") (object (member (codes "token") (string token) no_members)) no_members))))

-- what the run does, under its name
abbrev pub progress_params : Data → Data
progress_params value = object (member (codes "token") (string token) (member (codes "value") value no_members))

-- the notification of what the run does
abbrev pub progress : Data → Data
progress value = notification (codes "$/progress") (progress_params value)

-- what is said as the run begins
abbrev pub begin_messages : List Data
begin_messages = creating ∷ progress beginning ∷ []

-- a list, and that the run has ended if its beginning was said
abbrev pub with_end : Bool → List Data → List Data
with_end is_running list = if is_running then list ++ progress ending ∷ [] else list
