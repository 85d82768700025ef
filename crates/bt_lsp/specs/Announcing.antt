-- What an editor may have announced after each change.
use Rattle.std.specs.Prelude.{ℕ, Bool, if◌then◌else◌, List, [], ◌∷◌, ◌++◌, codes}
use Rattle.serde_json.specs.Data.{Data}
use Rattle.bt_rpc.specs.Messages.{notification}
use Rattle.bt_lsp.specs.declared.announcing.Announced.{Announced}
use Rattle.bt_places.specs.Parameters.{has_word_at}
use Rattle.bt_places.specs.Shown.{Shown}
use Rattle.bt_places.specs.Shapes.{shown_text, shown_status}

-- whether an editor asks for what a word names
abbrev pub asks_for : List ℕ → Data → Bool
asks_for name m = has_word_at (codes "/params/initializationOptions/announce") name m

-- what an editor asks for when it initializes the server
abbrev pub announced_by : Data → Announced
announced_by m =
    record { bibliography = asks_for (codes "bbl") m; log = asks_for (codes "log") m; status = asks_for (codes "status") m }

-- a list with the bibliography, if it is asked for
abbrev pub with_bibliography : Bool → Shown → List Data → List Data
with_bibliography is_asked shown list =
    if is_asked then list ++ notification (codes "bibtex/bbl") (shown_text shown.bibliography shown.status) ∷ [] else list

-- a list with the log, if it is asked for
abbrev pub with_log : Bool → Shown → List Data → List Data
with_log is_asked shown list =
    if is_asked then list ++ notification (codes "bibtex/log") (shown_text shown.log shown.status) ∷ [] else list

-- a list with the run's status, if it is asked for
abbrev pub with_status : Bool → Shown → List Data → List Data
with_status is_asked shown list =
    if is_asked then list ++ notification (codes "bibtex/status") (shown_status shown.status) ∷ [] else list

-- a list with what is announced
abbrev pub with_announced : Announced → Shown → List Data → List Data
with_announced a shown list = with_status a.status shown (with_log a.log shown (with_bibliography a.bibliography shown list))
