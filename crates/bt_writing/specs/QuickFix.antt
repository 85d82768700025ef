-- An action that replaces a part of a document.
use Rattle.std.specs.Prelude.{ℕ, List, [], ◌∷◌, codes}
use Rattle.serde_json.specs.Data.{Data, string, object, member, no_members}
use Rattle.bt_documents.specs.declared.document.Document.{Document}
use Rattle.bt_answers.specs.Renaming.{text_edit, file_edit, workspace_edit}
use Rattle.bt_places.specs.Shapes.{range_of}

-- the action of this title that makes an edit
abbrev pub action : List ℕ → Data → Data
action title edit =
    object (member (codes "edit") edit (member (codes "kind") (string (codes "quickfix"))
    (member (codes "title") (string title) no_members)))

-- the edit that replaces a part of a document
abbrev pub edit_at : Document → ℕ → ℕ → List ℕ → Data
edit_at d from to new =
    workspace_edit (file_edit d.name (text_edit (range_of d.counting d.text from to) new ∷ []) ∷ [])
