-- What the editor works on, and how it counts in the texts of files.
use Rattle.std.specs.Prelude.{ℕ, List, Some, None}
use Rattle.bt_positions.specs.declared.counting.Counting.{Counting}
use Rattle.bt_documents.specs.declared.document.Document.{Document}
use Rattle.bt_places.specs.declared.editor.Workspace.{Workspace}
use Rattle.bt_places.specs.Parameters.{document_named}
use Rattle.bt_places.specs.Shown.{Shown}

-- how positions in a file count: as its document does if it is open, else as the editor does
abbrev pub counting_in : Counting → List Document → List ℕ → Counting
counting_in c docs uri = elim (document_named uri docs) [ None ↦ c | Some d ↦ d.counting ]

-- a definition over files, open documents and the editor's counting, applied to a workspace
abbrev pub in_workspace : {A P : Type 0} → (List (List ℕ × List ℕ) → List Document → Counting → A) → (P → Shown) → Workspace P → A
in_workspace f shown w = f (shown w.paper.now).files w.editor.documents.now w.editor.counting
