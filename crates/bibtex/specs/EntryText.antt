-- What an entry prints: the lines of the bibliography that the steps for its key end.
use Rattle.std.specs.Prelude.{ℕ, Bool, false, if◌then◌else◌, List, [], ◌∷◌, ◌++◌, Some, None}
use Rattle.bt_text.specs.CaseFolding.{is_same_folded}
use Rattle.bt_log.specs.Log.{lines_bytes}
use Rattle.bt_run.specs.declared.course.Step.{Step}

-- whether a step is for the entry of this key, which may differ in case
abbrev pub is_for : List ℕ → Step → Bool
is_for key s = elim s.key [ None ↦ false | Some own ↦ is_same_folded own key ]

-- The lines that the steps for the entry of a key end, each with a line feed. A line that two steps write belongs to the
-- one that ends it.
abbrev pub entry_text : List ℕ → List Step → List ℕ
entry_text key [] = []
entry_text key (s ∷ steps) = (if is_for key s then lines_bytes s.outcome.lines else []) ++ entry_text key steps
