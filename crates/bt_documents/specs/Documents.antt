-- The open documents, and the files that follow them.
use Rattle.std.specs.Prelude.{◌≡◌, ◌⊎◌, ℕ, ℤ, Bool, true, false, not, ◌||◌, if◌then◌else◌, List, [], ◌∷◌, Option, Some}
use Rattle.std.specs.List.{AllByRecursion}
use Rattle.std.specs.Str.{bytes_eq}
use Rattle.bt_documents.specs.declared.changes.Change.{Change}
use Rattle.bt_documents.specs.declared.document.Document.{Document}
use Rattle.bt_documents.specs.Changes.{all_edited}

-- the documents with the first one of a name changed
abbrev pub with_document : List ℕ → (Document → Document) → List Document → List Document
with_document name f [] = []
with_document name f (d ∷ ds) = if bytes_eq d.name name then f d ∷ ds else d ∷ with_document name f ds

-- the document after changes, whose new text the files don't have yet
abbrev pub after_changes : List ℕ → ℤ → List Change → Document → Document
after_changes name version changes d =
    record {
      name = name;
      counting = d.counting;
      version = version;
      text = all_edited d.counting changes d.text;
      in_step = false;
    }

-- the documents with a new one, which replaces the first of its name or comes last
abbrev pub opened : Document → List Document → List Document
opened x [] = x ∷ []
opened x (d ∷ ds) = if bytes_eq d.name x.name then x ∷ ds else d ∷ opened x ds

-- the documents without the first one of a name
abbrev pub closed : List ℕ → List Document → List Document
closed name [] = []
closed name (d ∷ ds) = if bytes_eq d.name name then ds else d ∷ closed name ds

-- the document stays, or the files have its text now
abbrev pub IsGiven : Document → Document → Type 0
IsGiven d e = (e ≡ d) ⊎ (e ≡ record d { in_step = true })

-- each document stays, or the files have its text now
abbrev pub AreGiven : List Document → List Document → Type 0
AreGiven [] [] = Unit {0}
AreGiven [] (e ∷ es) = ⊥
AreGiven (d ∷ ds) [] = ⊥
AreGiven (d ∷ ds) (e ∷ es) = IsGiven d e × AreGiven ds es

-- whether the files don't have a document's text
abbrev pub any_behind : List Document → Bool
any_behind [] = false
any_behind (d ∷ ds) = not d.in_step || any_behind ds

-- no two documents have one name
abbrev pub EachOnce : List Document → Type 0
EachOnce [] = Unit {0}
EachOnce (d ∷ ds) = AllByRecursion (λ (e : Document). bytes_eq e.name d.name ≡ false) ds × EachOnce ds

-- the files have the document's text, unless they refused it
abbrev pub IsInStep : (List ℕ → Option (List ℕ)) → Document → Type 0
IsInStep text d = d.in_step ≡ true → text d.name ≡ Some d.text

-- the files follow the documents
pub record Follows (text : List ℕ → Option (List ℕ)) (docs : List Document) : Type 0 where
  pub once : EachOnce docs
  pub each : AllByRecursion (IsInStep text) docs
