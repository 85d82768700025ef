-- What always holds of what is asked for, for the code that uses it.
use Rattle.std.specs.Prelude.{◌≡◌, ◌≤◌, ℕ, List, [], ◌∷◌, length, Option, Some, None, true}
use Rattle.std.specs.Option.{is_some}
use Rattle.bt_job.specs.declared.files.File.{File}
use Rattle.bt_job.specs.declared.citations.Citations.{Citations}
use Rattle.bt_job.specs.FileNames.{text_of}
use Rattle.bt_text.specs.NameList.{same_name}
use Rattle.bt_job.specs.Citations.{citations}

-- no two keys are the same without regard to case
abbrev pub AreDistinct : List (List ℕ) → Type 0
AreDistinct [] = Unit {0}
AreDistinct (k ∷ ks) = (same_name k ks ≡ None) × AreDistinct ks

-- files of these names are there
abbrev pub AreThere : List File → List (List ℕ) → Type 0
AreThere files [] = Unit {0}
AreThere files (n ∷ ns) = (is_some (text_of files n) ≡ true) × AreThere files ns

-- a place, if there is one, is at most this
abbrev pub IsWithin : Option ℕ → ℕ → Type 0
IsWithin None n = Unit {0}
IsWithin (Some k) n = k ≤ n

-- a file of this name, if one is named, is there
abbrev pub IsThere : List File → Option (List ℕ) → Type 0
IsThere files None = Unit {0}
IsThere files (Some name) = is_some (text_of files name) ≡ true

-- keys that are distinct, a place of `*` among them, and files that are there
pub record IsFit (files : List File) (r : Citations) : Type 0 where
  pub keys : AreDistinct r.keys
  pub star : IsWithin r.star (length r.keys)
  pub databases : AreThere files r.databases
  pub style : IsThere files r.style

-- What is asked for is fit for use.
abbrev pub AlwaysFit : Type 0
AlwaysFit = (files : List File) (root : List ℕ) → IsFit files (citations files root)
