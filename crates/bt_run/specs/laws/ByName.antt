-- What files mean depends on which text each name has, and on nothing else of them.
use Rattle.std.specs.Prelude.{◌≡◌, ℕ, List}
use Rattle.bt_job.specs.declared.files.File.{File}
use Rattle.bt_job.specs.FileNames.{text_of}

-- Every name has the same text in both, or none in both.
abbrev pub HaveSameTexts : List File → List File → Type 0
HaveSameTexts files others = (name : List ℕ) → text_of files name ≡ text_of others name
