-- What the files ask for depends on their names, in order, and on the texts of .aux files.
use Rattle.std.specs.Prelude.{◌≡◌, ℕ, List, map}
use Rattle.bt_job.specs.declared.files.File.{File}
use Rattle.bt_job.specs.AuxOnly.{aux_only}
use Rattle.bt_job.specs.Citations.{citations}

-- Files with the same names in the same order, whose .aux files have the same texts, ask for the same.
abbrev pub CitedByAux : Type 0
CitedByAux =
    (files others : List File) (root : List ℕ) → map aux_only files ≡ map aux_only others
    → citations files root ≡ citations others root
