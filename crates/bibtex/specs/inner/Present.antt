-- The present texts of a session as a type, for clauses of helpers.
use Rattle.std.specs.Prelude.{List}
use Rattle.bt_job.specs.declared.files.File.{File}

-- the present texts, each under its name
abbrev pub Texts : Type 0
Texts = List File
