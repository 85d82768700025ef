use Rattle.std.proofs.Common.{◌≡◌, drop, fold, []}
use Rattle.bt_files.specs.Names.{with_author}
use Rattle.bt_front.specs.Job.{names_of}
use Rattle.bt_front.proofs.job.table_of.Given as goal

abbrev pub invariant-names : goal.invariant-names
invariant-names l = fold with_author l.table (drop l.name-index l.name-items) ≡ fold with_author [] (names_of l.files l.root)
