use Rattle.std.proofs.Common.{◌≡◌, ◌++◌, drop, flat_map}
use Rattle.bt_front.specs.Job.{names_with, names_of}
use Rattle.bt_front.proofs.job.names_of.Given as goal

abbrev pub invariant-files : goal.invariant-files
invariant-files l = l.names ++ flat_map names_with (drop l.file-index l.files) ≡ names_of l.files l.root
