use Rattle.std.proofs.Common.{◌≡◌, map, take}
use Rattle.bt_front.specs.Job.{file_under}
use Rattle.bt_front.proofs.job.files_under.Given as goal

abbrev pub invariant-files : goal.invariant-files
invariant-files l = l.under ≡ map (file_under l.names) (take l.file-index l.files)
