use Rattle.std.proofs.Common.{◌≡◌, map, take}
use Rattle.bt_job.specs.AuxOnly.{aux_only}
use Rattle.bt_job.proofs.asked.all_aux_only.Given as goal

abbrev pub invariant-files : goal.invariant-files
invariant-files l = l.only ≡ map aux_only (take l.file-index l.files)
