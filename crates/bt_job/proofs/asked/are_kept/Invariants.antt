use Rattle.std.proofs.Common.{◌≡◌, map, take}
use Rattle.bt_job.specs.AuxOnly.{aux_only}
use Rattle.bt_job.proofs.asked.are_kept.Given as goal

abbrev pub invariant-files : goal.invariant-files
invariant-files l = map aux_only (take l.place l.files) ≡ take l.place l.kept
