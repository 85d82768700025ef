use Rattle.std.proofs.Common.{◌≡◌, map, take}
use Rattle.bt_files.specs.Messages.{name_back}
use Rattle.bt_front.proofs.job.names_back.Given as goal

abbrev pub invariant-files : goal.invariant-files
invariant-files l = l.back ≡ map (name_back l.names) (take l.file-index l.files)
