use Rattle.std.proofs.Common.{◌≡◌, drop}
use Rattle.bt_job.specs.FileNames.{text_of}
use Rattle.bt_job.proofs.file_names.owned_text_of.Given as goal

abbrev pub invariant-files : goal.invariant-files
invariant-files l = text_of (drop l.file-index l.files) l.name ≡ text_of l.files l.name
