use Rattle.std.proofs.Common.{◌≡◌, take}
use Rattle.bt_session.proofs.files.all_shared.Given as goal

abbrev pub invariant-files : goal.invariant-files
invariant-files l = l.again ≡ take l.file-index l.files
