use Rattle.std.proofs.Common.{◌≡◌, take}
use Rattle.bibtex.specs.inner.Cases.{without}
use Rattle.bt_session.proofs.files.without.Given as goal

abbrev pub invariant-files : goal.invariant-files
invariant-files l = l.left ≡ without l.name (take l.file-index l.files)
