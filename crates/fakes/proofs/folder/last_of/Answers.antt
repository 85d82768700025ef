use Rattle.fakes.proofs.FolderLemmas.{last_then}
use Rattle.fakes.proofs.folder.last_of.Goals as goal

pub files-preserved : goal.files-preserved
files-preserved c =
    last_then _ c.args.files.now c.files.file-index c.file-item.result _ _ c.args.name.now
    c.files-test.true c.file-item.is c.newer-found.ensures c.files.invariant
