use Rattle.std.proofs.Common.{refl}
use Rattle.bt_writing.proofs.FileLemmas.{next_candidates}
use Rattle.bt_writing.proofs.citing.candidates.Goals as goal

pub files-preserved : goal.files-preserved
files-preserved g c =
    next_candidates c.args.written (g.P.Paper.shown c.args.paper.now).files c.files.n _ _ _ _ _ _ c.file.ensures refl c.files.invariant c.in_ok-list.ensures
