use Rattle.std.proofs.Common.{refl, map, arith}
use Rattle.serde_json.specs.View.{view}
use Rattle.bt_places.proofs.FileLemmas.{next_file, no_file}
use Rattle.bt_places.proofs.visiting.with_files.Goals as goal

pub files-preserved : goal.files-preserved
files-preserved g c =
    next_file (g.V.Visit.added c.args.visitor.now) (g.P.Paper.shown c.args.paper.now).files c.files.n _ _ _ _ _ _ c.file.ensures refl c.files.invariant c.in_ok-all.ensures

pub returns : goal.returns
returns g c =
    no_file (g.V.Visit.added c.args.visitor.now) (g.P.Paper.shown c.args.paper.now).files c.files.n c.file_count-n-end.result (map view c.files.all.items) _ c.file_count-n-end.ensures
    (omega (arith, c.files-test.false)) c.files.invariant
