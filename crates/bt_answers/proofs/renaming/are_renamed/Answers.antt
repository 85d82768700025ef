use Rattle.std.proofs.Common.{refl, arith}
use Rattle.bt_places.specs.Editor.{counting_in}
use Rattle.bt_places.proofs.FileLemmas.{fold_file, fold_no_file}
use Rattle.bt_answers.specs.Renaming.{also_renamed}
use Rattle.bt_answers.proofs.renaming.are_renamed.Goals as goal

pub files-preserved : goal.files-preserved
files-preserved g c =
    let r = c.args.renaming.now in
    fold_file (also_renamed (counting_in r.editor.counting r.editor.documents.now) r.wanted r.old.now r.new.now) (g.P.Paper.shown c.args.paper.now).files c.files.n _ _ _ _ _ _ c.file.ensures refl
    c.files.invariant c.in_ok-are.ensures

pub returns : goal.returns
returns g c =
    let r = c.args.renaming.now in
    fold_no_file (also_renamed (counting_in r.editor.counting r.editor.documents.now) r.wanted r.old.now r.new.now) (g.P.Paper.shown c.args.paper.now).files c.files.n c.file_count-n-end.result c.files.are _
    c.file_count-n-end.ensures (omega (arith, c.files-test.false)) c.files.invariant
