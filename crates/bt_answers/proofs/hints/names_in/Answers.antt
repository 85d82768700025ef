use Rattle.std.proofs.Common.{ℕ, List, refl, arith}
use Rattle.bt_answers.specs.Hints.{with_file_names}
use Rattle.bt_places.proofs.FileLemmas.{fold_file, fold_no_file}
use Rattle.bt_answers.proofs.hints.names_in.Goals as goal

pub files-preserved : goal.files-preserved
files-preserved g c =
    fold_file (λ (ns : List (List ℕ)) (f : List ℕ × List ℕ). with_file_names c.args.asked ns f.0 f.1) (g.P.Paper.shown c.args.paper.now).files c.files.n _ _ _ _ _ _ c.file.ensures refl
    c.files.invariant c.in_ok-add_file_names.ensures

pub returns : goal.returns
returns g c =
    fold_no_file (λ (ns : List (List ℕ)) (f : List ℕ × List ℕ). with_file_names c.args.asked ns f.0 f.1) (g.P.Paper.shown c.args.paper.now).files c.files.n c.file_count-n-end.result c.files.list _
    c.file_count-n-end.ensures (omega (arith, c.files-test.false)) c.files.invariant
