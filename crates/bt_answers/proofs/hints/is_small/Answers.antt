use Rattle.std.proofs.Common.{ℕ, List, Option, refl, ap, arith, ◌∙◌}
use Rattle.std.specs.Prelude.{is_some}
use Rattle.bt_answers.specs.Hints.{room_after}
use Rattle.bt_places.proofs.FileLemmas.{fold_file, fold_no_file}
use Rattle.bt_answers.proofs.hints.is_small.Goals as goal

pub files-preserved : goal.files-preserved
files-preserved g c =
    fold_file (λ (r : Option ℕ) (f : List ℕ × List ℕ). room_after r f.1) (g.P.Paper.shown c.args.paper.now).files c.files.n _ _ _ _ _ _ c.file.ensures refl c.files.invariant
    c.room_after-room.ensures

pub returns : goal.returns
returns g c =
    c.is_some.ensures ∙
    ap is_some (fold_no_file (λ (r : Option ℕ) (f : List ℕ × List ℕ). room_after r f.1) (g.P.Paper.shown c.args.paper.now).files c.files.n c.file_count-n-end.result c.files.room _
    c.file_count-n-end.ensures (omega (arith, c.files-test.false)) c.files.invariant)
