use Rattle.std.proofs.Common.{arith}
use Rattle.bt_writing.specs.Spellings.{with_spelling}
use Rattle.bt_places.proofs.MoreLemmas.{fold_next}
use Rattle.bt_writing.proofs.spellings.Misspelled.with_each.Goals as goal

pub marks-preserved : goal.marks-preserved
marks-preserved c =
    let here = c.args.self.now in
    fold_next (with_spelling here.document.now here.declared.now here.from here.to) c.args.marks.now c.marks.mark-index _ _ _ _ (omega (arith, c.marks-test.true))
    c.in_ok-all.ensures c.marks.invariant
