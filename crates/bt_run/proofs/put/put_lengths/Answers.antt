use Rattle.std.proofs.Common.{◌∙◌, arith}
use Rattle.bt_run.proofs.PutLemmas.{lengths_beyond, lengths_more}
use Rattle.bt_run.proofs.put.put_lengths.Goals.{else-other-len, then-other-len}
use Rattle.bt_run.proofs.put.put_lengths.Goals as goal

pub others-preserved : goal.others-preserved
others-preserved c =
    let i = c.others.other-index in
    let o = c.other-item.result in
    elim c.if-other-len.branch [
      | then-other-len w ↦
          lengths_more c.args.lengths.now c.args.others.now i o c.others.lengths c.if-other-len.lengths c.others-test.true c.other-item.is c.others.invariant (w.lengths-is ∙ w.set.ensures)
      | else-other-len w ↦
          w.lengths-is
          ∙ lengths_beyond c.args.lengths.now c.args.others.now i o c.others.lengths c.others-test.true c.other-item.is c.others.invariant (omega (arith, w.if-other-len.false, c.len.ensures))
    ]
