use Rattle.std.proofs.Common.{arith}
use Rattle.serde_json.specs.View.{view}
use Rattle.bt_style_answers.specs.Completion.{mark_item}
use Rattle.bt_style_answers.proofs.MoreLemmas.{mapped_read}
use Rattle.bt_style_answers.proofs.completion.Written.add_marks.Goals as goal

pub marks-preserved : goal.marks-preserved
marks-preserved c =
    mapped_read view (mark_item c.args.self.now c.args.text.now) c.args.marks.now c.marks.mark-index _ _ _ _ _ (omega (arith, c.marks-test.true))
    c.in_ok-push.ensures.items c.in_ok-mark_item.ensures c.marks.invariant
