use Rattle.std.proofs.Common.{arith}
use Rattle.serde_json.specs.View.{view}
use Rattle.bt_style_answers.specs.Renaming.{edit_of}
use Rattle.bt_style_answers.proofs.MoreLemmas.{mapped_read}
use Rattle.bt_style_answers.proofs.shown_style.ShownStyle.edits_of.Goals as goal

pub marks-preserved : goal.marks-preserved
marks-preserved c =
    mapped_read view (edit_of c.args.self.now.counting c.args.self.now.text.now c.args.new.now) c.args.marks.now c.marks.mark-index _ _ _ _ _ (omega (arith, c.marks-test.true))
    c.in_ok-push.ensures.items c.in_ok-edit_of.ensures c.marks.invariant
