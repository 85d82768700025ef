use Rattle.std.proofs.Common.{arith}
use Rattle.serde_json.specs.View.{view}
use Rattle.bt_style_answers.specs.References.{mark_location}
use Rattle.bt_style_answers.proofs.MoreLemmas.{mapped_read}
use Rattle.bt_style_answers.proofs.shown_style.ShownStyle.locations.Goals as goal

pub marks-preserved : goal.marks-preserved
marks-preserved c =
    mapped_read view (mark_location c.args.self.now.counting c.args.self.now.uri.now c.args.self.now.text.now) c.args.marks.now c.marks.mark-index _ _ _ _ _ (omega (arith, c.marks-test.true))
    c.in_ok-push.ensures.items c.in_ok-mark_location.ensures c.marks.invariant
