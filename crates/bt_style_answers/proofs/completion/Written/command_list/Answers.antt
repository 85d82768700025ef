use Rattle.std.proofs.Common.{arith}
use Rattle.serde_json.specs.View.{view}
use Rattle.bt_style_answers.specs.Completion.{command_item}
use Rattle.bt_style_answers.proofs.MoreLemmas.{mapped_read}
use Rattle.bt_style_answers.proofs.completion.Written.command_list.Goals as goal

pub commands-preserved : goal.commands-preserved
commands-preserved c =
    mapped_read view (command_item c.args.self.now) c.args.commands.now c.commands.command-index _ _ _ _ _ (omega (arith, c.commands-test.true))
    c.in_ok-push.ensures.items c.in_ok-command_item.ensures c.commands.invariant
