use Rattle.std.proofs.Common.{arith}
use Rattle.serde_json.specs.View.{view}
use Rattle.bt_style_answers.specs.Completion.{builtin_item}
use Rattle.bt_style_answers.proofs.MoreLemmas.{mapped_read}
use Rattle.bt_style_answers.proofs.completion.Written.builtin_list.Goals as goal

pub builtins-preserved : goal.builtins-preserved
builtins-preserved c =
    mapped_read view (builtin_item c.args.self.now) c.args.builtins.now c.builtins.builtin-index _ _ _ _ _ (omega (arith, c.builtins-test.true))
    c.in_ok-push.ensures.items c.in_ok-builtin_item.ensures c.builtins.invariant
