use Rattle.std.proofs.Common.{arith}
use Rattle.bt_answers.specs.Faults.{with_fault}
use Rattle.bt_places.proofs.MoreLemmas.{fold_more}
use Rattle.bt_answers.proofs.faults.with_named_faults.Goals as goal

pub messages-preserved : goal.messages-preserved
messages-preserved c =
    let named = c.args.named in
    fold_more (with_fault c.args.count named.document.now named.link named.name.now) c.args.messages.now c.messages.message-index c.message-item.result _ _ _ (omega (arith, c.messages-test.true)) c.message-item.is
    c.in_ok-all.ensures c.messages.invariant
