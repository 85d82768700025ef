use Rattle.std.proofs.Common.{◌<◌, refl, arith, length}
use Rattle.bt_run.proofs.WalkOrderLemmas.{iterated_is}
use Rattle.bt_run.proofs.sort_order.is_iterated.Goals as goal

pub returns : goal.returns
returns c = λ go.
    let last = c.commands-test.false in
    let within : c.args.iterate < length c.args.commands.now = c.if-iterate-commands.false in
    iterated_is c.args.commands.now c.args.sort c.args.iterate _ within (c.if-not-is_iterate.ensures refl)
    (λ k d low high at. c.commands.invariant k d low (omega (arith, high, last)) at)
