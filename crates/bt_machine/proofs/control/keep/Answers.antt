use Rattle.std.proofs.Common.{◌≡◌, length, rules}
use Rattle.bt_machine.proofs.LoopLemmas.{nothing_kept}
use Rattle.bt_machine.proofs.control.keep.Goals as goal

pub returns-else-not-is_empty-clause-same : goal.returns-else-not-is_empty-clause-same
returns-else-not-is_empty-clause-same c =
    let empty : length c.args.rest.now ≡ 0 = search rules in
    nothing_kept c.args.rest.now c.args.control.now.items empty
