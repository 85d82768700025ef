use Rattle.bt_names.proofs.WritingLemmas.{own_longer}
use Rattle.bt_names.proofs.writing.is_longer.Goals as goal

pub returns-then-part : goal.returns-then-part
returns-then-part c =
    let part = c.in-Lettered.part in
    let long = rw c.named_by.ensures at c.passes.ensures in
    rw c.in-Lettered.is (λ told. own_longer c.args.limit part.has_own part.is_whole part.own.now part.before.now _ part.behind.now c.if-part.true (long told))
