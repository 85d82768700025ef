use Rattle.bt_machine.proofs.PutLemmas.{fitted}
use Rattle.bt_machine.proofs.substitution.as_many.Goals as goal

pub returns : goal.returns
returns g c =
    rw (c.in_ok-append.ensures.items, c.in_ok-values.ensures, c.in_ok-more.ensures, c.front.ensures, c.back.ensures) (fitted c.args.left.now c.args.base.now)
