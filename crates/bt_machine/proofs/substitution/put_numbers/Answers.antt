use Rattle.std.specs.Prelude.{pos}
use Rattle.bt_machine.proofs.PutLemmas.{all_put}
use Rattle.bt_machine.proofs.substitution.put_numbers.Goals as goal

pub returns : goal.returns
returns c =
    let k = c.places in
    let a = c.args in
    all_put (pos 0) k.place-index a.places.now a.left.now a.base.now k.base c.places-test.false k.invariant c.requires
