use Rattle.std.proofs.Common.{[]}
use Rattle.bt_machine.proofs.PutLemmas.{all_put}
use Rattle.bt_machine.proofs.substitution.put_texts.Goals as goal

pub returns : goal.returns
returns c =
    let k = c.places in
    let a = c.args in
    all_put [] k.place-index a.places.now a.left.now a.base.now k.base c.places-test.false k.invariant.same c.requires
