use Rattle.bt_text.proofs.SparseLemmas.{other_length}
use Rattle.bt_text.proofs.places.same_present.Goals as goal

pub returns-then-texts-others : goal.returns-then-texts-others
returns-then-texts-others c = other_length c.args.texts.now c.args.others.now c.if-texts-others.true
