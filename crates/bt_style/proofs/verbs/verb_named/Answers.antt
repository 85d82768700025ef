use Rattle.bt_style.specs.Verbs.{all_verbs, verb_named}
use Rattle.bt_style.proofs.verbs.verb_named.Goals as goal

pub returns : goal.returns
unfolding all_verbs verb_named
returns c = c.verb_among.ensures
