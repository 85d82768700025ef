use Rattle.bt_sound.proofs.AllRules.{all_rules}
use Rattle.bt_sound.proofs.rules_hold.Goals as goal

pub returns : goal.returns
returns c = all_rules
