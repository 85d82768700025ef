use Rattle.std.proofs.Common.{take}
use Rattle.bt_sound.specs.Seen.{states_seen}
use Rattle.bt_sound.specs.Follows.{Splits}
use Rattle.bt_sound.proofs.parts.split.Given as goal

abbrev pub invariant-mids : goal.invariant-mids
invariant-mids l = Splits (states_seen (take l.state-index l.mids)) (states_seen l.goes.items) (states_seen l.ends.items)
