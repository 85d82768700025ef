use Rattle.std.proofs.Common.{◌≡◌, take}
use Rattle.bt_sound.specs.Seen.{states_seen}
use Rattle.bt_sound.proofs.parts.all_copied.Given as goal

abbrev pub invariant-states : goal.invariant-states
invariant-states l = states_seen l.copies.items ≡ states_seen (take l.state-index l.states)
