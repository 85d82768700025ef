use Rattle.std.proofs.Common.{◌≡◌, map, take}
use Rattle.bt_sound.specs.Reading.{pushing}
use Rattle.bt_sound.specs.Seen.{known_seen, states_seen}
use Rattle.bt_sound.proofs.parts.all_pushed.Given as goal

abbrev pub invariant-states : goal.invariant-states
invariant-states l = states_seen l.after.items ≡ map (pushing (known_seen l.known)) (states_seen (take l.state-index l.states))
