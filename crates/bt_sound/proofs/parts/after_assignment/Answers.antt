use Rattle.bt_sound.specs.Seen.{state_seen}
use Rattle.bt_sound.proofs.FollowLemmas.{makes_assign}
use Rattle.bt_sound.proofs.parts.after_assignment.Goals as goal

pub returns : goal.returns
returns c = makes_assign (state_seen c.args.state.now) (state_seen c.in_ok-after.after) _ c.in_ok-after.ensures c.in_ok-states.ensures
