use Rattle.std.proofs.Common.{rules}
use Rattle.bt_sound.specs.Seen.{state_seen, states_seen}
use Rattle.bt_sound.proofs.FollowLemmas.{step_leads}
use Rattle.bt_sound.proofs.StateLemmas.{bare_states}
use Rattle.bt_sound.proofs.following.Follower.step.Goals as goal

pub returns-then-are_bare : goal.returns-then-are_bare
returns-then-are_bare c =
    step_leads _ _ (state_seen c.args.before) c.args.name (states_seen c.push.new.self.items) (states_seen c.in_ok-after.after.items)
    (search rules) c.in_ok-after.ensures (bare_states c.in_ok-after.after.items (search rules))
