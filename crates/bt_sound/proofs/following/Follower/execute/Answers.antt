use Rattle.std.proofs.Common.{false, subst}
use Rattle.bt_style.specs.Program.{program_of}
use Rattle.bt_sound.specs.Seen.{state_seen, states_seen}
use Rattle.bt_sound.specs.Follows.{GlobalsWithin}
use Rattle.bt_sound.proofs.FollowLemmas.{call_checked}
use Rattle.bt_sound.proofs.following.Follower.execute.Goals as goal

pub returns-then-are_globals_within : goal.returns-then-are_globals_within
returns-then-are_globals_within c =
    call_checked (program_of c.args.self.now.style.now) c.args.self.now.types.now false (state_seen c.in_ok-before.before) c.args.name c.args.globals.now c.in_ok-after.after (states_seen c.in_ok-states.states.items)
    c.in_ok-before.ensures c.in_ok-states.ensures
    (subst (λ l. GlobalsWithin (states_seen l) c.in_ok-after.after) c.as_slice-2.ensures.value (c.are_globals_within.ensures c.if-are_globals_within.true))
