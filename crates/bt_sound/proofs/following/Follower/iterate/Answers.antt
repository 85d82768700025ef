use Rattle.std.proofs.Common.{true, subst}
use Rattle.bt_style.specs.Program.{program_of}
use Rattle.bt_sound.specs.Seen.{state_seen, states_seen}
use Rattle.bt_sound.specs.Follows.{GlobalsWithin}
use Rattle.bt_sound.proofs.FollowLemmas.{call_checked}
use Rattle.bt_sound.proofs.following.Follower.iterate.Goals as goal

pub returns-then-is_kept : goal.returns-then-is_kept
returns-then-is_kept c =
    record {
      begins = c.is_kept.ensures.begins c.if-is_kept.true;
      again = call_checked (program_of c.args.self.now.style.now) c.args.self.now.types.now true (state_seen c.in_ok-before.before) c.args.name c.rounds.now c.rounds.now (states_seen c.in_ok-states.states.items)
          c.in_ok-before.ensures c.in_ok-states.ensures
          (subst (λ l. GlobalsWithin (states_seen l) c.rounds.now) c.as_slice.ensures.value (c.is_kept.ensures.again c.if-is_kept.true));
    }
