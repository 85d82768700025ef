use Rattle.std.proofs.Common.{◌≡◌, subst, Some}
use Rattle.bt_sound.specs.Transfer.{stack_after}
use Rattle.bt_sound.specs.Seen.{knowns_seen, state_seen}
use Rattle.bt_sound.proofs.FollowLemmas.{makes_basic}
use Rattle.bt_sound.proofs.parts.basic.Goals as goal

pub returns : goal.returns
returns c =
    let s = c.args.state.now in
    let out = knowns_seen c.in_ok-stack.stack.items in
    makes_basic c.args.builtin (state_seen s) (state_seen c.in_ok-after.after) out _
    (subst (λ l. stack_after c.args.builtin (knowns_seen l) ≡ Some out) c.as_slice.ensures.value c.in_ok-stack.ensures)
    c.in_ok-after.ensures
    c.in_ok-states.ensures
