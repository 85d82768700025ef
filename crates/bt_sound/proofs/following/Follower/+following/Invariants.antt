use Rattle.std.proofs.Common.{take, drop}
use Rattle.bt_style.specs.Tree.{Called, ops_body}
use Rattle.bt_style.specs.Program.{program_of}
use Rattle.bt_sound.specs.Seen.{state_seen, states_seen}
use Rattle.bt_sound.specs.Follows.{Acts, Continues, FollowsTypes}
use Rattle.bt_sound.proofs.following.Follower.+following.Given as goal

abbrev pub decreases-body : goal.decreases-body
decreases-body l = l.depth

abbrev pub decreases-element : goal.decreases-element
decreases-element l = l.depth

abbrev pub decreases-call : goal.decreases-call
decreases-call l = l.depth

abbrev pub decreases-each : goal.decreases-each
decreases-each l = l.depth

abbrev pub decreases-one : goal.decreases-one
decreases-one l = l.depth

abbrev pub decreases-builtin : goal.decreases-builtin
decreases-builtin l = l.depth

abbrev pub decreases-code : goal.decreases-code
decreases-code l = l.depth

abbrev pub decreases-choose : goal.decreases-choose
decreases-choose l = l.depth

abbrev pub decreases-turn : goal.decreases-turn
decreases-turn l = l.depth

abbrev pub decreases-repeat : goal.decreases-repeat
decreases-repeat l = l.depth

abbrev pub decreases-untyped : goal.decreases-untyped
decreases-untyped l = l.depth

abbrev pub decreases-call_type : goal.decreases-call_type
decreases-call_type l = l.depth

abbrev pub invariant-body-elements : goal.invariant-body-elements
invariant-body-elements l =
    Continues (program_of l.self.style.now) l.self.types.now (ops_body (drop l.op-index l.ops)) (ops_body l.ops) (states_seen l.now.items) (states_seen l.fn.states.items)

abbrev pub invariant-each-states : goal.invariant-each-states
invariant-each-states l =
    Acts (program_of l.self.style.now) l.self.types.now (Called l.name) (states_seen (take l.state-index l.states)) (states_seen l.after.items)

abbrev pub invariant-call_type-types : goal.invariant-call_type-types
invariant-call_type-types l =
    FollowsTypes (program_of l.self.style.now) l.self.types.now (take l.n-index l.types) (state_seen l.state) (states_seen l.after.items)
