use Rattle.std.proofs.Common.{◌≡◌, false, not, ap, sym, subst, ◌∙◌, map, rules}
use Rattle.bt_style.specs.Program.{program_of}
use Rattle.bt_style.specs.Tree.{Called, element_of, ops_body}
use Rattle.bt_machine.specs.Eval.{code_body}
use Rattle.bt_sound.specs.Reading.{pushing}
use Rattle.bt_actions.specs.View.{code_seen}
use Rattle.bt_sound.specs.Seen.{known_seen, state_seen, states_seen}
use Rattle.bt_sound.specs.Follows.{Covered, Follows, Splits, Turned}
use Rattle.bt_sound.proofs.FollowLemmas.{continues_start, continues_more, continues_end, acts_called, acts_pushes, acts_body, acts_none, acts_name, acts_builtin, acts_makes, follows_code, follows_name, some_default, no_default, turned, acts_while, acts_types}
use Rattle.bt_sound.proofs.StateLemmas.{each_state, all_states, chosen_states, each_type, all_types}
use Rattle.bt_sound.proofs.following.Follower.+following.Goals as goal

-- bodies

pub body-elements-init : goal.body-elements-init
body-elements-init t c = continues_start (program_of c.args.self.now.style.now) c.args.self.now.types.now (ops_body c.args.ops.now) (states_seen c.args.states.items)

pub body-elements-preserved : goal.body-elements-preserved
body-elements-preserved t c =
    continues_more (program_of c.args.self.now.style.now) c.args.self.now.types.now c.args.ops.now c.elements.op-index c.op-item.result (ops_body c.args.ops.now) (states_seen c.args.states.items) (states_seen c.elements.now.items) (states_seen c.in_ok-after.after.items) (states_seen c.in_ok-now.now.items)
    c.elements-test.true c.op-item.is c.in_ok-after.ensures c.in_ok-now.ensures c.elements.invariant

pub body-returns : goal.body-returns
body-returns t c =
    continues_end (program_of c.args.self.now.style.now) c.args.self.now.types.now c.args.ops.now c.elements.op-index (ops_body c.args.ops.now) (states_seen c.args.states.items) (states_seen c.elements.now.items) c.elements-test.false c.elements.invariant

-- elements

pub element-returns-in-Call : goal.element-returns-in-Call
element-returns-in-Call t c = acts_called _ _ c.args.op.now _ _ _ c.in-Call.is c.in_ok-after.ensures

pub element-returns : goal.element-returns
element-returns t c =
    acts_pushes _ _ (element_of c.args.op.now) (known_seen c.in_ok-known.known) (states_seen c.args.states.items) _ c.in_ok-known.ensures
    (c.in_ok-after-2.ensures ∙ ap (λ l. map (pushing (known_seen c.in_ok-known.known)) (states_seen l)) c.as_slice.ensures.value)

-- calls

pub call-returns-in-Function : goal.call-returns-in-Function
call-returns-in-Function t c =
    acts_body _ _ c.args.name _ _ _ _ c.in-Function.is c.in_ok-ops-in-Function.ensures c.in_ok-after-in-Function.ensures

pub each-states-init : goal.each-states-init
each-states-init t c = acts_none _ _ _ _

pub each-states-preserved : goal.each-states-preserved
each-states-preserved t c =
    each_state _ _ (Called c.args.name) c.args.states.now c.states.state-index c.state-item.result c.states.after.items c.in_ok-more.more.items _ c.states-test.true c.state-item.is (search rules) c.states.invariant c.in_ok-more.ensures

pub each-returns : goal.each-returns
each-returns t c = all_states _ _ (Called c.args.name) c.args.states.now c.states.after.items c.states.state-index c.states-test.false c.states.invariant

pub one-returns-in_ok-after-in-Builtin : goal.one-returns-in_ok-after-in-Builtin
one-returns-in_ok-after-in-Builtin t c = acts_name _ _ c.args.name _ _ _ c.in-Builtin.is c.in_ok-after-in-Builtin.ensures

pub one-returns-in_ok-after-in_default : goal.one-returns-in_ok-after-in_default
one-returns-in_ok-after-in_default t c = acts_makes _ _ _ _ _ c.in_ok-after-in_default.ensures

-- built-in functions

pub builtin-returns-in_ok-after-in-If : goal.builtin-returns-in_ok-after-in-If
builtin-returns-in_ok-after-in-If t c = acts_builtin _ _ c.args.builtin _ _ _ c.in-If.is c.in_ok-after-in-If.ensures

pub builtin-returns-in_ok-after-in-While : goal.builtin-returns-in_ok-after-in-While
builtin-returns-in_ok-after-in-While t c = acts_builtin _ _ c.args.builtin _ _ _ c.in-While.is c.in_ok-after-in-While.ensures

pub builtin-returns-in_ok-after-in-CallType : goal.builtin-returns-in_ok-after-in-CallType
builtin-returns-in_ok-after-in-CallType t c = acts_builtin _ _ c.args.builtin _ _ _ c.in-CallType.is c.in_ok-after-in-CallType.ensures

pub builtin-returns-in_ok-after-in_default : goal.builtin-returns-in_ok-after-in_default
builtin-returns-in_ok-after-in_default t c = acts_makes _ _ _ _ _ c.in_ok-after-in_default.ensures

-- functions

pub code-returns-in_ok-after-in-Name : goal.code-returns-in_ok-after-in-Name
code-returns-in_ok-after-in-Name t c = follows_code _ _ c.args.code _ _ _ c.in-Name.is (follows_name _ _ _ _ _ c.in_ok-after-in-Name.ensures)

pub code-returns-in_ok-after-in-Block : goal.code-returns-in_ok-after-in-Block
code-returns-in_ok-after-in-Block t c = follows_code _ _ c.args.code _ _ _ c.in-Block.is c.in_ok-after-in-Block.ensures

-- `if$`

pub choose-returns : goal.choose-returns
choose-returns t c =
    chosen_states (program_of c.args.self.now.style.now) c.args.self.now.types.now (state_seen c.args.state.now) (code_seen c.in_ok-branch.branch.first) (code_seen c.in_ok-branch.branch.second)
    (states_seen c.in_ok-branch.branch.above.items) (states_seen c.in_ok-branch.branch.upto.items) c.in_ok-after.after.items c.in_ok-other.other.items _ (search rules)
    c.in_ok-branch.ensures c.in_ok-after.ensures c.in_ok-other.ensures

-- `while$`

pub turn-returns : goal.turn-returns
turn-returns t c =
    let p = program_of c.args.self.now.style.now in
    let types = c.args.self.now.types.now in
    let mids = c.in_ok-mids.mids.items in
    let goes = states_seen c.in_ok-parts.parts.goes.items in
    let ends = states_seen c.in_ok-parts.parts.ends.items in
    turned p types (code_seen c.args.taken.now.test) (code_seen c.args.taken.now.body) (states_seen c.args.heads.now) (states_seen mids) goes (states_seen c.in_ok-goes.goes.items) (states_seen c.in_ok-back.back.items) ends
    (subst (λ ss. Follows p types (code_body (code_seen c.args.taken.now.test)) ss (states_seen mids)) c.in_ok-heads.ensures c.in_ok-mids.ensures)
    (subst (λ l. Splits (states_seen l) goes ends) c.as_slice.ensures.value c.in_ok-parts.ensures)
    c.in_ok-goes.ensures c.in_ok-back.ensures

pub repeat-returns-then-is_closed : goal.repeat-returns-then-is_closed
repeat-returns-then-is_closed t c =
    let p = program_of c.args.self.now.style.now in
    let types = c.args.self.now.types.now in
    let test = code_seen c.in_ok-taken.taken.test in
    let body = code_seen c.in_ok-taken.taken.body in
    let first = c.in_ok-taken.taken.first.items in
    let heads = c.turns.heads.items in
    let back = c.in_ok-turn.turn.back.items in
    let ends = states_seen c.in_ok-turn.turn.ends.items in
    acts_while p types (state_seen c.args.state.now) test body (states_seen first) (states_seen heads) (states_seen back) ends c.in_ok-taken.ensures
    (subst (λ l. Turned p types test body (states_seen l) (states_seen back) ends) c.as_slice-in-turns.ensures.value c.in_ok-turn.ensures)
    (subst (λ l. Covered (states_seen first) (states_seen l)) c.as_slice-in-turns-4.ensures.value
    (subst (λ l. Covered (states_seen l) (states_seen c.as_slice-in-turns-4.result.now)) c.as_slice-in-turns-2.ensures.value (c.is_closed.ensures.first c.if-is_closed.true)))
    (subst (λ l. Covered (states_seen back) (states_seen l)) c.as_slice-in-turns-4.ensures.value
    (subst (λ l. Covered (states_seen l) (states_seen c.as_slice-in-turns-4.result.now)) c.as_slice-in-turns-3.ensures.value (c.is_closed.ensures.back c.if-is_closed.true)))

-- `call.type$`

pub untyped-returns-in_ok-after-in-Some : goal.untyped-returns-in_ok-after-in-Some
untyped-returns-in_ok-after-in-Some t c =
    some_default (program_of c.args.self.now.style.now) c.args.self.now.types.now _ (state_seen c.args.state.now) (states_seen c.in_ok-before.before.items) _
    (sym c.default_type_of.ensures ∙ c.in-Some.is) c.in_ok-before.ensures
    (subst (λ b. Follows (program_of c.args.self.now.style.now) c.args.self.now.types.now b (states_seen c.in_ok-before.before.items) (states_seen c.in_ok-after-in-Some.after.items)) c.in_ok-ops-in-Some.ensures c.in_ok-after-in-Some.ensures)

pub untyped-returns-in-None : goal.untyped-returns-in-None
untyped-returns-in-None t c = no_default _ _ _ _ (sym c.default_type_of.ensures ∙ c.in-None.is) c.in_ok-before.ensures

pub call_type-types-init : goal.call_type-types-init
call_type-types-init t c = c.in_ok-after.ensures

pub call_type-types-preserved : goal.call_type-types-preserved
call_type-types-preserved t c =
    let p = program_of c.args.self.now.style.now in
    let types = c.args.self.now.types.now in
    each_type p types types c.types.n-index _ c.args.state.now c.in_ok-before.before.items c.types.after.items c.in_ok-more.more.items _
    c.types-test.true (search rules) c.in_ok-before.ensures c.types.invariant
    (subst (λ b. Follows p types b (states_seen c.in_ok-before.before.items) (states_seen c.in_ok-more.more.items)) c.in_ok-ops.ensures c.in_ok-more.ensures)

pub call_type-returns : goal.call_type-returns
call_type-returns t c =
    let none : c.is_none.result ≡ false = search rules in
    let p = program_of c.args.self.now.style.now in
    let types = c.args.self.now.types.now in
    acts_types p types (state_seen c.args.state.now) (states_seen c.types.after.items) (ap not (c.is_none.ensures ∙ ap not none))
    (all_types p types types (state_seen c.args.state.now) (states_seen c.types.after.items) c.types.n-index c.types-test.false c.types.invariant)
