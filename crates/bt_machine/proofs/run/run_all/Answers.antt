use Rattle.std.proofs.Common.{[], ◌∷◌, ◌∙◌, ap, sym, refl, subst}
use Rattle.bt_style.specs.Program.{program_of}
use Rattle.bt_style.specs.Tree.{End, Then, Called, element_of}
use Rattle.bt_actions.specs.Item.{Name}
use Rattle.bt_actions.specs.View.{code_seen}
use Rattle.bt_stack.specs.View.{world_of}
use Rattle.bt_machine.specs.declared.control.Frame.TheVariants as held
use Rattle.bt_actions.specs.declared.code.Code.TheVariants as code
use Rattle.bt_machine.specs.declared.calls.Next.{Next}
use Rattle.bt_machine.specs.declared.calls.Next.TheVariants as next
use Rattle.bt_machine.specs.Eval.{Ending, eval}
use Rattle.bt_machine.specs.inner.Loop.{Run, call_left, counts, IsDue, followed, kept, left, whole}
use Rattle.bt_machine.proofs.LoopLemmas.{ticked_leads, due_element, ends_leads, kept_some, no_op, no_tick_leads, starts, turn_leads}
use Rattle.bt_machine.proofs.run.run_all.Goals as goal

pub work-init : goal.work-init
work-init c =
    let f = held.Run (code.Name c.args.first) in
    let waits = kept_some c.push.new.self.items c.in_ok-control.control.items f c.in_ok-push.ensures.items ∙ ap (λ fs. Run (Name c.args.first) ∷ kept fs) c.in_ok-control.ensures.items in
    starts (program_of c.args.context.style.now) c.args.first [] c.push.new.self.items (world_of c.args.state.now) (counts c.args.tally.now) refl waits

pub returns-in-Nothing : goal.returns-in-Nothing
returns-in-Nothing c =
    let p = program_of c.args.context.style.now in
    let is_due = subst (λ d. IsDue d c.work.rest.now c.work.control.items c.next_due.new.control.items) c.in-Nothing.is c.next_due.ensures in
    sym (is_due p (world_of c.work.state) (counts c.work.tally)) ∙ c.work.invariant

pub work-preserved-in-Body-next_due : goal.work-preserved-in-Body-next_due
work-preserved-in-Body-next_due c =
    let p = program_of c.args.context.style.now in
    let is_due = subst (λ d. IsDue d c.work.rest.now c.work.control.items c.next_due.new.control.items) c.in-Body-next_due.is c.next_due.ensures in
    sym (is_due.0 p (world_of c.work.state) (counts c.work.tally)) ∙ c.work.invariant

pub work-preserved-then-branch : goal.work-preserved-then-branch
work-preserved-then-branch c =
    let p = program_of c.args.context.style.now in
    let end = eval p (Then (Called c.args.first) End) (world_of c.args.state.now) (counts c.args.tally.now) in
    let left_before = whole c.work.rest.now c.work.control.items in
    let left_now = whole c.work.rest.now c.next_due.new.control.items in
    let is_due = subst (λ d. IsDue d c.work.rest.now c.work.control.items c.next_due.new.control.items) c.in-Test.is c.next_due.ensures in
    let goes = c.in_ok-goes_on-in-Test.ensures in
    turn_leads p (code_seen c.in-Test.test) (code_seen c.in-Test.body) left_before left_now (whole c.in_ok-rest-in-Test.rest.now c.begin_loop.new.control.items) (whole c.in_ok-rest-in-Test-2.rest.now c.begin.new.control.items) (world_of c.work.state) (world_of c.goes_on.new.state) (counts c.work.tally) end c.work.invariant is_due.0 (sym goes.turn ∙ c.if-branch.true) goes.world c.in_ok-rest-in-Test.ensures.same c.in_ok-rest-in-Test-2.ensures.same

pub work-preserved-else-branch : goal.work-preserved-else-branch
work-preserved-else-branch c =
    let p = program_of c.args.context.style.now in
    let end = eval p (Then (Called c.args.first) End) (world_of c.args.state.now) (counts c.args.tally.now) in
    let left_before = whole c.work.rest.now c.work.control.items in
    let left_now = whole c.work.rest.now c.next_due.new.control.items in
    let is_due = subst (λ d. IsDue d c.work.rest.now c.work.control.items c.next_due.new.control.items) c.in-Test.is c.next_due.ensures in
    let goes = c.in_ok-goes_on-in-Test.ensures in
    ends_leads p (code_seen c.in-Test.test) (code_seen c.in-Test.body) left_before left_now (world_of c.work.state) (world_of c.goes_on.new.state) (counts c.work.tally) end c.work.invariant is_due.0 (sym goes.turn ∙ c.if-branch.false) goes.world

pub returns-then-tally-eq0 : goal.returns-then-tally-eq0
returns-then-tally-eq0 c =
    let p = program_of c.args.context.style.now in
    let end = eval p (Then (Called c.args.first) End) (world_of c.args.state.now) (counts c.args.tally.now) in
    let left_before = whole c.work.rest.now c.work.control.items in
    let left_now = whole c.in-Some.after.now c.work.control.items in
    let element = element_of c.in-Some.op.now in
    let is_due = due_element c.in-Some.op.now c.work.rest.now c.in-Some.after.now c.work.control.items c.in-Some.ensures.cases.0 in
    no_tick_leads p element left_before left_now (world_of c.work.state) (world_of c.tell_no_tick.new.state) (counts c.work.tally) end c.work.invariant is_due c.if-tally-eq0.true c.in_ok-tell_no_tick-in-Some.ensures

pub returns-in-Stop : goal.returns-in-Stop
returns-in-Stop c =
    let p = program_of c.args.context.style.now in
    let end = eval p (Then (Called c.args.first) End) (world_of c.args.state.now) (counts c.args.tally.now) in
    let left_before = whole c.work.rest.now c.work.control.items in
    let left_now = whole c.in-Some.after.now c.work.control.items in
    let element = element_of c.in-Some.op.now in
    let is_due = due_element c.in-Some.op.now c.work.rest.now c.in-Some.after.now c.work.control.items c.in-Some.ensures.cases.0 in
    let follows : Next → Ending = λ next. followed p next c.carry_out.new.control.items (world_of c.carry_out.new.state) (counts c.carry_out.new.tally) in
    let did = ap follows (sym c.in-Stop.is) ∙ c.in_ok-next-in-Some.ensures.leads in
    ticked_leads p element left_before left_now (world_of c.work.state) c.work.tally (follows next.Stop) end c.work.invariant is_due c.if-tally-eq0.false did

pub work-preserved-in-Body : goal.work-preserved-in-Body
work-preserved-in-Body c =
    let p = program_of c.args.context.style.now in
    let end = eval p (Then (Called c.args.first) End) (world_of c.args.state.now) (counts c.args.tally.now) in
    let left_before = whole c.work.rest.now c.work.control.items in
    let left_now = whole c.in-Some.after.now c.work.control.items in
    let element = element_of c.in-Some.op.now in
    let is_due = due_element c.in-Some.op.now c.work.rest.now c.in-Some.after.now c.work.control.items c.in-Some.ensures.cases.0 in
    let follows : Next → Ending = λ next. followed p next c.carry_out.new.control.items (world_of c.carry_out.new.state) (counts c.carry_out.new.tally) in
    let did = ap follows (sym (c.in-Body.is)) ∙ c.in_ok-next-in-Some.ensures.leads in
    ticked_leads p element left_before left_now (world_of c.work.state) c.work.tally (follows (next.Body c.in-Body.body)) end c.work.invariant is_due c.if-tally-eq0.false did

pub work-preserved : goal.work-preserved
work-preserved c =
    let p = program_of c.args.context.style.now in
    let is_due = subst (λ d. IsDue d c.work.rest.now c.work.control.items c.next_due.new.control.items) c.in-Name.is c.next_due.ensures in
    let goes = rw c.in-Some-next.is at c.in_ok-next-in-Name.ensures.leads in
    let whole_left = ap (λ r. left p (call_left c.in-Name.name r c.next_due.new.control.items) (world_of c.work.state) (counts c.work.tally)) (no_op c.work.rest.now c.in-None.ensures.cases) in
    goes ∙ sym whole_left ∙ sym (is_due.0 p (world_of c.work.state) (counts c.work.tally)) ∙ c.work.invariant

pub returns-in-None-next : goal.returns-in-None-next
returns-in-None-next c =
    let p = program_of c.args.context.style.now in
    let is_due = subst (λ d. IsDue d c.work.rest.now c.work.control.items c.next_due.new.control.items) c.in-Name.is c.next_due.ensures in
    let stops = rw c.in-None-next.is at c.in_ok-next-in-Name.ensures.leads in
    let whole_left = ap (λ r. left p (call_left c.in-Name.name r c.next_due.new.control.items) (world_of c.work.state) (counts c.work.tally)) (no_op c.work.rest.now c.in-None.ensures.cases) in
    stops ∙ sym whole_left ∙ sym (is_due.0 p (world_of c.work.state) (counts c.work.tally)) ∙ c.work.invariant
