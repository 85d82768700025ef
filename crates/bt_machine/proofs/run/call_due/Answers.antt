use Rattle.std.proofs.Common.{[], ◌∙◌, ap, sym, refl}
use Rattle.bt_style.specs.Program.{program_of}
use Rattle.bt_style.specs.Tree.{Called}
use Rattle.bt_actions.specs.Tally.{with_call}
use Rattle.bt_stack.specs.View.{world_of}
use Rattle.bt_machine.specs.declared.calls.Next.{Next}
use Rattle.bt_machine.specs.declared.calls.Next.TheVariants as next
use Rattle.bt_machine.specs.Eval.{Ending}
use Rattle.bt_machine.specs.inner.Loop.{counts, left, followed, whole, call_left}
use Rattle.bt_machine.proofs.LoopLemmas.{element_leads, no_tick_leads}
use Rattle.bt_machine.proofs.run.call_due.Goals as goal

pub returns-then-tally-eq0-clause-leads : goal.returns-then-tally-eq0-clause-leads
returns-then-tally-eq0-clause-leads c =
    let p = program_of c.args.context.style.now in
    let k = counts c.args.tally.now in
    let w = world_of c.args.state.now in
    let due = call_left c.args.name [] c.args.control.now.items in
    no_tick_leads p (Called c.args.name) due (whole [] c.args.control.now.items) w (world_of c.tell_no_tick.new.state) k (left p due w k) refl (λ p w k. refl) c.if-tally-eq0.true c.in_ok-tell_no_tick.ensures

pub returns-in-Stop-clause-leads : goal.returns-in-Stop-clause-leads
returns-in-Stop-clause-leads c =
    let p = program_of c.args.context.style.now in
    let k = counts c.args.tally.now in
    let w = world_of c.args.state.now in
    let rest = whole [] c.args.control.now.items in
    let due = call_left c.args.name [] c.args.control.now.items in
    let calls = c.take.ensures.calls ∙ ap (λ b. with_call b c.args.tally.now.calls) c.builtin_of.ensures in
    let follows : Next → Ending = λ next. followed p next c.call_quoted.new.control.items (world_of c.call_quoted.new.state) (counts c.take.new.self) in
    let did = ap follows (sym c.in-Stop.is) ∙ c.in_ok-next.ensures.leads (counts c.take.new.self) in
    element_leads p (Called c.args.name) due rest w k (counts c.take.new.self) (follows next.Stop) (left p due w k) refl (λ p w k. refl) c.take.ensures.ticks calls did

pub returns-in-Body-clause-leads : goal.returns-in-Body-clause-leads
returns-in-Body-clause-leads c =
    let p = program_of c.args.context.style.now in
    let k = counts c.args.tally.now in
    let w = world_of c.args.state.now in
    let rest = whole [] c.args.control.now.items in
    let due = call_left c.args.name [] c.args.control.now.items in
    let calls = c.take.ensures.calls ∙ ap (λ b. with_call b c.args.tally.now.calls) c.builtin_of.ensures in
    let follows : Next → Ending = λ next. followed p next c.call_quoted.new.control.items (world_of c.call_quoted.new.state) (counts c.take.new.self) in
    let did = ap follows (sym c.in-Body.is) ∙ c.in_ok-next.ensures.leads (counts c.take.new.self) in
    element_leads p (Called c.args.name) due rest w k (counts c.take.new.self) (follows (next.Body c.in-Body.body)) (left p due w k) refl (λ p w k. refl) c.take.ensures.ticks calls did
