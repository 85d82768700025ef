use Rattle.std.proofs.Common.{ap, sym, ◌∙◌}
use Rattle.bt_style.specs.Program.{program_of}
use Rattle.bt_style.specs.declared.style.Target.TheVariants as target
use Rattle.bt_style.specs.Tree.{Braced, Called, Quoted, element_of, ops_body}
use Rattle.bt_stack.specs.View.{world_of}
use Rattle.bt_actions.specs.Tally.{with_call}
use Rattle.bt_machine.specs.inner.Loop.{counts, left, whole}
use Rattle.bt_machine.proofs.LoopLemmas.{block_seen, call_seen, quote_seen, seen_leads}
use Rattle.bt_machine.proofs.run.carry_out.Goals as goal

pub returns-in_ok-next-in-Quote-clause-leads : goal.returns-in_ok-next-in-Quote-clause-leads
returns-in_ok-next-in-Quote-clause-leads c =
    let p = program_of c.args.context.style.now in
    let seen = ap element_of c.in-Quote.is ∙ quote_seen c.in-Quote.target in
    let taken = c.take-in-Quote.ensures in
    seen_leads p (element_of c.args.at.0.now) (Quoted c.in-Quote.target) (world_of c.args.state.now) c.args.tally.now c.take-in-Quote.new.self _ (left p (whole c.args.at.1.now c.args.control.now.items)) seen taken.ticks taken.calls (c.in_ok-next-in-Quote.ensures.leads p)

pub returns-in_ok-next-in-Block-clause-leads : goal.returns-in_ok-next-in-Block-clause-leads
returns-in_ok-next-in-Block-clause-leads c =
    let p = program_of c.args.context.style.now in
    let seen = ap element_of c.in-Block.is ∙ block_seen c.in-Block.ops ∙ ap (λ l. Braced (ops_body l)) (sym c.deref.ensures.value) in
    let taken = c.take-in-Block.ensures in
    seen_leads p (element_of c.args.at.0.now) _ (world_of c.args.state.now) c.args.tally.now c.take-in-Block.new.self _ (left p (whole c.args.at.1.now c.args.control.now.items)) seen taken.ticks taken.calls (c.in_ok-next-in-Block.ensures.leads p)

pub returns-in_ok-next-in-Builtin-clause-leads : goal.returns-in_ok-next-in-Builtin-clause-leads
returns-in_ok-next-in-Builtin-clause-leads c =
    let p = program_of c.args.context.style.now in
    let seen = ap element_of c.in-Call.is ∙ call_seen c.in-Call.target ∙ ap Called c.in-Builtin.is in
    let taken = c.take-in-Builtin in
    seen_leads p (element_of c.args.at.0.now) (Called (target.Builtin c.in-Builtin.builtin)) (world_of c.args.state.now) c.args.tally.now taken.new.self _ (left p (whole c.args.at.1.now c.args.control.now.items)) seen taken.ensures.ticks taken.ensures.calls (c.in_ok-next-in-Builtin.ensures.leads (counts taken.new.self))

pub returns-in_ok-next-in_default-clause-leads : goal.returns-in_ok-next-in_default-clause-leads
returns-in_ok-next-in_default-clause-leads c =
    let p = program_of c.args.context.style.now in
    let seen = ap element_of c.in-Call.is ∙ call_seen c.in-Call.target in
    let taken = c.take-in_default in
    let calls = taken.ensures.calls ∙ ap (λ b. with_call b c.args.tally.now.calls) c.builtin_of.ensures in
    seen_leads p (element_of c.args.at.0.now) (Called c.in-Call.target) (world_of c.args.state.now) c.args.tally.now taken.new.self _ (left p (whole c.args.at.1.now c.args.control.now.items)) seen taken.ensures.ticks calls (c.in_ok-next-in_default.ensures.leads (counts taken.new.self))
