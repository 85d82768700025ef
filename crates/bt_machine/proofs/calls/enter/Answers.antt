use Rattle.std.proofs.Common.{◌≡◌, length, arith}
use Rattle.bt_style.specs.Program.{program_of}
use Rattle.bt_style.specs.Tree.{ops_body}
use Rattle.bt_machine.specs.Eval.{function_body}
use Rattle.bt_machine.specs.inner.Loop.{kept, whole}
use Rattle.bt_machine.proofs.LoopLemmas.{body_leads, nothing_leads}
use Rattle.bt_machine.proofs.calls.enter.Goals as goal

pub returns-clause-leads : goal.returns-clause-leads
returns-clause-leads c = λ w k.
    let p = program_of c.args.style.now in
    body_leads p (ops_body c.function_body-body.result.now) (function_body p.functions c.args.n) (whole c.args.rest.now c.args.control.now.items) (kept c.keep.new.control.items) w k c.function_body-body.ensures c.in_ok-keep.ensures.same

pub returns-then-is_empty-clause-leads : goal.returns-then-is_empty-clause-leads
returns-then-is_empty-clause-leads c = λ w k.
    let p = program_of c.args.style.now in
    let none : length c.function_body-body.result.now ≡ 0 = grind (arith, c.is_empty.ensures, c.if-is_empty.true) in
    nothing_leads p c.function_body-body.result.now (function_body p.functions c.args.n) (whole c.args.rest.now c.args.control.now.items) w k none c.function_body-body.ensures
