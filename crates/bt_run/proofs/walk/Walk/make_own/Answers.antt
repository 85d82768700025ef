use Rattle.std.proofs.Common.{◌∙◌, ap}
use Rattle.bt_style.specs.Program.{program_of}
use Rattle.bt_run.specs.declared.course.Step.{Step}
use Rattle.bt_run.specs.inner.Beside.{first_of}
use Rattle.bt_run.proofs.WalkLemmas.{put_steps, walked_to}
use Rattle.bt_run.proofs.WalkOrderLemmas.{ordered_own, step_here}
use Rattle.bt_run.proofs.walk.Walk.make_own.Goals as goal

pub make-requires-clause-walked : goal.make-requires-clause-walked
make-requires-clause-walked c =
    let context = c.args.context in
    walked_to (program_of context.style.now) context.key.now (first_of (program_of context.style.now) context.first.now) context.earlier.now.steps c.args.number c.deref.result.now.command c.args.self.now c.requires.walked

pub returns-clause-ordered : goal.returns-clause-ordered
returns-clause-ordered c = λ go.
    let context = c.args.context in
    let ss = context.earlier.now.steps in
    let k = c.args.number in
    let w = c.args.self.now in
    let s = c.index-as_slice-number.result in
    let here = step_here ss c.as_slice.result.now k s c.as_slice.ensures c.requires.number c.index-as_slice-number.is in
    let put = c.in_ok-on.ensures.put go in
    ordered_own (program_of context.style.now) context.key.now (first_of (program_of context.style.now) context.first.now) ss context.read k s here w c.requires.ordered put.other.step c.make.new.self
    (c.requires.own s here) c.requires.walked (c.keeps_order.ensures c.if-not-keeps_order.false s here)
    (put_steps ss k (record w { last_command = c.deref.result.now.command }) c.make.new.self put)
    (put.last ∙ ap (λ (t : Step). t.command) c.deref.ensures)
