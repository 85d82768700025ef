use Rattle.std.proofs.Common.{◌∙◌}
use Rattle.bt_style.specs.Program.{program_of}
use Rattle.bt_run.specs.inner.Beside.{first_of}
use Rattle.bt_run.proofs.BesideStepsLemmas.{element}
use Rattle.bt_run.proofs.WalkLemmas.{put_steps, walked_passed}
use Rattle.bt_run.proofs.WalkOrderLemmas.{ordered_other, ordered_passed}
use Rattle.bt_run.proofs.walk.Walk.pass.Goals as goal

pub returns-clause-ordered : goal.returns-clause-ordered
returns-clause-ordered c = λ go.
    let context = c.args.context in
    let ss = context.earlier.now.steps in
    let k = c.args.number in
    let here = element ss k c.requires.number in
    let put = c.in_ok-on.ensures.put go in
    ordered_other (program_of context.style.now) context.key.now (first_of (program_of context.style.now) context.first.now) ss context.read k here.0 here.1 c.args.self.now c.requires.ordered put.other.step c.make.new.self
    (c.in-Some.ensures here.0 here.1 ∙ c.if-own.false)
    (put_steps ss k c.args.self.now c.make.new.self put) put.last

pub returns-then-not-own-clause-walked : goal.returns-then-not-own-clause-walked
returns-then-not-own-clause-walked c = λ go.
    let context = c.args.context in
    let ss = context.earlier.now.steps in
    let k = c.args.number in
    let here = element ss k c.requires.number in
    walked_passed (program_of context.style.now) context.key.now (first_of (program_of context.style.now) context.first.now) ss context.earlier.now.in_turn k here.0 here.1 c.args.self.now c.requires.walked
    context.steps (c.in-Some.ensures here.0 here.1 ∙ c.if-not-own.true) c.if-self.true

pub returns-then-not-own-clause-ordered : goal.returns-then-not-own-clause-ordered
returns-then-not-own-clause-ordered c = λ go.
    let context = c.args.context in
    let ss = context.earlier.now.steps in
    let k = c.args.number in
    let here = element ss k c.requires.number in
    ordered_passed (program_of context.style.now) context.key.now (first_of (program_of context.style.now) context.first.now) ss context.read k here.0 here.1 c.args.self.now c.requires.ordered
    (c.in-Some.ensures here.0 here.1 ∙ c.if-not-own.true)
