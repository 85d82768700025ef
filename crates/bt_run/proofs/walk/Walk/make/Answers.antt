use Rattle.std.proofs.Common.{subst}
use Rattle.bt_style.specs.Program.{program_of}
use Rattle.bt_run.specs.declared.course.Step.{Step}
use Rattle.bt_run.specs.declared.walk.Walk.{Walk}
use Rattle.bt_run.specs.inner.Beside.{MayLeave, first_of}
use Rattle.bt_run.specs.inner.Walk.{IsNoted}
use Rattle.bt_run.proofs.WalkLemmas.{noted_put, walked_made}
use Rattle.bt_run.proofs.WalkOrderLemmas.{step_here}
use Rattle.bt_run.proofs.walk.Walk.make.Goals as goal

pub returns-clause-walked : goal.returns-clause-walked
returns-clause-walked c = λ go.
    let context = c.args.context in
    let ss = context.earlier.now.steps in
    let k = c.args.number in
    let w = c.args.self.now in
    let own = c.args.own in
    let t = c.in_ok-step.step in
    let s = c.index-as_slice-number.result in
    let here = step_here ss c.as_slice.result.now k s c.as_slice.ensures c.requires.number c.index-as_slice-number.is in
    let may : MayLeave own t.outcome s.outcome =
    subst (λ (u : Step). MayLeave own u.outcome s.outcome) c.deref.ensures
    (subst (λ (u : Step). MayLeave own c.deref.result.now.outcome u.outcome) c.deref-2.ensures (c.may_leave.ensures c.if-not-may_leave.false))
    in
    let noted : IsNoted own k s t (record w { reuse = c.step_again.new.self.reuse }) c.note.new.self =
    subst (λ (v : Walk). IsNoted own k s t v c.note.new.self) c.in_ok-step.ensures.rest (c.in_ok-note.ensures s here)
    in
    walked_made (program_of context.style.now) context.key.now (first_of (program_of context.style.now) context.first.now) ss context.earlier.now.in_turn k s here w c.requires.walked
    own t c.step_again.new.self.reuse c.note.new.self (c.requires.own s here)
    (c.in_ok-step.ensures.again s here) c.in_ok-step.ensures.next may noted

pub returns-clause-put : goal.returns-clause-put
returns-clause-put c = λ go.
    let ss = c.args.context.earlier.now.steps in
    let k = c.args.number in
    let s = c.index-as_slice-number.result in
    let here = step_here ss c.as_slice.result.now k s c.as_slice.ensures c.requires.number c.index-as_slice-number.is in
    noted_put c.args.own k s c.in_ok-step.step c.args.self.now c.step_again.new.self.reuse c.note.new.self
    (subst (λ (v : Walk). IsNoted c.args.own k s c.in_ok-step.step v c.note.new.self) c.in_ok-step.ensures.rest (c.in_ok-note.ensures s here))
