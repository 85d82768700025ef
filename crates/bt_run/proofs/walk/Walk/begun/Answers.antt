use Rattle.std.specs.Prelude.{slice_get}
use Rattle.std.proofs.Common.{◌≡◌, ◌∙◌, ap, refl, sym, List, Some}
use Rattle.bt_style.specs.Program.{program_of}
use Rattle.bt_run.specs.declared.course.Step.{Step}
use Rattle.bt_run.specs.inner.Beside.{first_of}
use Rattle.bt_run.proofs.WalkLemmas.{walked_none}
use Rattle.bt_run.proofs.WalkOrderLemmas.{ordered_none}
use Rattle.bt_run.proofs.walk.Walk.begun.Goals as goal

pub returns-clause-walked : goal.returns-clause-walked
returns-clause-walked c =
    let context = c.args.context in
    let earlier = context.earlier.now in
    let there : (s : Step) → slice_get earlier.steps 0 ≡ Some s → slice_get c.as_slice.result.now 0 ≡ Some s =
    λ s here. ap (λ (ss : List Step). slice_get ss 0) c.as_slice.ensures ∙ here
    in
    walked_none (program_of context.style.now) context.key.now (first_of (program_of context.style.now) context.first.now) earlier.steps
    (record { entry = c.in_ok-share.field-0; in_step = c.begins_alike-in_step.result; globals = c.in_ok-new.field-0; held = c.new-2.result; steps = c.new-3.result; calls = c.in-Some.calls; reuse = c.begun.result; last_command = context.read })
    c.new-3.ensures c.in_ok-share.ensures (c.in_ok-new.ensures ∙ c.requires) c.new-2.ensures
    (λ is s here. record {
      globals = sym c.requires ∙ c.begins_alike-in_step.ensures.globals is s (there s here);
      held = sym (c.begins_alike-in_step.ensures.held is s (there s here));
    })
    c.begun.ensures.ran c.begun.ensures.meter c.begun.ensures.known c.begun.ensures.index
    (earlier.called c.in-Some.calls c.in-Some.is)

pub returns-clause-ordered : goal.returns-clause-ordered
returns-clause-ordered c =
    let context = c.args.context in
    ordered_none (program_of context.style.now) context.key.now (first_of (program_of context.style.now) context.first.now) context.earlier.now.steps context.read
    (record { entry = c.in_ok-share.field-0; in_step = c.begins_alike-in_step.result; globals = c.in_ok-new.field-0; held = c.new-2.result; steps = c.new-3.result; calls = c.in-Some.calls; reuse = c.begun.result; last_command = context.read })
    refl
