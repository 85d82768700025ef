use Rattle.std.specs.Prelude.{Contains}
use Rattle.std.proofs.Common.{◌↔◌, ◌∙◌, sym, subst, All, List}
use Rattle.bt_style.specs.declared.reach.Reach.{Reach}
use Rattle.bt_style.specs.declared.style.Target.{Target}
use Rattle.bt_style.specs.Program.{program_of}
use Rattle.bt_style.specs.Reach.{Reaches}
use Rattle.bt_run.specs.declared.reuse.KnownReach.{KnownReach}
use Rattle.bt_run.specs.inner.Work.{IsKnown}
use Rattle.bt_run.proofs.CourseLemmas.{all_behind}
use Rattle.bt_run.proofs.WorkLemmas.{footprint_of}
use Rattle.bt_run.proofs.reused_step.reach_of.Goals as goal

pub returns-clause-reach : goal.returns-clause-reach
returns-clause-reach c =
    let p = program_of c.args.style.now in
    let f = c.type_function-function.result in
    let Reached : Reach → Type 0 = λ r. (t : Target) → Contains r.targets t ↔ Reaches p f c.args.input.now.target t in
    footprint_of p c.args.input.now c.in_ok-reach.reach.targets f c.type_function-function.ensures (subst Reached (sym c.in_ok-reach.ensures) c.in_ok-found.ensures.targets)

pub returns-clause-known : goal.returns-clause-known
returns-clause-known c =
    let p = program_of c.args.style.now in
    let f = c.type_function-function.result in
    let Reached : Reach → Type 0 = λ r. (t : Target) → Contains r.targets t ↔ Reaches p f c.args.input.now.target t in
    let one : KnownReach = record { target = c.args.input.now.target; function = f; reach = c.in_ok-kept.kept } in
    let is_known : IsKnown p one = subst Reached (sym (c.in_ok-kept.ensures ∙ c.in_ok-reach.ensures)) c.in_ok-found.ensures.targets in
    subst (λ (ks : List KnownReach). All (IsKnown p) ks) (sym c.in_ok-push.ensures.ok) (all_behind (IsKnown p) c.args.known.now one c.requires is_known)
