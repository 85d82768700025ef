use Rattle.std.specs.Prelude.{IfSome}
use Rattle.std.proofs.Common.{◌∙◌, ℕ, List, subst, Option}
use Rattle.bt_style.specs.Program.{program_of}
use Rattle.bt_run.specs.declared.follow.NewRun.{NewRun}
use Rattle.bt_run.specs.declared.kept_walk.PlacedWalk.{PlacedWalk}
use Rattle.bt_run.specs.declared.walk.NewStep.{NewStep}
use Rattle.bt_run.specs.inner.Cases.{bbl_of}
use Rattle.bt_run.specs.inner.Put.{IsPartOf}
use Rattle.bt_run.specs.inner.Walk.{IsWalkFrom, with_steps}
use Rattle.bt_run.proofs.NewRunLemmas.{bbl_written, cites_apart, is_new_run, steps_of_style}
use Rattle.bt_run.proofs.answers.Run.new_run.Goals as goal

pub walk-requires-clause-steps : goal.walk-requires-clause-steps
walk-requires-clause-steps c = steps_of_style c.args.change c.args.self.now (program_of c.args.style.now) c.requires.asked

pub walk-requires-clause-own : goal.walk-requires-clause-own
walk-requires-clause-own c = c.requires.asked.asked.own

pub walk-requires-clause-apart : goal.walk-requires-clause-apart
walk-requires-clause-apart c = cites_apart c.args.change c.args.self.now (program_of c.args.style.now) c.requires.asked

pub of-requires-clause-old : goal.of-requires-clause-old
of-requires-clause-old c = c.as_slice.ensures ∙ bbl_written c.args.change c.args.self.now (program_of c.args.style.now) c.requires.asked

pub returns : goal.returns
returns c =
    let run = c.args.self.now in
    let p = program_of c.args.style.now in
    let placed = c.in-Some.placed in
    let new : NewRun = record { place = placed.place; walk = placed.walk; part = c.in_ok-part.part; answers = c.in_ok-answers.answers } in
    is_new_run c.args.change run p c.requires.asked c.requires.rest (c.step_depends_on_its_input.ensures p) new
    (subst (λ (o : Option PlacedWalk). IfSome o (λ made. IsWalkFrom p run.kept made.place made.walk)) c.in-Some.is c.in_ok-placed.ensures)
    c.in_ok-answers.ensures
    (subst (λ (old : List ℕ). IsPartOf new.part old (bbl_of (with_steps run.kept.steps placed.walk.steps))) c.as_slice.ensures
    (subst (λ (os : List NewStep). IsPartOf new.part c.as_slice.result.now (bbl_of (with_steps run.kept.steps os))) c.as_slice-others.ensures c.in_ok-part.ensures))
