use Rattle.std.proofs.Common.{◌≡◌, refl, rules, subst, sym}
use Rattle.bt_front.specs.declared.job_run.JobRun.{JobRun}
use Rattle.bt_front.specs.JobRun.{IsRunOfJob}
use Rattle.bt_front.proofs.JobRunLemmas.{run_kept, run_same}
use Rattle.bt_session.proofs.session.AuthorSession.go_to.Goals as goal

pub invariant_of-self : goal.invariant_of-self
invariant_of-self c =
    let was = c.self.inside in
    run_kept was.texts was.root was.min was.job _ c.self.invariant refl refl c.after.ensures.same_steps c.after.ensures.same_text
    (c.after.ensures.others was.texts was.root)

pub invariant_of-self-2 : goal.invariant_of-self-2
invariant_of-self-2 c =
    let is : c.replace.new.dest ≡ c.in_ok-job.job = search rules in
    subst (λ (j : JobRun). IsRunOfJob c.args.texts c.self.inside.root c.self.inside.min j) (sym is)
    (run_same _ _ _ _ _ _ c.as_slice.ensures c.as_slice-2.ensures c.in_ok-job.ensures.run)
