use Rattle.std.proofs.Common.{sym, subst}
use Rattle.bt_run.specs.declared.course.Course.{Course}
use Rattle.bt_run.specs.Course.{course_world}
use Rattle.bt_run.specs.inner.JobView.{job_of}
use Rattle.bt_run.proofs.CommandLemmas.{read_ordered, sorted_ordered}
use Rattle.bt_run.proofs.commands.carry_out.Goals as goal

pub returns-in_ok-read-in-Read-clause-ordered : goal.returns-in_ok-read-in-Read-clause-ordered
returns-in_ok-read-in-Read-clause-ordered g c = read_ordered (job_of c.args.job) c.args.number c.args.course.now c.read.new.course c.in_ok-read-in-Read.ensures.run

pub returns-in_ok-sort-in-Sort-clause-ordered : goal.returns-in_ok-sort-in-Sort-clause-ordered
returns-in_ok-sort-in-Sort-clause-ordered g c = sorted_ordered c.args.course.now c.sort.new.course c.in_ok-sort-in-Sort.ensures

pub returns-in_ok-sort-in-Sort-clause-ready : goal.returns-in_ok-sort-in-Sort-clause-ready
returns-in_ok-sort-in-Sort-clause-ready g c =
    subst (λ (r : Course). g.R.Recorder.ready c.args.recorder.now c.args.job (course_world r)) (sym c.in_ok-sort-in-Sort.ensures) c.requires.ready
