use Rattle.std.proofs.Common.{◌∙◌, ap, sym, subst}
use Rattle.bt_actions.specs.declared.entry.Variables.{Variables}
use Rattle.bt_run.specs.declared.course.Course.{Course}
use Rattle.bt_run.specs.Course.{course_world}
use Rattle.bt_run.specs.Meaning.{run_begun}
use Rattle.bt_run.proofs.CommandLemmas.{begun_ordered}
use Rattle.bt_run.proofs.commands.run_style.Goals as goal

pub run_commands-requires-clause-ordered : goal.run_commands-requires-clause-ordered
run_commands-requires-clause-ordered g c = begun_ordered c.in_ok-globals.globals c.args.log c.in_ok-course.course c.in_ok-course.ensures

pub run_commands-requires-clause-ready : goal.run_commands-requires-clause-ready
run_commands-requires-clause-ready g c =
    subst (λ (r : Course). g.R.Recorder.ready c.args.recorder.now c.args.job (course_world r))
    (sym (c.in_ok-course.ensures ∙ ap (λ (v : Variables). (run_begun v c.args.log).course) c.in_ok-globals.ensures)) c.requires
