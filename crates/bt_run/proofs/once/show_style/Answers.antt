use Rattle.std.proofs.Common.{◌∙◌}
use Rattle.bt_run.specs.Shown.{meaning_of}
use Rattle.bt_run.specs.inner.JobView.{job_of}
use Rattle.bt_run.proofs.WrittenLemmas.{style_shown}
use Rattle.bt_run.proofs.once.show_style.Goals as goal

pub returns : goal.returns
returns c =
    let none = c.in_ok-written.written in
    let made = c.run_style.new.recorder in
    c.with_spent.ensures ∙ style_shown (job_of c.args.job) c.args.log c.tell_counts.new.log c.in_ok-course.course none.bbl made.bbl none.calls made.calls c.args.wanted (meaning_of c.in_ok-answers.answers)
    c.in_ok-written.ensures.bbl c.in_ok-written.ensures.calls c.in_ok-course.ensures.run c.in_ok-tell_counts.ensures c.in_ok-answers.ensures
