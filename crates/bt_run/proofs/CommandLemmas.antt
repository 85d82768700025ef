-- READ and SORT keep what a run keeps to.
use Rattle.std.proofs.Common.{◌≡◌, ap, subst, sym, ℕ, Bool, true, false, List, Option, length, map}
use Rattle.bt_style.specs.Program.{Program}
use Rattle.bt_actions.specs.declared.entry.Variables.{Variables}
use Rattle.bt_log.specs.declared.message.Message.{Message}
use Rattle.bt_run.specs.declared.course.Course.{Course}
use Rattle.bt_run.specs.declared.kept.Kept.{Kept}
use Rattle.bt_run.specs.declared.kept_steps.KeptSteps.{KeptSteps}
use Rattle.bt_run.specs.declared.mark.Mark.{Mark}
use Rattle.bt_run.specs.inner.Course.{IsOrdered}
use Rattle.bt_run.specs.inner.Earlier.{AreSame}
use Rattle.bt_run.specs.inner.Marks.{bare_mark}
use Rattle.bt_run.specs.inner.Work.{IsConsistent}
use Rattle.bt_run.specs.Course.{course_world}
use Rattle.bt_run.specs.Meaning.{run_begun}
use Rattle.bt_run.specs.SortCommand.{key_at}
use Rattle.bt_run.specs.ReadCommand.{Job, read}
use Rattle.bt_run.specs.inner.Cases.{sorted_run}
use Rattle.bt_run.specs.declared.kept_resolution.KeptResolution.{KeptResolution}
use Rattle.bt_run.specs.inner.Asked.{question_for}
use Rattle.bt_run.specs.inner.Found.{IsKept}
use Rattle.bt_run.proofs.AlikeLemmas.{found_read}
use Rattle.bt_run.proofs.EarlierLemmas.{nothing_found}
use Rattle.bt_run.proofs.MarkLemmas.{bare_marked}
use Rattle.bt_run.proofs.OrderLemmas.{arranged_range}
use Rattle.bt_run.proofs.SortingLemmas.{arranged_sorted}
use Rattle.bt_run.proofs.TurnLemmas.{left_alike, given_alike}

pub read_consistent : (p : Program) (earlier : Kept) (job : Job) (number : ℕ) (r back : Course) (s : KeptSteps) (resolution : Option KeptResolution) (marks : List Mark) (same : List Bool) → back ≡ read job number r → marks ≡ map bare_mark s.steps → AreSame earlier.entries back.entries same → IsKept resolution (question_for job number) → IsConsistent p earlier (course_world r) s → IsConsistent p earlier (course_world back) (record s { resolution = resolution; is_own = true; is_earlier = false; marks = marks; same = same })
read_consistent p earlier job number r back s resolution marks same is are_bare are_same about h =
    let globals = ap (λ (c : Course). c.globals) is in
    let held = ap (λ (c : Course). c.held) is in
    rw are_bare (record {
      work = h.work;
      marked = bare_marked back.entries s.steps;
      same = are_same;
      in_turn = h.in_turn;
      left = left_alike s.steps (course_world r) (course_world back) globals held h.left;
      given = λ go. given_alike earlier.steps s.reuse.next (course_world r) (course_world back) globals held (h.given go);
      called = h.called;
      found = found_read resolution job number r back about is;
      found_before = nothing_found resolution earlier.entries;
    })

pub read_ordered : (job : Job) (number : ℕ) (r next : Course) → next ≡ read job number r → IsOrdered next
read_ordered job number r next is = subst IsOrdered (sym is) (arranged_range (length (read job number r).entries))

pub sorted_ordered : (r next : Course) → next ≡ sorted_run r → IsOrdered next
sorted_ordered r next is = subst IsOrdered (sym is) (arranged_sorted (key_at r.entries) (length r.entries))

pub begun_ordered : (globals : Variables) (log : List Message) (course : Course) → course ≡ (run_begun globals log).course → IsOrdered course
begun_ordered globals log course is = subst IsOrdered (sym is) (arranged_range 0)
