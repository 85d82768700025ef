-- What the new files mean after an edit that changes one entry, by a walk past all steps.
use Rattle.std.specs.Prelude.{bytes_eq, slice_get, if◌then◌else◌}
use Rattle.std.proofs.Common.{◌≡◌, refl, sym, ap, ◌∙◌, subst, inl, inr, ℕ, ◌-◌, ◌<◌, Bool, true, false, List, ◌++◌, length, All, Option, Some, Ok, arith}
use Rattle.std.proofs.lemmas.Bool.{cases_lt}
use Rattle.std.proofs.lemmas.Option.{slice_get_within}
use Rattle.std.proofs.lemmas.Slice.Eq.{bytes_eq-Decides}
use Rattle.bt_style.specs.declared.style.Action.TheVariants.{Sort}
use Rattle.bt_style.specs.declared.style.Command.{Command}
use Rattle.bt_style.specs.Program.{Program}
use Rattle.bt_style.specs.Reader.{style_of}
use Rattle.bt_log.specs.declared.message.Message.{Message}
use Rattle.bt_machine.specs.OwnEntry.{DependsOnInput}
use Rattle.bt_resolve.specs.declared.entry.Entry.{Entry as FoundEntry}
use Rattle.bt_job.specs.declared.citations.Citations.{Citations}
use Rattle.bt_job.specs.declared.files.File.{File}
use Rattle.bt_job.specs.Citations.{citations}
use Rattle.bt_run.specs.declared.course.Step.{Step}
use Rattle.bt_run.specs.declared.walk.Walk.{Walk}
use Rattle.bt_run.specs.Counts.{calls_at, counts_told}
use Rattle.bt_run.specs.Course.{Recorded}
use Rattle.bt_run.specs.Kept.{named_text, report_after, style_text}
use Rattle.bt_run.specs.Meaning.{Meaning, meaning, trace}
use Rattle.bt_run.specs.ReadCommand.{Job, found_for, with_blank_variables}
use Rattle.bt_run.specs.Steps.{styled_work, work_after}
use Rattle.bt_run.specs.Work.{IsStep, total_cost, work_under}
use Rattle.bt_run.specs.inner.Beside.{AreBeside, Difference, FindsChanged, SortsAt, commands_run, first_of}
use Rattle.bt_run.specs.inner.SortOrder.{HasNoSort}
use Rattle.bt_run.specs.inner.WalkContext.{IsOnlyRead, LastGoes}
use Rattle.bt_run.specs.inner.Cases.{bbl_of, job_for, shown_of, text_in, with_counts}
use Rattle.bt_run.specs.inner.Steps.{run_shown}
use Rattle.bt_run.specs.inner.Change.{IsStyledBy}
use Rattle.bt_run.specs.inner.Walk.{AreOrdered, HasOrder, IsWalkedOut, with_steps}
use Rattle.bt_run.proofs.AnswerLemmas.{kept_text}
use Rattle.bt_run.proofs.BesideFilesLemmas.{meaning_now, steps_before, trace_now}
use Rattle.bt_run.proofs.BesideMeaningLemmas.{run_meaning}
use Rattle.bt_run.proofs.LastStepLemmas.{run_goes_on}
use Rattle.bt_run.proofs.WalkOrderLemmas.{no_such}
use Rattle.bt_run.proofs.WalkedLemmas.{sorts_at}

own_work : (p : Program) (text : List ℕ) (ss us : List Step) (b : Bool) → style_of text ≡ Ok p → b ≡ true → (if b then styled_work (style_of text) ss us else us) ≡ work_under p ss us
own_work p text ss us true read same = ap (λ q. styled_work q ss us) read
own_work p text ss us false read same = absurd cc

-- Both texts of files have the same citations and the same style, and READ finds one entry changed.
module _ (was files : List File) (root : List ℕ) (min : ℕ) (c : Citations) (name : List ℕ) (p : Program) (cited_was : c ≡ citations was root) (cited : c ≡ citations files root) (named : c.style ≡ Some name) (styled : IsStyledBy was files name p)
    (law : DependsOnInput p) (n : ℕ) (key : List ℕ) (d : FoundEntry) (number : ℕ) (only : IsOnlyRead number p.commands) (found : FindsChanged n key d (found_for (job_for was c min name p) number) (found_for (job_for files c min name p) number) p) where
  abbrev job : Job
  job = job_for was c min name p

  abbrev before : Recorded (List Step)
  before = commands_run job c.log

  abbrev text : List ℕ
  text = text_in files name

  abbrev first : Difference
  first = first_of p (with_blank_variables p d)

  -- The steps of the run before are kept, and the walk passed them all.
  module _ (ss : List Step) (traced : ss ≡ trace was root min) (all : All (IsStep p) ss) (w : Walk) (walked : IsWalkedOut p key first ss w) (ordered : AreOrdered p key first ss number (length ss) w) (sorted : HasNoSort p.commands w.last_command (length p.commands)) (goes : LastGoes ss) where
    abbrev us : List Step
    us = with_steps ss w.steps

    kept : ss ≡ before.seen
    kept =
        traced
        ∙ sym (steps_before was files root min c name text p cited_was cited named styled.same refl styled.read law n key d number only found)

    is : AreBeside p key first before.seen us walked.last
    is = subst (λ (xs : List Step). AreBeside p key first xs us walked.last) kept walked.beside

    sorts : (k : ℕ) (e : Command) → number < k → slice_get p.commands k ≡ Some e → e.action ≡ Sort → SortsAt job c.log n key k first us
    sorts k e after at sorts_it =
        let within : k < length p.commands = slice_get_within p.commands k e at in
        elim (cases_lt k w.last_command) [
          | inl less ↦
              sorts_at job law n key files d number only found c.log (run_goes_on job c.log (subst LastGoes kept goes)) (subst (All (IsStep p)) kept all) first us (length ss) k after
              (subst (λ (xs : List Step). HasOrder p key first xs us (length ss) k) kept (ordered.each k e after less at sorts_it)) (omega (arith, within))
          | inr more ↦ absurd (no_such e.action (sorted k e more within at) sorts_it)
        ]

    pub walked_trace : us ≡ trace files root min
    walked_trace =
        trace_now was files root min c name text p cited_was cited named styled.same refl styled.read law n key d number only found walked.last us is sorts

    -- The log is the old one with the new counts.
    pub walked_meaning : (m x : Meaning) → m ≡ meaning was root min → ((log : List Message) (calls : ℕ → ℕ) → m.messages ≡ log ++ counts_told calls → x ≡ shown_of (bbl_of us) (log ++ counts_told (calls_at us)) m.wanted) → x ≡ meaning files root min
    walked_meaning m x meant shows =
        let log = before.course.log in
        let shown : m ≡ run_shown (with_counts before) c.wanted = meant ∙ sym (run_meaning was root min c name text p cited_was named styled.same styled.read) in
        shows log (calls_at before.seen) (ap (λ (y : Meaning). y.messages) shown)
        ∙ ap (λ (y : Meaning). shown_of (bbl_of us) (log ++ counts_told (calls_at us)) y.wanted) shown
        ∙ meaning_now was files root min c name text p cited_was cited named styled.same refl styled.read law n key d number only found walked.last us is sorts

    -- What ran is the work after the old steps.
    pub walked_report : (own : Option (List ℕ)) (status : ℕ) → own ≡ style_text was root → status ≡ (meaning files root min).status → record { status = status; ran = w.reuse.ran; reused = length ss - w.reuse.ran; ticks = w.reuse.meter } ≡ report_after own ss files root min
    walked_report own status owned shown =
        let texts : (fs : List File) → c ≡ citations fs root → Some (text_in fs name) ≡ style_text fs root =
        λ fs cites. kept_text fs root c (Some (text_in fs name)) (sym (ap (named_text fs) named)) cites
        in
        let own_is : own ≡ Some text = owned ∙ sym (texts was cited_was) ∙ ap (λ (t : List ℕ). Some t) (sym styled.same) in
        let work : work_after own ss (style_text files root) (trace files root min) ≡ work_under p ss us =
        (λ j. work_after (own_is j) ss (sym (texts files cited) j) (sym walked_trace j))
        ∙ own_work p text ss us (bytes_eq text text) styled.read ((bytes_eq-Decides text text).1 refl)
        in
        let ran : w.reuse.ran ≡ length (work_after own ss (style_text files root) (trace files root min)) = walked.ran ∙ ap length (sym work) in
        let ticks : w.reuse.meter ≡ total_cost (work_after own ss (style_text files root) (trace files root min)) = walked.ticks ∙ ap total_cost (sym work) in
        let count : length ss ≡ length (trace files root min) = sym walked.count ∙ ap length walked_trace in
        λ j. record { status = shown j; ran = ran j; reused = count j - ran j; ticks = ticks j }
