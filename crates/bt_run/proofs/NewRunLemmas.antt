-- The run beside that of the files before an edit is that of the files after it.
use Rattle.std.specs.Prelude.{IfSome, IsTrue}
use Rattle.std.specs.Option.{ForSome}
use Rattle.std.proofs.Common.{◌≡◌, refl, sym, ap, ◌∙◌, subst, ℕ, List, length, map, All, Option, None, Some, Ok}
use Rattle.bt_text.specs.NameList.{are_apart}
use Rattle.bt_style.specs.declared.style.Style.{Style}
use Rattle.bt_style.specs.Program.{Program, program_of}
use Rattle.bt_style.specs.Reader.{style_of}
use Rattle.bt_machine.specs.OwnEntry.{DependsOnInput}
use Rattle.bt_job.specs.declared.citations.Citations.{Citations}
use Rattle.bt_job.specs.declared.files.File.{File}
use Rattle.bt_job.specs.Citations.{citations}
use Rattle.bt_resolve.specs.inner.Kept.{resolved_for}
use Rattle.bt_run.specs.declared.answers.Report.{Report}
use Rattle.bt_run.specs.declared.answers.Run.{Run}
use Rattle.bt_run.specs.declared.change.Change.{Change}
use Rattle.bt_run.specs.declared.kept.Kept.{Kept}
use Rattle.bt_run.specs.declared.kept_resolution.KeptResolution.{KeptResolution}
use Rattle.bt_run.specs.declared.follow.NewRun.{NewRun}
use Rattle.bt_run.specs.declared.course.Step.{Step}
use Rattle.bt_run.specs.Kept.{named_text, report_after, style_text}
use Rattle.bt_run.specs.Meaning.{Meaning, meaning, trace}
use Rattle.bt_run.specs.Shown.{meaning_of}
use Rattle.bt_run.specs.ReadCommand.{found_for, with_blank_variables}
use Rattle.bt_run.specs.Work.{IsStep}
use Rattle.bt_run.specs.inner.Beside.{FindsChanged, first_of}
use Rattle.bt_run.specs.inner.Cases.{bbl_of, job_for, text_in}
use Rattle.bt_run.specs.inner.Change.{IsAskedOf, IsAskedOfKept, IsAskedOfRun}
use Rattle.bt_run.specs.inner.ChangedEntry.{IsChangedEntry}
use Rattle.bt_run.specs.inner.Put.{AreShown, GoesOver, IsPartOf, IsPutBeside, with_bbl_of}
use Rattle.bt_run.specs.inner.Follow.{IsNewRun, IsReportOf}
use Rattle.bt_run.specs.inner.Unseen.{AreOtherwise, AreTextsOf, IsRunOf}
use Rattle.bt_run.specs.inner.Walk.{IsWalkFrom, IsWalkedOut, with_steps}
use Rattle.bt_run.proofs.DistinctNameLemmas.{run_names_distinct}
use Rattle.bt_run.proofs.AnswerLemmas.{kept_text}
use Rattle.bt_run.proofs.BesideMeaningLemmas.{run_meaning, run_trace}
use Rattle.bt_run.proofs.ChangedEntryLemmas.{cited_apart, finds_other}
use Rattle.bt_run.proofs.UnseenLemmas.{gone_over}
use Rattle.bt_run.proofs.WalkLemmas.{walked_out}
use Rattle.bt_run.proofs.WalkedRunLemmas.{walked_meaning, walked_report, walked_trace}

-- ---- a run that stays

pub run_still : (files : List File) (root : List ℕ) (min : ℕ) (was now : Run) → IsRunOf files root min was → now.answers ≡ was.answers → now.kept.text ≡ was.kept.text → now.kept.steps ≡ was.kept.steps → IsRunOf files root min now
run_still files root min was now is answers text steps =
    record { shown = ap meaning_of answers ∙ is.shown; text = text ∙ is.text; steps = steps ∙ is.steps }

pub asked_of_run : (h : Change) (was now : Run) (found : Option Style) → IsRunOf h.was.now h.root.now h.min was → now.answers ≡ was.answers → now.kept.text ≡ was.kept.text → now.kept.steps ≡ was.kept.steps → IfSome found (λ s. IsAskedOfKept h now.kept (program_of s)) → IfSome found (λ s. IsAskedOfRun h now (program_of s))
asked_of_run h was now None is answers text steps asked = asked
asked_of_run h was now (Some s) is answers text steps asked =
    record { is = run_still h.was.now h.root.now h.min was now is answers text steps; asked = asked }

-- ---- the new run

some_found : (j k : KeptResolution) → Some j ≡ Some k → j ≡ k
some_found j k h = ap (λ (o : Option KeptResolution). elim o [ None ↦ j | Some x ↦ x ]) h

some_text : (s t : List ℕ) → Some s ≡ Some t → s ≡ t
some_text s t h = ap (λ (o : Option (List ℕ)). elim o [ None ↦ s | Some x ↦ x ]) h

-- The text of a style that could be read.
styled_so : (p : Program) (text : List ℕ) → style_of text ≡ Ok p → (o : Option (List ℕ)) → o ≡ Some text → ForSome o (λ t. style_of t ≡ Ok p)
styled_so p text read o is = λ t at. subst (λ (s : List ℕ). style_of s ≡ Ok p) (some_text text t (sym is ∙ at)) read

-- READ asks of the new files what it found for the run that is kept.
module _ (h : Change) (run : Run) (p : Program) (known : IsAskedOfRun h run p) where
  abbrev was : List File
  was = h.was.now

  abbrev files : List File
  files = h.files.now

  abbrev root : List ℕ
  root = h.root.now

  abbrev is : IsRunOf was root h.min run
  is = known.is

  abbrev asked : IsAskedOfKept h run.kept p
  asked = known.asked

  abbrev c : Citations
  c = citations was root

  abbrev text : List ℕ
  text = text_in files asked.asked.style

  text_is : run.kept.text ≡ Some text
  text_is =
      is.text
      ∙ sym (kept_text was root c (Some text) (sym (ap (λ (o : Option (List ℕ)). named_text was o) asked.asked.named ∙ ap (λ (t : List ℕ). Some t) (sym asked.asked.styled.same))) refl)

  pub steps_of_style : All (IsStep p) run.kept.steps
  steps_of_style = run.kept.true_steps text p text_is asked.asked.styled.read

  pub cites_apart : ForSome run.kept.resolution (λ k. IsTrue (are_apart k.resolution.cites.keys))
  cites_apart = λ k at.
      cited_apart h k p (subst (λ (j : KeptResolution). IsAskedOf h j p) (some_found asked.k k (sym asked.is ∙ at)) asked.asked)

  style_text_now : style_text files root ≡ run.kept.text
  style_text_now =
      sym (kept_text files root c (Some text) (sym (ap (λ (o : Option (List ℕ)). named_text files o) asked.asked.named)) (sym asked.asked.same))
      ∙ sym text_is

  pub bbl_written : run.answers.bbl ≡ bbl_of run.kept.steps
  bbl_written =
      ap (λ (m : Meaning). m.bbl) (is.shown ∙ sym (run_meaning was root h.min c asked.asked.style text p refl asked.asked.named asked.asked.styled.same asked.asked.styled.read))
      ∙ ap bbl_of (run_trace was root h.min c asked.asked.style text p refl asked.asked.named asked.asked.styled.same asked.asked.styled.read ∙ sym is.steps)

  module _ (rest : AreOtherwise h.name.now was files) (law : DependsOnInput p) (new : NewRun) (walk : IsWalkFrom p run.kept new.place new.walk) (shows : AreShown run new.walk new.answers) (part : IsPartOf new.part run.answers.bbl (bbl_of (with_steps run.kept.steps new.walk.steps))) where
    abbrev us : List Step
    us = with_steps run.kept.steps new.walk.steps

    same : asked.k ≡ walk.k
    same = some_found asked.k walk.k (sym asked.is ∙ walk.is)

    other : IsChangedEntry asked.k new.place walk.d
    other = subst (λ (k : KeptResolution). IsChangedEntry k new.place walk.d) (sym same) walk.other

    found : FindsChanged new.place walk.d.key walk.d (found_for (job_for was c h.min asked.asked.style p) walk.read) (found_for (job_for files c h.min asked.asked.style p) walk.read) p
    found =
        finds_other h asked.k p run.kept.entries new.place walk.read walk.d asked.asked asked.texts rest other walk.only
        (run.kept.found.found asked.own asked.k asked.is)
        (subst (λ (k : KeptResolution). length (resolved_for k.resolution).entries ≡ length run.kept.entries) (sym same) walk.counted) walk.keyed

    walked : IsWalkedOut p walk.d.key (first_of p (with_blank_variables p walk.d)) run.kept.steps new.walk
    walked = walked_out p walk.d.key (first_of p (with_blank_variables p walk.d)) run.kept.steps new.walk walk.through.walked

    trace_now : us ≡ trace files root h.min
    trace_now =
        walked_trace was files root h.min c asked.asked.style p refl (sym asked.asked.same) asked.asked.named asked.asked.styled law new.place walk.d.key walk.d walk.read walk.only found
        run.kept.steps is.steps steps_of_style new.walk walked walk.through.ordered walk.through.sorted walk.through.goes

    meaning_now : meaning_of (with_bbl_of us new.answers) ≡ meaning files root h.min
    meaning_now =
        walked_meaning was files root h.min c asked.asked.style p refl (sym asked.asked.same) asked.asked.named asked.asked.styled law new.place walk.d.key walk.d walk.read walk.only found
        run.kept.steps is.steps steps_of_style new.walk walked walk.through.ordered walk.through.sorted walk.through.goes
        (meaning_of run.answers) (meaning_of (with_bbl_of us new.answers)) is.shown shows

    put_so : IsPutBeside run.kept new.place new.walk
    put_so = record {
      p = p;
      d = walk.d;
      first = first_of p (with_blank_variables p walk.d);
      text = styled_so p text asked.asked.styled.read run.kept.text text_is;
      steps = steps_of_style;
      within = walk.within;
      keyed = walk.keyed;
      some_key = walk.some_key;
      begins = refl;
      other = λ k at. subst (λ (j : KeptResolution). IsChangedEntry j new.place walk.d) (some_found walk.k k (sym walk.is ∙ at)) walk.other;
      walked = walked;
      named = run_names_distinct files root h.min us trace_now;
    }

    report_so : (r : Report) → IsReportOf new (length run.kept.steps) r → r ≡ report_after run.kept.text run.kept.steps files root h.min
    report_so r is_report =
        is_report
        ∙ walked_report was files root h.min c asked.asked.style p refl (sym asked.asked.same) asked.asked.named asked.asked.styled law new.place walk.d.key walk.d walk.read walk.only found
        run.kept.steps is.steps steps_of_style new.walk walked walk.through.ordered walk.through.sorted walk.through.goes
        run.kept.text new.answers.status is.text (ap (λ (m : Meaning). m.status) meaning_now)

    -- What READ found goes over to the files after the edit.
    texts_over : (now : Kept) → GoesOver run.kept.resolution now.resolution → AreTextsOf files root now
    texts_over now goes = λ present k at.
        let e = other.edit in
        let edited = asked.asked.edited e other.is_edit in
        gone_over h.name.now was files c.databases asked.k.texts k.texts e rest asked.texts ((goes.each asked.k k asked.is at).texts e other.is_edit other.made other.is_made) edited.0 edited.1
        ∙ ap (λ (d : Citations). map (text_in files) d.databases) (sym asked.asked.same)

    pub is_new_run : IsNewRun h run new
    is_new_run = record { put = put_so; part = part; shown = meaning_now; text = sym style_text_now; steps = trace_now; texts = texts_over; report = report_so }
