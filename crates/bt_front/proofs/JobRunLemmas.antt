-- The run of a job whose files change.
use Rattle.std.proofs.Common.{◌≡◌, ◌∙◌, ℕ, true≢false, IsTrue, List, [], fold, length, map, Option, Some, None, option_map, ap, subst, sym, refl}
use Rattle.std.specs.Prelude.{◌==◌, IfSome, is_some, unwrap_or}
use Rattle.bt_job.specs.declared.files.File.{File}
use Rattle.bt_run.specs.declared.answers.Report.{Report}
use Rattle.bt_run.specs.declared.answers.Run.{Run}
use Rattle.bt_run.specs.declared.kept.Kept.{Kept}
use Rattle.bt_run.specs.declared.kept_resolution.KeptResolution.{KeptResolution}
use Rattle.bt_run.specs.Kept.{style_text}
use Rattle.bt_run.specs.Meaning.{meaning, trace}
use Rattle.bt_run.specs.Shown.{meaning_of}
use Rattle.bt_run.specs.inner.Unseen.{AreFilesOf, AreTextsOf, IsRunOf}
use Rattle.bt_files.specs.Names.{with_author}
use Rattle.bt_front.specs.declared.job.UnderNames.{UnderNames}
use Rattle.bt_front.specs.declared.job_run.JobRun.{JobRun}
use Rattle.bt_front.specs.Job.{file_under, root_under, names_of, table_of, told_under}
use Rattle.bt_front.specs.JobRun.{IsRunOfJob, IsRunUnder}
use Rattle.bt_front.proofs.JobLemmas.{job_stepped, job_told}
use Rattle.bt_front.proofs.PlainLemmas.{files_kept, root_kept, none_left, plain_meaning, plain_steps}

-- A run from the start

pub run_under : (job : UnderNames) (files : List File) (root : List ℕ) (min : ℕ) (run : Run) → files ≡ job.files → root ≡ job.root
    → meaning_of run.answers ≡ told_under job.names (meaning files root min) → run.kept.steps ≡ trace files root min
    → run.kept.text ≡ style_text files root → AreTextsOf files root run.kept → IsRunUnder job min run
run_under job files root min run are is shown steps text texts = record {
  shown = shown ∙ (λ k. told_under job.names (meaning (are k) (is k) min));
  steps = steps ∙ (λ k. trace (are k) (is k) min);
  text = text ∙ (λ k. style_text (are k) (is k));
  texts = subst (λ (r : List ℕ). AreTextsOf job.files r run.kept) is (subst (λ (fs : List File). AreTextsOf fs root run.kept) are texts);
}

pub run_of_job : (job : UnderNames) (files : List File) (root : List ℕ) (min : ℕ) (run : JobRun)
    → job.names ≡ table_of files root → job.files ≡ map (file_under job.names) files → job.root ≡ root_under root
    → IsRunUnder job min run.run → run.is_plain ≡ (length job.names == 0) → IsRunOfJob files root min run
run_of_job job files root min run named are is u plain = record {
  shown = job_told job.names files job.files root job.root min (meaning job.files job.root min) (meaning_of run.run.answers) named are is refl u.shown;
  steps = job_stepped job.names files job.files root job.root min run.run.kept.steps named are is u.steps;
  plain = λ is_plain.
      let no_names : job.names ≡ [] = none_left job.names (subst IsTrue plain is_plain) in
      let none : table_of files root ≡ [] = sym named ∙ no_names in
      let same : job.files ≡ files = are ∙ ap (λ (t : List (List ℕ)). map (file_under t) files) no_names ∙ files_kept files in
      let same_root : job.root ≡ root = is ∙ root_kept files root none in
      record {
        none = none;
        text = u.text ∙ (λ k. style_text (same k) (same_root k));
        texts = subst (λ (r : List ℕ). AreTextsOf files r run.run.kept) same_root (subst (λ (fs : List File). AreTextsOf fs job.root run.run.kept) same u.texts);
      };
}

pub run_same : (files same : List File) (root own : List ℕ) (min : ℕ) (run : JobRun) → files ≡ same → root ≡ own
    → IsRunOfJob files root min run → IsRunOfJob same own min run
run_same files same root own min run are is j =
    subst (λ (r : List ℕ). IsRunOfJob same r min run) is (subst (λ (fs : List File). IsRunOfJob fs root min run) are j)

-- A run after a change

pub plain_run : (files : List File) (root : List ℕ) (min : ℕ) (run : JobRun) → IsTrue run.is_plain → IsRunOfJob files root min run → IsRunOf files root min run.run
plain_run files root min run is j =
    let plain = j.plain is in
    record { shown = j.shown ∙ plain_meaning files root min plain.none; text = plain.text; steps = j.steps ∙ plain_steps files root min plain.none }

same_table : (was files : List File) (root : List ℕ) → names_of files root ≡ names_of was root → table_of files root ≡ table_of was root
unfolding table_of
same_table was files root same = ap (fold with_author []) same

run_followed : (was files : List File) (root : List ℕ) (min : ℕ) (run : JobRun) → names_of files root ≡ names_of was root → table_of was root ≡ []
    → IsRunOf files root min run.run → AreTextsOf files root run.run.kept → IsRunOfJob files root min run
run_followed was files root min run same none r texts =
    let still : table_of files root ≡ [] = same_table was files root same ∙ none in
    record {
      shown = r.shown ∙ sym (plain_meaning files root min still);
      steps = r.steps ∙ sym (plain_steps files root min still);
      plain = λ is_plain. record { none = still; text = r.text; texts = texts };
    }

pub run_reported : (was files : List File) (root : List ℕ) (min : ℕ) (run : JobRun) (found : Option Report) → names_of files root ≡ names_of was root → table_of was root ≡ []
    → IfSome found (λ report. IsRunOf files root min run.run) → IfSome found (λ report. AreTextsOf files root run.run.kept) → IsTrue (is_some found)
    → IsRunOfJob files root min run
run_reported was files root min run None same none r texts some = absurd (true≢false (sym some))
run_reported was files root min run (Some report) same none r texts some = run_followed was files root min run same none r texts

-- What else a run keeps may be different.
pub run_kept : (files : List File) (root : List ℕ) (min : ℕ) (was run : JobRun) → IsRunOfJob files root min was
    → run.run.answers ≡ was.run.answers → run.is_plain ≡ was.is_plain → run.run.kept.steps ≡ was.run.kept.steps → run.run.kept.text ≡ was.run.kept.text
    → (AreTextsOf files root was.run.kept → AreTextsOf files root run.run.kept) → IsRunOfJob files root min run
run_kept files root min was run j answers plain steps text texts = record {
  shown = ap meaning_of answers ∙ j.shown;
  steps = steps ∙ j.steps;
  plain = λ is_plain.
      let before = j.plain (subst IsTrue plain is_plain) in
      record { none = before.none; text = text ∙ before.text; texts = texts before.texts };
}

-- what a splice leaves
pub texts_stay : (files : List File) (root : List ℕ) (was now : Kept) → now.is_present ≡ was.is_present
    → option_map (λ (k : KeptResolution). k.texts) now.resolution ≡ option_map (λ (k : KeptResolution). k.texts) was.resolution
    → AreTextsOf files root was → AreTextsOf files root now
texts_stay files root was now present same texts = λ ready k is.
    go k was.resolution refl (sym (ap (option_map (λ (l : KeptResolution). l.texts)) is) ∙ same) (subst IsTrue present ready)
  where
    go : (k : KeptResolution) (o : Option KeptResolution) → was.resolution ≡ o → Some k.texts ≡ option_map (λ (l : KeptResolution). l.texts) o → IsTrue was.is_present
        → AreFilesOf files root k
    go k None without some ready = absurd cc
    go k (Some l) with_one same_texts ready = ap (λ (t : Option (List (List ℕ))). unwrap_or t k.texts) same_texts ∙ texts ready l with_one
