-- What is kept goes over to the new run.
use Rattle.std.specs.Prelude.{IsTrue, slice_set}
use Rattle.std.specs.Option.{ForSome, is_some}
use Rattle.std.proofs.Common.{◌≡◌, refl, sym, ap, ◌∙◌, subst, ℕ, ◌<◌, Bool, false, List, length, map, All, Option, Some, None, Ok}
use Rattle.std.proofs.lemmas.List.{length-set}
use Rattle.bt_style.specs.Program.{Program}
use Rattle.bt_actions.specs.declared.entry.Entry.{Entry}
use Rattle.bt_resolve.specs.declared.entry.Entry.{Entry as FoundEntry}
use Rattle.bt_resolve.specs.declared.question.Question.{Question}
use Rattle.bt_resolve.specs.inner.Kept.{resolved_for, with_database}
use Rattle.bt_run.specs.declared.course.Step.{Step}
use Rattle.bt_run.specs.declared.kept.Kept.{Kept}
use Rattle.bt_run.specs.declared.kept_resolution.KeptResolution.{KeptResolution}
use Rattle.bt_run.specs.declared.walk.Walk.{Walk}
use Rattle.bt_run.specs.ReadCommand.{with_blank_variables}
use Rattle.bt_run.specs.Steps.{StepsAre}
use Rattle.bt_run.specs.Work.{IsStep}
use Rattle.bt_run.specs.inner.Calls.{AreCalls}
use Rattle.bt_run.specs.inner.Cases.{bytes_written}
use Rattle.bt_run.specs.inner.Course.{IsArranged}
use Rattle.bt_run.specs.inner.Earlier.{fixed}
use Rattle.bt_run.specs.inner.Found.{AreFoundBy}
use Rattle.bt_run.specs.inner.Marks.{AreMarked}
use Rattle.bt_run.specs.inner.Put.{GoesOver, IsEdited, IsPutBeside, with_lengths}
use Rattle.bt_run.specs.inner.ChangedEntry.{IsChangedEntry}
use Rattle.bt_run.specs.inner.Turn.{AreInTurn}
use Rattle.bt_run.specs.inner.Walk.{with_steps}
use Rattle.bt_run.proofs.FindingLemmas.{put_texts}
use Rattle.bt_run.proofs.FoundBesideLemmas.{found_beside}
use Rattle.bt_run.proofs.KeptBesideLemmas.{in_turn_beside, last_fixed, marked_beside, some_same, steps_true}
use Rattle.bt_run.proofs.PutLemmas.{lengths_put}

-- READ finds the entry in its place once the edit is put.
entries_put : (was is : KeptResolution) (place : ℕ) (d : FoundEntry) → IsChangedEntry was place d → IsEdited was is → (resolved_for is.resolution).entries ≡ slice_set (resolved_for was.resolution).entries place d
entries_put was is place d other edited =
    let e = other.edit in
    let now = with_database e.number e.items was.resolution in
    let put = edited.resolution e other.is_edit other.made other.is_made in
    let edit = was.edited e other.is_edit other.made other.is_made in
    ap (λ (q : Question). (resolved_for q).entries) (put ∙ sym (put_texts was.resolution now was.texts e.number e.text e.items was.read e.read refl))
    ∙ edit.entries
    ∙ other.entries

is_some_of : {X : Type 0} (o : Option X) → IsTrue (is_some o) → (x : X) × (o ≡ Some x)
is_some_of None h = (let wrong : IsTrue false = h in absurd cc)
is_some_of (Some x) h = (x, refl)

pub goes_none : (was is : Option KeptResolution) → was ≡ None → is ≡ None → GoesOver was is
goes_none was is none nothing = record {
  some = ap is_some nothing ∙ sym (ap is_some none);
  each = λ k r at now. (let wrong : None ≡ Some k = sym none ∙ at in absurd cc);
}

pub goes_some : (was : Option KeptResolution) (k r : KeptResolution) → was ≡ Some k → IsEdited k r → GoesOver was (Some r)
goes_some was k r is edited = record {
  some = sym (ap is_some is);
  each = λ a b at now.
      subst (IsEdited a) (some_same r b now) (subst (λ (x : KeptResolution). IsEdited x r) (some_same k a (sym is ∙ at)) edited);
}

found_over : (is_own : Bool) (was is : Option KeptResolution) (entries : List Entry) (place : ℕ) (d : FoundEntry) (p : Program) (last : Entry) → AreFoundBy is_own was entries → GoesOver was is → ForSome was (λ k. IsChangedEntry k place d) → place < length entries → fixed last ≡ fixed (with_blank_variables p d) → AreFoundBy is_own is (slice_set entries place last)
found_over is_own was is entries place d p last found goes other lt same = record {
  some = λ own. subst IsTrue (sym goes.some) (found.some own);
  found = λ own r now.
      let k = is_some_of was (found.some own) in
      let here = other k.0 k.1 in
      found_beside place d (resolved_for k.0.resolution) (resolved_for r.resolution) p entries last (entries_put k.0 r place d here (goes.each k.0 r k.1 now)) (found.found own k.0 k.1) here.within lt same;
}

module _ (kept : Kept) (place : ℕ) (w : Walk) (h : IsPutBeside kept place w) where
  abbrev us : List Step
  us = with_steps kept.steps w.steps

  pub true_put : (ss : List Step) → ss ≡ us → StepsAre kept.text ss
  true_put ss is = λ t q named read.
      let one : Ok h.p ≡ Ok q = sym (h.text t named) ∙ read in
      let program : h.p ≡ q = cc in
      subst (λ (p : Program). All (IsStep p) ss) program
      (subst (λ (xs : List Step). All (IsStep h.p) xs) (sym is) (steps_true h.p h.d.key kept.steps us h.first h.walked.last h.walked.beside))

  pub marked_put : (ss : List Step) (es : List Entry) → ss ≡ us → es ≡ slice_set kept.entries place w.entry → AreMarked es ss kept.marks
  marked_put ss es is entries =
      let set : slice_set kept.entries place h.walked.last.entry ≡ es = ap (slice_set kept.entries place) h.walked.entry ∙ sym entries in
      let key : h.first.entry.key ≡ h.d.key = ap (λ (e : Entry). e.key) h.begins in
      subst (λ (xs : List Step). AreMarked es xs kept.marks) (sym is)
      (subst (λ (ds : List Entry). AreMarked ds us kept.marks) set
      (marked_beside h.p h.d.key kept.steps us h.first h.walked.last h.walked.beside kept.entries kept.marks place h.within h.keyed h.some_key key h.steps kept.marked))

  pub arranged_put : (es : List Entry) → es ≡ slice_set kept.entries place w.entry → IsArranged (length es) kept.order
  arranged_put es entries = subst (λ (n : ℕ). IsArranged n kept.order) (sym (ap length entries ∙ length-set kept.entries place w.entry)) kept.arranged

  pub called_put : (ss : List Step) → ss ≡ us → ForSome (Some w.calls) (AreCalls ss)
  called_put ss is = λ calls e.
      let same : w.calls ≡ calls = cc in
      subst (λ (xs : List Step). AreCalls xs calls) (sym is) (subst (λ (c : List ℕ). AreCalls us c) same h.walked.calls)

  pub in_turn_put : (ss : List Step) → ss ≡ us → AreInTurn ss
  in_turn_put ss is = subst AreInTurn (sym is) (in_turn_beside h.p h.d.key kept.steps us h.first h.walked.last h.walked.beside)

  pub found_put : (es : List Entry) (r : Option KeptResolution) → es ≡ slice_set kept.entries place w.entry → GoesOver kept.resolution r → AreFoundBy kept.is_own r es
  found_put es r entries goes =
      let same = ap fixed (sym h.walked.entry) ∙ last_fixed h.p h.d.key kept.steps us h.first h.walked.last h.walked.beside ∙ ap fixed h.begins in
      subst (AreFoundBy kept.is_own r) (sym entries) (found_over kept.is_own kept.resolution r kept.entries place h.d h.p w.entry kept.found goes h.other h.within same)

  pub measured_put : (ss : List Step) (ns : List ℕ) → ss ≡ us → ns ≡ with_lengths kept.lengths w.steps → ns ≡ map bytes_written ss
  measured_put ss ns is lengths =
      lengths
      ∙ ap (λ (ms : List ℕ). with_lengths ms w.steps) kept.measured
      ∙ lengths_put kept.steps 0 (length kept.steps) w.steps h.walked.numbered
      ∙ ap (map bytes_written) (sym is)
