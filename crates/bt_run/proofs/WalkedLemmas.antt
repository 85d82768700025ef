-- What the walk found of each SORT, as the law of a run beside another needs it.
use Rattle.std.specs.Prelude.{slice_get, slice_index_or, bytes_eq}
use Rattle.std.proofs.Common.{◌≡◌, refl, sym, ap, ◌∙◌, subst, inl, inr, ℕ, zero, suc, ◌+◌, ◌-◌, ◌<◌, ◌≤◌, Bool, true, false, List, [], ◌∷◌, length, take, drop, All, Some, arith}
use Rattle.std.proofs.lemmas.Bool.{cases_lt}
use Rattle.std.proofs.lemmas.List.{get_or-drop, get_or-take, length-drop, length-take-le, take-take}
use Rattle.std.proofs.lemmas.List.Elements.{All-head, All-tail}
use Rattle.std.proofs.lemmas.Option.{get_or_from_slice_get, slice_get-get_or, slice_get_within}
use Rattle.std.proofs.lemmas.Slice.Eq.{bytes_eq-Decides}
use Rattle.bt_style.specs.Program.{Program}
use Rattle.bt_actions.specs.declared.entry.Entry.{Entry}
use Rattle.bt_machine.specs.OwnEntry.{DependsOnInput}
use Rattle.bt_job.specs.declared.files.File.{File}
use Rattle.bt_log.specs.declared.message.Message.{Message}
use Rattle.bt_resolve.specs.declared.entry.Entry.{Entry as FoundEntry}
use Rattle.bt_run.specs.declared.course.Step.{Step}
use Rattle.bt_run.specs.ReadCommand.{Job, found_for}
use Rattle.bt_run.specs.Work.{IsStep}
use Rattle.bt_run.specs.inner.Beside.{AreBefore, AreBeside, Difference, FindsChanged, SortsAlike, SortsAt, commands_run, is_for, left, run_before}
use Rattle.bt_run.specs.inner.SortOrder.{FitsBetween}
use Rattle.bt_run.specs.inner.WalkContext.{IsOnlyRead}
use Rattle.bt_run.specs.inner.Cases.{sort_key}
use Rattle.bt_run.specs.inner.Walk.{HasOrder}
use Rattle.bt_run.proofs.BesideStepsLemmas.{step_at}
use Rattle.bt_run.proofs.KeptBesideLemmas.{some_same}
use Rattle.bt_run.proofs.OnlyReadLemmas.{are_before, keeps_order, keeps_place}

not_true : (b : Bool) → (b ≡ true → ⊥) → b ≡ false
not_true true h = absurd (h refl)
not_true false h = refl

-- what holds of the steps from one number on and before another
all_between : (P : Step → Type 0) (ss : List Step) (j i : ℕ) → j ≤ i → i ≤ length ss → ((x : ℕ) (t : Step) → j ≤ x → x < i → slice_get ss x ≡ Some t → P t) → All P (drop j (take i ss))
all_between P ss j i le within h = λ k d lt.
    let taken = length-take-le i ss within in
    let count = length-drop j (take i ss) in
    let below : j + k < i = omega (arith, lt, taken, count) in
    let t = slice_index_or ss (j + k) d in
    let same : slice_index_or (drop j (take i ss)) k d ≡ t = get_or-drop j (take i ss) k d ∙ get_or-take i ss (j + k) d below in
    subst P (sym same) (h (j + k) t (omega arith) below (slice_get-get_or ss (j + k) d (omega (arith, below, within))))

-- The first step of a command from this one on, or the end.
record IsFirst (number : ℕ) (ss : List Step) (j : ℕ) : Type 0 where
  within : j ≤ length ss
  before : (x : ℕ) (t : Step) → x < j → slice_get ss x ≡ Some t → t.command < number
  here : (t : Step) → slice_get ss j ≡ Some t → number ≤ t.command

before_more : (number : ℕ) (s : Step) (ss : List Step) (j : ℕ) → s.command < number → ((x : ℕ) (t : Step) → x < j → slice_get ss x ≡ Some t → t.command < number) → (x : ℕ) (t : Step) → x < suc j → slice_get (s ∷ ss) x ≡ Some t → t.command < number
before_more number s ss j less rest zero t lt at = subst (λ (u : Step). u.command < number) (some_same s t at) less
before_more number s ss j less rest (suc x) t lt at = rest x t (omega (arith, lt)) at

first_step : (number : ℕ) (ss : List Step) → (j : ℕ) × IsFirst number ss j
first_step number [] = (
  0,
  record {
    within = omega arith;
    before = λ x t lt at. absurd (omega (arith, lt));
    here = λ t at. absurd (omega (arith, slice_get_within [] 0 t at));
  },
)
first_step number (s ∷ ss) = elim (cases_lt s.command number) [
  | inl less ↦
      let rest = first_step number ss in (
        suc rest.0,
        record {
          within = omega (arith, rest.1.within);
          before = before_more number s ss rest.0 less rest.1.before;
          here = rest.1.here;
        },
      )
  | inr more ↦ (
    0,
    record {
      within = omega arith;
      before = λ x t lt at. absurd (omega (arith, lt));
      here = λ t at. subst (λ (u : Step). number ≤ u.command) (some_same s t at) more;
    },
  )
]

module _ (p : Program) (key : List ℕ) where
  -- The run beside is split at each number of steps.
  record Split (o now : Difference) (ss us : List Step) (j : ℕ) : Type 0 where
    mid : Difference
    first : AreBeside p key o (take j ss) (take j us) mid
    rest : AreBeside p key mid (drop j ss) (drop j us) now

  split_at : (o now : Difference) (ss us : List Step) (j : ℕ) → AreBeside p key o ss us now → Split o now ss us j
  split_at o now ss us zero is = record { mid = o; first = refl; rest = is }
  split_at o now [] [] (suc j) is = record { mid = o; first = refl; rest = is }
  split_at o now [] (u ∷ us) (suc j) is = absurd is
  split_at o now (s ∷ ss) [] (suc j) is = absurd is
  split_at o now (s ∷ ss) (u ∷ us) (suc j) is =
      let more = split_at (left (is_for key s) o u) now ss us j is.1 in
      record { mid = more.mid; first = (is.0, more.first); rest = more.rest }

  -- Steps for other entries keep the entry.
  left_other : (own : Bool) (o : Difference) (u : Step) → own ≡ false → (left own o u).entry ≡ o.entry
  left_other true o u h = absurd cc
  left_other false o u h = refl

  entry_stays : (o now : Difference) (ss us : List Step) → AreBeside p key o ss us now → All (λ (s : Step). is_for key s ≡ false) ss → now.entry ≡ o.entry
  entry_stays o now [] [] is others = ap (λ (m : Difference). m.entry) is
  entry_stays o now [] (u ∷ us) is others = absurd is
  entry_stays o now (s ∷ ss) [] is others = absurd is
  entry_stays o now (s ∷ ss) (u ∷ us) is others =
      let other : Step → Type 0 = λ (t : Step). is_for key t ≡ false in
      entry_stays (left (is_for key s) o u) now ss us is.1 (All-tail other s ss others)
      ∙ left_other (is_for key s) o u (All-head other s ss others)

module _ (job : Job) (law : DependsOnInput job.program) (n : ℕ) (key : List ℕ) (files : List File) (d : FoundEntry) (number : ℕ) (read : IsOnlyRead number job.program.commands)
    (found : FindsChanged n key d (found_for job number) (found_for (record job { files = files }) number) job.program) (log : List Message) (goes : (commands_run job log).course.stopped ≡ false) (all : All (IsStep job.program) (commands_run job log).seen)
    (first : Difference) (us : List Step) (k c : ℕ) (after : number < c) (h : HasOrder job.program key first (commands_run job log).seen us k c) where
  abbrev seen : List Step
  seen = (commands_run job log).seen

  -- the sort key is the old one, or fits between those of the neighbours
  alike_if : (mid : Difference) → h.now.entry ≡ mid.entry → (same : Bool) → bytes_eq (sort_key h.keeps.old) (sort_key h.now.entry) ≡ same → SortsAlike n mid (run_before job log c)
  alike_if mid entry true same =
      keeps_order job law n key files d number read found log goes c h.s.command after h.two mid h.i h.s h.at refl (step_at job.program seen h.i h.s all h.at) h.own h.keeps.old h.keeps.is
      (ap sort_key (sym entry) ∙ sym ((bytes_eq-Decides (sort_key h.keeps.old) (sort_key h.now.entry)).0 same))
  alike_if mid entry false other =
      keeps_place job law n key files d number read found log goes c h.s.command after h.two mid h.i h.s h.at refl (step_at job.program seen h.i h.s all h.at) h.own
      (subst (λ (e : Entry). FitsBetween seen h.s.command h.i (sort_key e)) entry (h.keeps.fits other))

  pub sorts_at : c ≤ length job.program.commands → SortsAt job log n key c first us
  sorts_at within =
      let i = h.i in
      let below : i < length seen = slice_get_within seen i h.s h.at in
      let up : c < h.s.command = h.two.below in
      let found_first = first_step c seen in
      let j = found_first.0 in
      let is = found_first.1 in
      let le : j ≤ i = elim (cases_lt i j) [
        | inl less ↦
            let low : h.s.command < c = is.before i h.s less h.at in
            absurd (omega (arith, low, up))
        | inr more ↦ more
      ] in
      let lower : All (λ (t : Step). t.command < c) (take j seen) = all_between (λ (t : Step). t.command < c) seen 0 j (omega arith) is.within (λ x t low lt at. is.before x t lt at) in
      let before : AreBefore c seen j = are_before job log c j within is.within lower is.here in
      let count = length-drop j seen in
      let other : (x : ℕ) (t : Step) → j ≤ x → x < i → slice_get seen x ≡ Some t → is_for key t ≡ false =
      λ x t low lt at.
      let m = x - j in
      let same : j + m ≡ x = omega (arith, low) in
      let there : slice_index_or (drop j seen) m t ≡ t = get_or-drop j seen m t ∙ ap (λ (y : ℕ). slice_index_or seen y t) same ∙ get_or_from_slice_get seen x t t at in
      let high : c ≤ t.command = subst (λ (u : Step). c ≤ u.command) there (before.behind m t (omega (arith, low, lt, below, count))) in
      not_true (is_for key t) (λ own. let less : t.command < c = h.above x t lt at own in omega (arith, less, high))
      in
      let split = split_at job.program key first h.now (take i seen) (take i us) j h.beside in
      let entry : h.now.entry ≡ split.mid.entry =
      entry_stays job.program key split.mid h.now (drop j (take i seen)) (drop j (take i us)) split.rest
      (all_between (λ (t : Step). is_for key t ≡ false) seen j i le (omega (arith, below)) other)
      in
      record {
        steps = j;
        now = split.mid;
        before = before;
        beside = subst (λ (xs : List Step). AreBeside job.program key first xs (take j us) split.mid) (take-take j i seen le)
            (subst (λ (ys : List Step). AreBeside job.program key first (take j (take i seen)) ys split.mid) (take-take j i us le) split.first);
        alike = λ before_goes. alike_if split.mid entry (bytes_eq (sort_key h.keeps.old) (sort_key h.now.entry)) refl;
      }
