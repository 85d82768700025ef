-- The earlier step of a name: where it is found, and why no other can agree.
use Rattle.std.specs.Prelude.{◌==◌, ◌&&◌, ◌%◌, bytes_eq, if◌then◌else◌, slice_get, slice_index_or, sum_by, MatchOption}
use mathlib.Core.Bool.{false≢true}
use Rattle.std.specs.Cmp.{IsEquivalence, and_equiv, on_equiv, nat_eq_equiv}
use Rattle.std.specs.Cmp.Lexicographic.{on_texts_equal}
use Rattle.std.proofs.Common.{◌≡◌, refl, sym, ap, ◌∙◌, subst, ◌⊎◌, inl, inr, ◌+◌, ◌<◌, ◌≤◌, ℕ, zero, suc, Bool, true, false, List, [], ◌∷◌, Option, Some, None, length, arith}
use Rattle.std.proofs.lemmas.Bool.{cases_Bool, cases_lt}
use Rattle.std.proofs.lemmas.List.Sums.{sum_by-cons}
use Rattle.std.proofs.lemmas.Option.{slice_get-get_or}
use Rattle.std.proofs.lemmas.Slice.Eq.{bytes_eq-Decides}
use Rattle.bt_style.specs.Reach.{is_among}
use Rattle.bt_actions.specs.declared.entry.Entry.{Entry}
use Rattle.bt_run.specs.declared.course.Step.{Step}
use Rattle.bt_run.specs.declared.index.Index.{Index}
use Rattle.bt_run.specs.declared.index.StepName.{StepName}
use Rattle.bt_run.specs.declared.mark.Mark.{Mark}
use Rattle.bt_run.specs.declared.reused_step.Sought.{Sought}
use Rattle.bt_run.specs.Course.{key_in}
use Rattle.bt_run.specs.inner.Index.{key_or_none, place_at, same_name, step_name}
use Rattle.bt_run.specs.inner.Marks.{AreMarked, step_tag, tag_from, tag_of}
use Rattle.bt_run.specs.inner.Names.{HaveDistinctNames, IsIndexTo, IsNamedAt, IsUnnamed, IsUnnamedTo, is_named, named_at, once_if}
use Rattle.bt_run.specs.inner.Work.{IsLike, AreUnlike, IsUnlikeAt, name_of}
use Rattle.bt_run.proofs.WorkLemmas.{key_same, number_same}

same_name_equiv : IsEquivalence same_name
same_name_equiv = and_equiv (on_equiv (λ (a : StepName). a.command) nat_eq_equiv) (on_texts_equal (λ (a : StepName). key_or_none a.key))

-- what a step at a place has, if there is one
abbrev at_place : (Step → Bool) → List Step → ℕ → Bool
at_place P ss k = elim (slice_get ss k) [ None ↦ false | Some s ↦ P s ]

at_step : (P : Step → Bool) (ss : List Step) (k : ℕ) (s : Step) → slice_get ss k ≡ Some s → at_place P ss k ≡ P s
at_step P ss k s at = ap (λ (o : Option Step). elim o [ None ↦ false | Some t ↦ P t ]) at

-- The index of steps

below_or_at : (k n : ℕ) → k < n + 1 → (k < n) ⊎ (k ≡ n)
below_or_at k n lt = elim (cases_lt k n) [ inl below ↦ inl below | inr past ↦ inr (omega (arith, lt, past)) ]

-- the new index is the old one with one place more
abbrev IsAdded : Index → Index → StepName → ℕ → Type 0
IsAdded old new name place =
    (other : StepName) → place_at new other ≡ (if same_name name other then Some place else place_at old other)

unnamed_more : (n : ℕ) (other : StepName) (ss : List Step) → named_at other ss n ≡ false → IsUnnamedTo n other ss → IsUnnamedTo (n + 1) other ss
unnamed_more n other ss last so_far = λ k lt.
    elim (below_or_at k n lt) [ inl below ↦ so_far k below | inr is ↦ subst (λ (m : ℕ). named_at other ss m ≡ false) (sym is) last ]

kept_or_new : (same : Bool) (ss : List Step) (n : ℕ) (other : StepName) (place : Option ℕ) → named_at other ss n ≡ same →
    MatchOption place (IsUnnamedTo n other ss) (IsNamedAt other ss) →
    MatchOption (if same then Some n else place) (IsUnnamedTo (n + 1) other ss) (IsNamedAt other ss)
kept_or_new true ss n other place is so_far = is
kept_or_new false ss n other None is so_far = unnamed_more n other ss is so_far
kept_or_new false ss n other (Some place) is so_far = so_far

pub indexed_more : (ss : List Step) (old new : Index) (n : ℕ) (s d : Step) (name : StepName) → IsIndexTo n ss old → n < length ss → s ≡ slice_index_or ss n d → name ≡ step_name s.command s.input → IsAdded old new name n → IsIndexTo (n + 1) ss new
indexed_more ss old new n s d name so_far lt here named more = λ other.
    let at : slice_get ss n ≡ Some s = slice_get-get_or ss n d lt ∙ ap Some (sym here) in
    let is : named_at other ss n ≡ same_name name other = at_step (is_named other) ss n s at ∙ ap (same_name other) (sym named) ∙ same_name_equiv.symm other name in
    subst (λ (o : Option ℕ). MatchOption o (IsUnnamedTo (n + 1) other ss) (IsNamedAt other ss)) (sym (more other))
    (kept_or_new (same_name name other) ss n other (place_at old other) is (so_far other))

-- Two steps of one name

one_at : (P : Step → Bool) (ss : List Step) (i : ℕ) → at_place P ss i ≡ true → 1 ≤ sum_by (λ (t : Step). once_if (P t)) ss
one_at P [] i is = absurd cc
one_at P (x ∷ xs) zero is = omega (arith, sum_by-cons (λ (t : Step). once_if (P t)) x xs, ap once_if is)
one_at P (x ∷ xs) (suc i) is = omega (arith, sum_by-cons (λ (t : Step). once_if (P t)) x xs, one_at P xs i is)

two_at : (P : Step → Bool) (ss : List Step) (i j : ℕ) → i < j → at_place P ss i ≡ true → at_place P ss j ≡ true → 2 ≤ sum_by (λ (u : Step). once_if (P u)) ss
two_at P [] i j lt is so = absurd cc
two_at P (x ∷ xs) i zero lt is so = absurd (omega (arith, lt))
two_at P (x ∷ xs) zero (suc j) lt is so = omega (arith, sum_by-cons (λ (t : Step). once_if (P t)) x xs, ap once_if is, one_at P xs j so)
two_at P (x ∷ xs) (suc i) (suc j) lt is so =
    omega (arith, sum_by-cons (λ (u : Step). once_if (P u)) x xs, two_at P xs i j (omega (arith, lt)) is so)

one_place : (ss : List Step) (name : StepName) (i j : ℕ) → HaveDistinctNames ss → IsNamedAt name ss i → IsNamedAt name ss j → i ≡ j
one_place ss name i j once is so =
    elim (cases_lt i j) [
      | inl lt ↦ absurd (omega (arith, two_at (is_named name) ss i j lt is so, once name))
      | inr above ↦ elim (cases_lt j i) [
        | inl lt ↦ absurd (omega (arith, two_at (is_named name) ss j i lt so is, once name))
        | inr below ↦ omega (arith, above, below)
      ]
    ]

-- Steps that are like this one

-- have its name
like_named : (sought : Sought) (ss : List Step) (k : ℕ) (s : Step) → slice_get ss k ≡ Some s → IsLike sought.command sought.reach.now.targets sought.input.now s → IsNamedAt (name_of sought) ss k
like_named sought ss k s at like =
    let keys : key_in s.input ≡ key_in sought.input.now = key_same (is_among sought.reach.now.targets) s.input sought.input.now like.agree in
    let is : step_name s.command s.input ≡ name_of sought = λ j. record { command = like.of_command j; key = keys j } in
    at_step (is_named (name_of sought)) ss k s at ∙ ap (same_name (name_of sought)) is ∙ same_name_equiv.refl (name_of sought)

-- If no step has its name, none is like it.
pub unnamed_none : (sought : Sought) (ss : List Step) → IsUnnamed (name_of sought) ss → AreUnlike sought ss
unnamed_none sought ss none = λ k d lt. λ like.
    let is = like_named sought ss k (slice_index_or ss k d) (slice_get-get_or ss k d lt) like in
    false≢true (sym (none k lt) ∙ is)

-- If the step of its name isn't like it, none is.
others_unlike : (sought : Sought) (ss : List Step) (k : ℕ) → HaveDistinctNames ss → IsNamedAt (name_of sought) ss k → IsUnlikeAt sought ss k → AreUnlike sought ss
others_unlike sought ss k once named none = λ i d lt. λ like.
    let s = slice_index_or ss i d in
    let at : slice_get ss i ≡ Some s = slice_get-get_or ss i d lt in
    let same : i ≡ k = one_place ss (name_of sought) i k once (like_named sought ss i s at like) named in
    none s (subst (λ (n : ℕ). slice_get ss n ≡ Some s) same at) like

pub named_met : {F : Type 0} (S : F → Type 0) (met : Option F) (sought : Sought) (ss : List Step) (k : ℕ) → HaveDistinctNames ss → IsNamedAt (name_of sought) ss k → MatchOption met (IsUnlikeAt sought ss k) S → MatchOption met (AreUnlike sought ss) S
named_met S None sought ss k once named none = others_unlike sought ss k once named none
named_met S (Some s) sought ss k once named like = like

-- Steps that have its name have its tag.

both : (a b : Bool) → (a && b) ≡ true → (a ≡ true) × (b ≡ true)
both true b h = (refl, h)
both false b h = absurd cc

name_tag : (sought : Sought) (s : Step) → is_named (name_of sought) s ≡ true → tag_of sought.command (key_in sought.input.now) ≡ step_tag s
name_tag sought s is =
    let own = key_or_none (key_in sought.input.now) in
    let other = key_or_none (key_in s.input) in
    let h = both (sought.command == s.command) (bytes_eq own other) is in
    let command = number_same sought.command s.command h.0 in
    let key = (bytes_eq-Decides own other).0 h.1 in
    λ j. tag_from (command j % 4294967296) (key j)

at_true : (P : Step → Bool) (ss : List Step) (k : ℕ) → at_place P ss k ≡ true → (s : Step) × (slice_get ss k ≡ Some s) × (P s ≡ true)
at_true P [] k is = absurd cc
at_true P (x ∷ xs) zero is = (x, refl, is)
at_true P (x ∷ xs) (suc k) is = at_true P xs k is

pub other_tag : (sought : Sought) (entries : List Entry) (steps : List Step) (marks own : List Mark) (k : ℕ) (d : Mark) → AreMarked entries steps marks → own ≡ marks → k < length marks → ((slice_index_or own k d).tag ≡ tag_of sought.command (key_in sought.input.now) → ⊥) → named_at (name_of sought) steps k ≡ false
other_tag sought entries steps marks own k d h is lt other =
    elim (cases_Bool (named_at (name_of sought) steps k)) [
      | inl same ↦
          let found = at_true (is_named (name_of sought)) steps k same in
          let s = found.0 in
          let tagged = (h.each k s (slice_index_or marks k d) found.1 (slice_get-get_or marks k d lt)).tagged in
          absurd (other (ap (λ (ms : List Mark). (slice_index_or ms k d).tag) is ∙ tagged ∙ sym (name_tag sought s found.2)))
      | inr apart ↦ apart
    ]

-- what is met where something is
pub met_some : {F : Type 0} (P : Type 0) (S : F → Type 0) (met : Option F) (x : F) → met ≡ Some x → MatchOption met P S → S x
met_some P S met x is h = subst (λ o. MatchOption o P S) is h

pub met_none : {F : Type 0} (P : Type 0) (S : F → Type 0) (met : Option F) → met ≡ None → MatchOption met P S → P
met_none P S met is h = subst (λ o. MatchOption o P S) is h
