-- Where SORT puts the entry of a run beside another, as the walk over its steps finds it.
use Rattle.std.specs.Prelude.{slice_get, slice_index_or, slice_set}
use Rattle.std.proofs.Common.{◌≡◌, refl, sym, ap, ◌∙◌, subst, inl, inr, ℕ, ◌+◌, ◌<◌, ◌≤◌, true, false, List, length, Some, arith}
use Rattle.std.proofs.lemmas.Bool.{cases_eq, cases_lt}
use Rattle.std.proofs.lemmas.Option.{slice_get-get_or}
use Rattle.std.proofs.lemmas.Slice.Eq.{bytes_eq-Decides}
use Rattle.bt_style.specs.declared.style.Action.{Action}
use Rattle.bt_style.specs.declared.style.Action.TheVariants.{Entry as Entries, Execute, Function, Integers, Iterate, Macro, Read, Reverse, Sort, Strings}
use Rattle.bt_style.specs.declared.style.Command.{Command}
use Rattle.bt_style.specs.Program.{Program}
use Rattle.bt_actions.specs.declared.entry.Entry.{Entry}
use Rattle.bt_run.specs.declared.course.Step.{Step}
use Rattle.bt_run.specs.declared.walk.Walk.{Walk}
use Rattle.bt_run.specs.inner.Beside.{Difference, is_for}
use Rattle.bt_run.specs.inner.SortOrder.{HasItsPlace, HasNoSort, IsBefore, IsBehind, IsFirstSort, IsIterate, IsIterated, IsSortAndIterate, KeepsOrder, is_sort, keeps_entries}
use Rattle.bt_run.specs.inner.Cases.{sort_key}
use Rattle.bt_run.specs.inner.Walk.{AreOrdered, HasOrder, IsWalked, with_steps}
use Rattle.bt_run.proofs.BesideStepsLemmas.{early_put}
use Rattle.bt_run.proofs.KeptBesideLemmas.{some_same}

sorts_is : (a : Action) → is_sort a ≡ true → a ≡ Sort
sorts_is Entries h = absurd cc
sorts_is (Execute t) h = absurd cc
sorts_is (Function n) h = absurd cc
sorts_is Integers h = absurd cc
sorts_is (Iterate t) h = absurd cc
sorts_is (Macro n) h = absurd cc
sorts_is Read h = absurd cc
sorts_is (Reverse t) h = absurd cc
sorts_is Sort h = refl
sorts_is Strings h = absurd cc

-- Commands

pub no_such : (a : Action) → is_sort a ≡ false → a ≡ Sort → ⊥
no_such a other is = let both : true ≡ false = sym (ap is_sort is) ∙ other in cc

not_kept : (a : Action) → keeps_entries a ≡ true → a ≡ Sort → ⊥
not_kept a keeps is = let both : false ≡ true = sym (ap keeps_entries is) ∙ keeps in cc

pub keeps_none : (commands : List Command) (ss : List Step) (k : ℕ) (s : Step) (e : Entry) (after : ℕ) → after < s.command → HasNoSort commands after s.command → KeepsOrder commands ss k s e after
keeps_none commands ss k s e after above none =
    record { above = above; sorts = λ n c low high at is. absurd (no_such c.action (none n c low high at) is) }

pub keeps_one : (commands : List Command) (ss : List Step) (k : ℕ) (s : Step) (e : Entry) (after number : ℕ) → IsFirstSort commands after s.command number → after < number → IsIterated commands number s.command → HasItsPlace ss k s e → KeepsOrder commands ss k s e after
keeps_one commands ss k s e after number first above then place =
    let two : IsSortAndIterate commands number s.command = record {
      sort = first.sort;
      below = first.below;
      at = first.at;
      sorts = sorts_is first.sort.action first.sorts;
      next = then;
    } in
    record {
      above = omega (arith, above, first.below);
      sorts = λ n c low high at is. elim (cases_lt n number) [
        | inl less ↦ absurd (no_such c.action (first.first n c low less at) is)
        | inr more ↦ elim (cases_eq n number) [
          | inl same ↦ (
            omega (arith, above, same),
            subst (λ m. IsSortAndIterate commands m s.command) (sym same) two,
            place,
          )
          | inr other ↦ absurd (not_kept c.action (then.keep n c (omega (arith, more, other)) high at) is)
        ]
      ];
    }

pub iterated_is : (commands : List Command) (sort iterate : ℕ) (d : Command) → iterate < length commands → IsIterate (slice_index_or commands iterate d) → ((k : ℕ) (c : Command) → sort < k → k < iterate → slice_get commands k ≡ Some c → keeps_entries c.action ≡ true) → IsIterated commands sort iterate
iterated_is commands sort iterate d within iterates keep =
    record { command = slice_index_or commands iterate d; at = slice_get-get_or commands iterate d within; iterates = iterates; keep = keep }

-- Neighbours

-- the step that was read is the one at its place
pub step_read : (ss xs : List Step) (k : ℕ) (s made : Step) → xs ≡ ss → slice_get xs k ≡ Some made → slice_get ss k ≡ Some s → s ≡ made
step_read ss xs k s made same at here =
    some_same s made (sym here ∙ ap (λ (ys : List Step). slice_get ys k) (sym same) ∙ at)

pub step_here : (ss xs : List Step) (k : ℕ) (made : Step) → xs ≡ ss → k < length ss → made ≡ slice_index_or xs k made → slice_get ss k ≡ Some made
step_here ss xs k made same within is =
    slice_get-get_or ss k made within ∙ ap (λ (ys : List Step). Some (slice_index_or ys k made)) (sym same) ∙ ap (λ (t : Step). Some t) (sym is)

pub place_same : (ss : List Step) (k : ℕ) (s : Step) (e old : Entry) → s.input.entry ≡ Some old → sort_key old ≡ sort_key e → HasItsPlace ss k s e
place_same ss k s e old is same = record {
  old = old;
  is = is;
  fits = λ other. let both : true ≡ false = sym ((bytes_eq-Decides (sort_key old) (sort_key e)).1 same) ∙ other in absurd cc;
}

pub place_between : (ss : List Step) (k : ℕ) (s : Step) (e old : Entry) → s.input.entry ≡ Some old → IsBehind ss s.command k (sort_key e) → IsBefore ss s.command k (sort_key e) → HasItsPlace ss k s e
place_between ss k s e old is behind before =
    record { old = old; is = is; fits = λ other. record { behind = behind; before = before } }

-- The walk

module _ (p : Program) (key : List ℕ) (first : Difference) (ss : List Step) (read : ℕ) where
  pub ordered_none : (w : Walk) → w.last_command ≡ read → AreOrdered p key first ss read 0 w
  ordered_none w is =
      record { above = λ x t lt at own. absurd (omega (arith, lt)); each = λ n c low high at sorts. absurd (omega (arith, low, high, is)) }

  -- what was found stays after later steps
  found_still : (us : List Step) (k n : ℕ) (u : Step) → HasOrder p key first ss us k n → HasOrder p key first ss (slice_set us k u) (k + 1) n
  found_still us k n u h =
      let early = h.early in
      record {
        i = h.i;
        s = h.s;
        now = h.now;
        early = omega (arith, early);
        at = h.at;
        own = h.own;
        beside = early_put p key first h.now ss us h.i k u (omega (arith, early)) h.beside;
        above = h.above;
        two = h.two;
        keeps = h.keeps;
      }

  found_on : (us : List Step) (k n : ℕ) → HasOrder p key first ss us k n → HasOrder p key first ss us (k + 1) n
  found_on us k n h =
      let early = h.early in
      record {
        i = h.i;
        s = h.s;
        now = h.now;
        early = omega (arith, early);
        at = h.at;
        own = h.own;
        beside = h.beside;
        above = h.above;
        two = h.two;
        keeps = h.keeps;
      }

  module _ (k : ℕ) (s : Step) (here : slice_get ss k ≡ Some s) (w : Walk) (ordered : AreOrdered p key first ss read k w) where
    -- whose the step is decides of the commands of the steps for the entry
    above_on : (bound : ℕ) → w.last_command ≤ bound → (is_for key s ≡ true → s.command ≤ bound) → (x : ℕ) (t : Step) → x < k + 1 → slice_get ss x ≡ Some t → is_for key t ≡ true → t.command ≤ bound
    above_on bound more now x t lt at own = elim (cases_lt x k) [
      | inl less ↦ omega (arith, ordered.above x t less at own, more)
      | inr not_less ↦
          let same : x ≡ k = omega (arith, lt, not_less) in
          let is : t ≡ s = some_same t s (sym at ∙ ap (slice_get ss) same ∙ here) in
          let own_now : is_for key s ≡ true = ap (is_for key) (sym is) ∙ own in
          subst (λ (u : Step). u.command ≤ bound) (sym is) (now own_now)
    ]

    none_now : (bound : ℕ) → is_for key s ≡ false → is_for key s ≡ true → s.command ≤ bound
    none_now bound other own = let both : true ≡ false = sym own ∙ other in absurd cc

    -- a step for another entry that stays
    pub ordered_passed : is_for key s ≡ false → AreOrdered p key first ss read (k + 1) w
    ordered_passed other = record {
      above = above_on w.last_command (omega arith) (none_now w.last_command other);
      each = λ n c low high at sorts. found_on (with_steps ss w.steps) k n (ordered.each n c low high at sorts);
    }

    -- a step for another entry that is made again
    pub ordered_other : (u : Step) (v : Walk) → is_for key s ≡ false → with_steps ss v.steps ≡ slice_set (with_steps ss w.steps) k u → v.last_command ≡ w.last_command → AreOrdered p key first ss read (k + 1) v
    ordered_other u v other are sorted = record {
      above = above_on v.last_command (omega (arith, sorted)) (none_now v.last_command other);
      each = λ n c low high at sorts. subst (λ (us : List Step). HasOrder p key first ss us (k + 1) n) (sym are)
          (found_still (with_steps ss w.steps) k n u (ordered.each n c low (omega (arith, high, sorted)) at sorts));
    }

    -- a step for the entry
    pub ordered_own : (u : Step) (v : Walk) → is_for key s ≡ true → IsWalked p key first ss k w → KeepsOrder p.commands ss k s w.entry w.last_command → with_steps ss v.steps ≡ slice_set (with_steps ss w.steps) k u → v.last_command ≡ s.command → AreOrdered p key first ss read (k + 1) v
    ordered_own u v own walked keeps are sorted =
        let us = with_steps ss w.steps in
        let now = walked.now in
        let fresh : (n : ℕ) (c : Command) → w.last_command ≤ n → n < s.command → slice_get p.commands n ≡ Some c → c.action ≡ Sort → HasOrder p key first ss (slice_set us k u) (k + 1) n =
        λ n c low high at sorts.
        let found = keeps.sorts n c low high at sorts in
        let above_n : w.last_command < n = found.0 in
        record {
          i = k;
          s = s;
          now = now;
          early = omega arith;
          at = here;
          own = own;
          beside = early_put p key first now ss us k k u (omega arith) walked.upto.beside;
          above = λ x t lt at_x own_x. omega (arith, ordered.above x t lt at_x own_x, above_n);
          two = found.1;
          keeps = subst (HasItsPlace ss k s) (sym walked.at.entry) found.2;
        }
        in
        record {
          above = above_on v.last_command (omega (arith, sorted, keeps.above)) (λ is. omega (arith, sorted));
          each = λ n c low high at sorts. subst (λ (vs : List Step). HasOrder p key first ss vs (k + 1) n) (sym are) (elim (cases_lt n w.last_command) [
            | inl less ↦ found_still us k n u (ordered.each n c low less at sorts)
            | inr more ↦ fresh n c more (omega (arith, high, sorted)) at sorts
          ]);
        }
