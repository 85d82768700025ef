-- What is known of entries without comparing them stays so from step to step.
use Rattle.std.specs.Prelude.{slice_get, slice_index_or, slice_set, true, false, ◌⊎◌}
use Rattle.std.proofs.Common.{◌≡◌, refl, sym, ap, ◌∙◌, inl, inr, ℕ, zero, suc, Bool, List, [], ◌∷◌, ◌++◌, length, Option, Some, None, arith}
use Rattle.std.proofs.lemmas.Option.{slice_get_within}
use Rattle.bt_actions.specs.declared.entry.Entry.{Entry}
use Rattle.bt_actions.specs.declared.entry.Variables.{Variables}
use Rattle.bt_actions.specs.World.{no_entry}
use Rattle.bt_run.specs.declared.kept_resolution.KeptResolution.{KeptResolution}
use Rattle.bt_run.specs.inner.Found.{AreFoundBy}
use Rattle.bt_run.specs.inner.Course.{with_variables, variables_back}
use Rattle.bt_run.specs.inner.Earlier.{fixed, fixed_at, AreSame}

-- variables are all that a step puts back into an entry

pub fixed_with : (v : Option Variables) (e : Entry) → fixed (with_variables v e) ≡ fixed e
fixed_with None e = refl
fixed_with (Some v) e = refl

fixed_set : (entries : List Entry) (m n : ℕ) (e : Entry) → fixed e ≡ fixed_at entries m → fixed_at (slice_set entries m e) n ≡ fixed_at entries n
fixed_set [] m n e h = refl
fixed_set (d ∷ ds) zero zero e h = h
fixed_set (d ∷ ds) zero (suc n) e h = refl
fixed_set (d ∷ ds) (suc m) zero e h = refl
fixed_set (d ∷ ds) (suc m) (suc n) e h = fixed_set ds m n e h

pub fixed_back : (x : Option ℕ) (v : Option Variables) (entries : List Entry) (n : ℕ) → fixed_at (variables_back x v entries) n ≡ fixed_at entries n
fixed_back None v entries n = refl
fixed_back (Some m) v entries n = fixed_set entries m n (with_variables v (slice_index_or entries m no_entry)) (fixed_with v (slice_index_or entries m no_entry))

pub same_back : (others entries : List Entry) (same : List Bool) (x : Option ℕ) (v : Option Variables) → AreSame others entries same → AreSame others (variables_back x v entries) same
same_back others entries same x v h = λ n e. h n e ∙ sym (fixed_back x v entries n)

pub found_back : (is_own : Bool) (kept : Option KeptResolution) (entries : List Entry) (x : Option ℕ) (v : Option Variables) → AreFoundBy is_own kept entries → AreFoundBy is_own kept (variables_back x v entries)
found_back is_own kept entries x v h = record { some = h.some; found = λ go k e n. fixed_back x v entries n ∙ h.found go k e n }

-- Nothing was found in this run.
pub nothing_found : (kept : Option KeptResolution) (entries : List Entry) → AreFoundBy false kept entries
nothing_found kept entries = record { some = λ go. absurd cc; found = λ go. absurd cc }

-- what stands in a list with one element more

more_here : {X : Type 0} (x d : X) (xs : List X) (y : X) (k : ℕ) → (slice_get xs k ≡ Some y) ⊎ ((k ≡ length xs) × (x ≡ y)) → (slice_get (d ∷ xs) (suc k) ≡ Some y) ⊎ ((suc k ≡ length (d ∷ xs)) × (x ≡ y))
more_here x d xs y k (inl here) = inl here
more_here x d xs y k (inr last) = inr (ap suc last.0, last.1)

pub last_or : {X : Type 0} (xs : List X) (x y : X) (k : ℕ) → slice_get (xs ++ x ∷ []) k ≡ Some y → (slice_get xs k ≡ Some y) ⊎ ((k ≡ length xs) × (x ≡ y))
last_or [] x y zero h = inr (refl, cc)
last_or [] x y (suc k) h = absurd cc
last_or (d ∷ ds) x y zero h = inl h
last_or (d ∷ ds) x y (suc k) h = more_here x d ds y k (last_or ds x y k h)

-- no steps
pub same_none : (others entries : List Entry) (same : List Bool) → same ≡ [] → AreSame others entries same
same_none others entries same is = λ n e.
    let none : slice_get [] n ≡ Some true = ap (λ (bs : List Bool). slice_get bs n) (sym is) ∙ e in
    absurd (omega (arith, slice_get_within [] n true none))
