-- Lists whose values belong together one by one.
use Rattle.std.proofs.Common.{ℕ, zero, suc, List, [], ◌∷◌}
use Rattle.std.specs.Prelude.{slice_index_or, slice_set}
use Rattle.bt_sound.specs.Fits.{Each}

module _ {A B : Type 0} (R : A → B → Type 0) where
  -- the values at one place
  pub each_at : (xs : List A) (ys : List B) (n : ℕ) (x : A) (y : B) → Each R xs ys → R x y → R (slice_index_or xs n x) (slice_index_or ys n y)
  each_at [] [] n x y h d = d
  each_at [] (b ∷ ys) n x y h d = absurd h
  each_at (a ∷ xs) [] n x y h d = absurd h
  each_at (a ∷ xs) (b ∷ ys) zero x y h d = h.0
  each_at (a ∷ xs) (b ∷ ys) (suc n) x y h d = each_at xs ys n x y h.1 d

  -- other values at one place
  pub each_set : (xs : List A) (ys : List B) (n : ℕ) (x : A) (y : B) → Each R xs ys → R x y → Each R (slice_set xs n x) (slice_set ys n y)
  each_set [] [] n x y h d = tt
  each_set [] (b ∷ ys) n x y h d = absurd h
  each_set (a ∷ xs) [] n x y h d = absurd h
  each_set (a ∷ xs) (b ∷ ys) zero x y h d = (d, h.1)
  each_set (a ∷ xs) (b ∷ ys) (suc n) x y h d = (h.0, each_set xs ys n x y h.1 d)

  -- more is known at one place
  pub each_refined : (xs : List A) (ys : List B) (n : ℕ) (x : A) (y : B) → Each R xs ys → R x (slice_index_or ys n y) → Each R (slice_set xs n x) ys
  each_refined [] [] n x y h d = tt
  each_refined [] (b ∷ ys) n x y h d = absurd h
  each_refined (a ∷ xs) [] n x y h d = absurd h
  each_refined (a ∷ xs) (b ∷ ys) zero x y h d = (d, h.1)
  each_refined (a ∷ xs) (b ∷ ys) (suc n) x y h d = (h.0, each_refined xs ys n x y h.1 d)
