-- Lists of values, many of which may be missing.
use Rattle.std.specs.Prelude.{is_none, option_copied}
use Rattle.std.specs.List.{list_all}
use Rattle.std.proofs.Common.{◌≡◌, refl, sym, ap, ℕ, zero, suc, true, arith, List, [], ◌∷◌, map, length, set, drop, replicate, get_or, Option, Some, None, Bor}
use mathlib.Core.Bool.{false≢true}
use Rattle.bt_text.specs.ByName.{no_value}
use Rattle.bt_text.specs.Sparse.{filled_from}
use Rattle.bt_resolve.specs.Inherited.{inherited}

abbrev Value : Type 0
Value = Option (List ℕ)

pub no_values : (names : List (List ℕ)) → replicate (length names) None ≡ map (no_value {X = List ℕ}) names
no_values [] = refl
no_values (name ∷ names) = ap (λ (vs : List Value). None ∷ vs) (no_values names)

missing_stays : (values : List Value) (p : ℕ) → get_or values p None ≡ None → set values p None ≡ values
missing_stays [] p none = refl
missing_stays (v ∷ vs) zero none = ap (λ (w : Value). w ∷ vs) (sym none)
missing_stays (v ∷ vs) (suc p) none = ap (λ (ws : List Value). v ∷ ws) (missing_stays vs p none)

pub filled_is : (mine theirs : List Value) → filled_from mine theirs ≡ inherited mine theirs
filled_is [] theirs = refl
filled_is (None ∷ mine) [] = ap (λ (vs : List Value). None ∷ vs) (filled_is mine [])
filled_is (None ∷ mine) (v ∷ theirs) = ap (λ (vs : List Value). v ∷ vs) (filled_is mine theirs)
filled_is (Some text ∷ mine) theirs = ap (λ (vs : List Value). Some text ∷ vs) (filled_is mine (drop 1 theirs))

pub all_theirs : (mine theirs : List Value) → list_all is_none mine ≡ true → length mine ≡ length theirs → theirs ≡ inherited mine theirs
all_theirs [] [] none long = refl
all_theirs [] (v ∷ theirs) none long = absurd (omega (arith, long))
all_theirs (m ∷ mine) [] none long = absurd (omega (arith, long))
all_theirs (None ∷ mine) (v ∷ theirs) none long = ap (λ (vs : List Value). v ∷ vs) (all_theirs mine theirs none (omega (arith, long)))
all_theirs (Some text ∷ mine) (v ∷ theirs) none long = absurd (false≢true none)

-- what a look-up in them returns
pub missing_by : (values : List Value) (p : ℕ) (found : Option (Bor (List ℕ))) → option_copied found ≡ get_or values p None → is_none found ≡ true →
    set values p None ≡ values
missing_by values p None is none = missing_stays values p (sym is)
missing_by values p (Some text) is none = absurd (false≢true none)
