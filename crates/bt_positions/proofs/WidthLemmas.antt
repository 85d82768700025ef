-- The units of parts of a text.
use Rattle.std.proofs.Common.{◌≡◌, ℕ, zero, suc, ◌+◌, ◌-◌, ◌*◌, ◌≤◌, Bool, true, false, cond, List, [], ◌∷◌, ◌++◌, length, take, drop, refl, ap, sym, subst, inl, inr, ◌⊎◌, ◌∙◌, arith}
use Rattle.std.proofs.lemmas.Grind.{common_steps}
use Rattle.std.proofs.Math.Seq.{take-add}
use Rattle.std.specs.Prelude.{nat_lt}
use Rattle.bt_positions.specs.declared.counting.Counting.{Counting}
use Rattle.bt_positions.specs.declared.counting.Counting.TheVariants.{Utf8, Utf16, LatinAsUtf8, LatinAsUtf16}
use Rattle.bt_positions.specs.Units.{units, width, fitting}
use Rattle.bt_positions.specs.Lines.{first_line}

-- Two texts one after the other count what each counts.
pub width_append : (c : Counting) (s t : List ℕ) → width c (s ++ t) ≡ width c s + width c t
width_append c [] t = grind arith
width_append c (b ∷ s) t = grind (arith, width_append c s t)

-- The units of the first bytes of a text, and of those after them.
pub width_take : (c : Counting) (m k : ℕ) (t : List ℕ) → width c (take (m + k) t) ≡ width c (take m t) + width c (take k (drop m t))
width_take c m k t = ap (width c) (take-add m k t) ∙ width_append c (take m t) (take k (drop m t))

units_few : (c : Counting) (b : ℕ) → units c b ≤ 2
units_few Utf8 b = omega arith
units_few Utf16 b = go (nat_lt b 128) (nat_lt b 192) (nat_lt b 240)
  where
    go : (x y z : Bool) → cond x 1 (cond y 0 (cond z 1 2)) ≤ 2
    go true y z = omega arith
    go false true z = omega arith
    go false false true = omega arith
    go false false false = omega arith
units_few LatinAsUtf8 b = go (nat_lt b 128)
  where
    go : (x : Bool) → cond x 1 2 ≤ 2
    go true = omega arith
    go false = omega arith
units_few LatinAsUtf16 b = omega arith

pub width_few : (c : Counting) (t : List ℕ) → width c t ≤ 2 * length t
width_few c [] = omega arith
width_few c (b ∷ t) = omega (arith, units_few c b, width_few c t)

-- In two ways of counting each byte is a unit.
pub width_single : (c : Counting) (t : List ℕ) → (c ≡ Utf8) ⊎ (c ≡ LatinAsUtf16) → length t ≡ width c t
width_single c t (inl is) = subst (λ d. length t ≡ width d t) (sym is) (bytes t)
  where
    bytes : (t : List ℕ) → length t ≡ width Utf8 t
    bytes [] = refl
    bytes (b ∷ t) = omega (arith, bytes t)
width_single c t (inr is) = subst (λ d. length t ≡ width d t) (sym is) (bytes t)
  where
    bytes : (t : List ℕ) → length t ≡ width LatinAsUtf16 t
    bytes [] = refl
    bytes (b ∷ t) = omega (arith, bytes t)

-- A character of the first line is found from each place before it.
pub fitting_skip : (c : Counting) (n m : ℕ) (s : List ℕ) → m ≤ length (first_line s) → width c (take m s) ≤ n →
    fitting c n (first_line s) ≡ m + fitting c (n - width c (take m s)) (first_line (drop m s))
fitting_skip c n zero s p q = grind (arith, common_steps)
fitting_skip c n (suc m) [] p q = absurd (omega (arith, p))
fitting_skip c n (suc m) (b ∷ s) p q = grind (arith, common_steps, fitting_skip c (n - units c b) m s)
