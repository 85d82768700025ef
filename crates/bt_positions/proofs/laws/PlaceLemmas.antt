-- From an offset to its position and back.
use Rattle.std.proofs.Common.{◌≡◌, ℕ, zero, suc, ◌+◌, ◌-◌, ◌≤◌, true, false, List, [], ◌∷◌, take, drop, refl, sym, ap, ◌∙◌, arith}
use Rattle.std.proofs.lemmas.Grind.{common_steps}
use Rattle.std.specs.Prelude.{◌&&◌, ◌==◌, not, Bool, cond}
use Rattle.bt_positions.specs.declared.counting.Counting.{Counting}
use Rattle.bt_positions.specs.Units.{width, fitting}
use Rattle.bt_positions.specs.declared.lines.Lines.TheVariants.{Editor}
use Rattle.bt_positions.specs.Lines.{begins_with_feed, place_of_line, line_ends, first_line}
use Rattle.bt_positions.specs.laws.Places.{is_place}

-- Within the first line.
pub fits_back : (c : Counting) (n : ℕ) (t : List ℕ) → is_place c n t ≡ true → line_ends n t ≡ 0 →
    fitting c (width c (take n t)) (first_line t) ≡ n
fits_back c n [] p e = grind (arith, common_steps)
fits_back c zero (b ∷ t) p e = grind (arith, common_steps)
fits_back c (suc n) (b ∷ t) p e = grind (arith, common_steps, fits_back c n t)

-- A line begins before the places in it.
pub start_within : (c : Counting) (n : ℕ) (t : List ℕ) → is_place c n t ≡ true → place_of_line Editor (line_ends n t) t ≤ n
start_within c n [] p = grind (arith, common_steps)
start_within c zero (b ∷ t) p = grind (arith, common_steps)
start_within c (suc n) (b ∷ t) p = grind (arith, common_steps, start_within c n t)

-- One byte further, behind the first line.
pub line_step : (n b : ℕ) (t : List ℕ) → 1 ≤ line_ends (suc n) (b ∷ t) →
    place_of_line Editor (line_ends (suc n) (b ∷ t)) (b ∷ t) ≡ suc (place_of_line Editor (line_ends n t) t)
line_step n b t p = grind (arith, common_steps)

-- The place of a position whose line begins here.
abbrev pub back : Counting → ℕ → ℕ → List ℕ → ℕ
back c s n t = s + fitting c (width c (take (n - s) (drop s t))) (first_line (drop s t))

-- The same behind one more byte.
pub back_next : (c : Counting) (s n b : ℕ) (t : List ℕ) → back c (suc s) (suc n) (b ∷ t) ≡ suc (back c s n t)
back_next c s n b t = grind (arith, common_steps)

-- One byte more before a place.
pub back_step : (c : Counting) (n b k : ℕ) (t : List ℕ) → k ≡ line_ends (suc n) (b ∷ t) → is_place c (suc n) (b ∷ t) ≡ true →
    back c (place_of_line Editor (line_ends n t) t) n t ≡ n → back c (place_of_line Editor k (b ∷ t)) (suc n) (b ∷ t) ≡ suc n
back_step c n b zero t e p ih = grind (arith, common_steps, fits_back c (suc n) (b ∷ t) p (sym e))
back_step c n b (suc k) t e p ih =
    let step = line_step n b t (grind (arith, e)) in
    rw (e, step, back_next c (place_of_line Editor (line_ends n t) t) n b t, ih) refl

-- The second of two that both hold.
pub and_right : (a b : Bool) → (a && b) ≡ true → b ≡ true
and_right true b p = p
and_right false b p = grind arith

-- What a false test leaves.
pub place_cons : (test a b : Bool) → test ≡ false → cond test a b ≡ b
place_cons true a b p = grind arith
place_cons false a b p = refl

-- A place behind a byte is one of what follows it.
pub place_tail : (c : Counting) (n b : ℕ) (t : List ℕ) → is_place c (suc n) (b ∷ t) ≡ true → is_place c n t ≡ true
place_tail c n b t p =
    let first = not (suc n == 1 && (b == 13 && begins_with_feed t)) in
    let e : is_place c (suc n) (b ∷ t) ≡ (first && is_place c n t) = place_cons (suc n == 0) _ _ (grind arith) ∙ ap (λ m. first && is_place c m t) (grind arith) in
    and_right first (is_place c n t) (sym e ∙ p)

-- From a place to its position and back, where the line begins at this place.
pub comes_back : (c : Counting) (n : ℕ) (t : List ℕ) → is_place c n t ≡ true →
    back c (place_of_line Editor (line_ends n t) t) n t ≡ n
comes_back c n [] p = grind (arith, common_steps)
comes_back c zero (b ∷ t) p = grind (arith, common_steps)
comes_back c (suc n) (b ∷ t) p =
    back_step c n b (line_ends (suc n) (b ∷ t)) t refl p (comes_back c n t (place_tail c n b t p))
