-- Where the first block of a text ends: only the last block can leave a brace open.
use Rattle.std.proofs.Common.{◌≡◌, ℕ, suc, ◌<◌, ◌≤◌, Bool, true, false, cond, eqb, List, [], ◌∷◌, length, get_or, take, drop, fold, refl, sym, ap, ◌∙◌, arith}
use Rattle.std.proofs.lemmas.Bool.{eq-eqb, eqb-true}
use Rattle.std.proofs.lemmas.List.{length-take-le, take_all}
use Rattle.bt_text.specs.Blocks.{blocks}
use Rattle.bt_text.specs.Depth.{depth, depth_after}
use Rattle.bt_text.proofs.BlockLemmas.{blocks_from_first, blocks_from_start, first_len}

first_within : (d : ℕ) (t : List ℕ) → first_len d t ≤ length t
first_within d [] = omega arith
first_within d (b ∷ t) = by_depth (eqb (depth_after d b) 0) (first_within (depth_after d b) t)
  where
    by_depth : (x : Bool) → first_len (depth_after d b) t ≤ length t → suc (cond x 0 (first_len (depth_after d b) t)) ≤ suc (length t)
    by_depth true h = omega arith
    by_depth false h = omega (arith, h)

closed_from : (d : ℕ) (t : List ℕ) → first_len d t < length t → fold depth_after d (take (first_len d t) t) ≡ 0
closed_from d [] h = absurd (omega (arith, h))
closed_from d (b ∷ t) h = by_depth (depth_after d b) (eqb (depth_after d b) 0) (closed_from (depth_after d b) t) refl h
  where
    by_depth : (e : ℕ) (x : Bool) → (first_len e t < length t → fold depth_after e (take (first_len e t) t) ≡ 0) → eqb e 0 ≡ x → suc (cond x 0 (first_len e t)) < suc (length t) → fold depth_after e (take (cond x 0 (first_len e t)) t) ≡ 0
    by_depth e true ih is h = eqb-true e 0 is
    by_depth e false ih is h = ih (omega (arith, h))

closed : (t : List ℕ) (n : ℕ) → n < length t → blocks t ≡ take n t ∷ blocks (drop n t) → depth (take n t) ≡ 0
closed [] n lt e = absurd (omega (arith, lt))
closed (b ∷ t) n lt e =
    let k = first_len 0 (b ∷ t) in
    let cut = blocks_from_start (b ∷ t) ∙ blocks_from_first 0 b t in
    let same : take n (b ∷ t) ≡ take k (b ∷ t) = ap (λ bs. get_or bs 0 []) (sym e ∙ cut) in
    let len : n ≡ k = omega (arith, lt, ap length same, length-take-le n (b ∷ t) (omega (arith, lt)), length-take-le k (b ∷ t) (first_within 0 (b ∷ t))) in
    ap depth same ∙ closed_from 0 (b ∷ t) (omega (arith, lt, len))

pub closed_unless_last : (t : List ℕ) (n : ℕ) → n < length t → blocks t ≡ take n t ∷ blocks (drop n t) → true ≡ eqb (depth (take n t)) 0
closed_unless_last t n lt e = sym (eq-eqb (depth (take n t)) 0 (closed t n lt e))

pub last_is_whole : (t : List ℕ) (n : ℕ) → length t ≤ n → eqb (depth t) 0 ≡ eqb (depth (take n t)) 0
last_is_whole t n le = ap (λ (l : List ℕ). eqb (depth l) 0) (sym (take_all n t le))
