-- A name without the right braces at depth 0.
use Rattle.std.proofs.Common.{◌≡◌, ◌≢◌, ◌⊎◌, inl, inr, ℕ, zero, suc, Bool, true, false, cond, eqb, not, ◌&&◌, List, [], ◌∷◌, filter, refl, sym, ap, ◌∙◌}
use Rattle.std.specs.List.{onto_first}
use Rattle.std.proofs.Math.Dec.{eqb-suc-zero}
use Rattle.std.proofs.lemmas.Bool.Decides.{eqb_tells}
use Rattle.bt_text.specs.Blocks.{blocks}
use Rattle.bt_text.specs.Depth.{depth_after}
use Rattle.bt_text.proofs.BlockLemmas.{blocks_from, blocks_from_start}
use Rattle.bt_names.specs.Cuts.{is_single, kept_blocks}

abbrev pub kept_from : ℕ → List ℕ → List ℕ
kept_from d [] = []
kept_from d (b ∷ t) =
    let rest = kept_from (depth_after d b) t in
    cond (eqb b 125 && eqb d 0) rest (b ∷ rest)

abbrev pub is_kept : List ℕ → Bool
is_kept block = not (is_single (λ b. eqb b 125) block)

-- At a depth above 0 the first block is the rest of a group.
abbrev kept_of : ℕ → List (List ℕ) → List (List ℕ)
kept_of zero bs = filter is_kept bs
kept_of (suc d) [] = []
kept_of (suc d) (x ∷ xs) = x ∷ filter is_kept xs

group_kept : (bs : List (List ℕ)) → onto_first 123 (kept_of 1 bs) ≡ filter is_kept (onto_first 123 bs)
group_kept [] = refl
group_kept ([] ∷ bs) = refl
group_kept ((b ∷ x) ∷ bs) = refl

inside_kept : (d e b : ℕ) (bs : List (List ℕ)) → cond (eqb e 0) ((b ∷ []) ∷ kept_of e bs) (onto_first b (kept_of e bs)) ≡ kept_of (suc d) (cond (eqb e 0) ((b ∷ []) ∷ bs) (onto_first b bs))
inside_kept d zero b bs = refl
inside_kept d (suc e) b [] = rw eqb-suc-zero refl
inside_kept d (suc e) b (x ∷ bs) = rw eqb-suc-zero refl

-- After a byte that is no left brace, depth 0 stays.
flat_behind : (b : ℕ) → eqb b 123 ≡ false → depth_after 0 b ≡ 0
flat_behind b h = ap (λ (x : Bool). cond {A = ℕ} x 1 (cond {A = ℕ} (eqb b 125) 0 0)) h ∙ same (eqb b 125) 0
  where
    same : (x : Bool) (n : ℕ) → cond x n n ≡ n
    same true n = refl
    same false n = refl

pub single_from : (b : ℕ) (t : List ℕ) → eqb b 123 ≡ false → blocks_from 0 (b ∷ t) ≡ (b ∷ []) ∷ blocks_from 0 t
single_from b t h = ap (λ e. cond (eqb e 0) ((b ∷ []) ∷ blocks_from e t) (onto_first b (blocks_from e t))) (flat_behind b h)

kept_other : (b : ℕ) (t : List ℕ) → eqb b 125 ≡ false → eqb b 123 ≡ false → kept_from 0 (b ∷ t) ≡ b ∷ kept_from 0 t
kept_other b t h g = ap (λ x. cond (x && true) (kept_from (depth_after 0 b) t) (b ∷ kept_from (depth_after 0 b) t)) h ∙ ap (λ e. b ∷ kept_from e t) (flat_behind b g)

kept_inside : (d b : ℕ) (t : List ℕ) → kept_from (suc d) (b ∷ t) ≡ b ∷ kept_from (depth_after (suc d) b) t
kept_inside d b t = by_test (eqb b 125)
  where
    by_test : (x : Bool) → cond (x && eqb (suc d) 0) (kept_from (depth_after (suc d) b) t) (b ∷ kept_from (depth_after (suc d) b) t) ≡ b ∷ kept_from (depth_after (suc d) b) t
    by_test true = rw eqb-suc-zero refl
    by_test false = refl

single_kept : (b : ℕ) (bs : List (List ℕ)) → eqb b 125 ≡ false → filter is_kept ((b ∷ []) ∷ bs) ≡ (b ∷ []) ∷ filter is_kept bs
single_kept b bs h = ap (λ x. cond (not x) ((b ∷ []) ∷ filter is_kept bs) (filter is_kept bs)) h

pub blocks_kept_from : (d : ℕ) (t : List ℕ) → blocks_from d (kept_from d t) ≡ kept_of d (blocks_from d t)
blocks_kept_from zero [] = refl
blocks_kept_from (suc d) [] = refl
blocks_kept_from zero (b ∷ t) = at_start (eqb_tells b 125) (eqb_tells b 123) (blocks_kept_from 0 t) (blocks_kept_from 1 t)
  where
    at_start : ((eqb b 125 ≡ true) × (b ≡ 125)) ⊎ ((eqb b 125 ≡ false) × (b ≢ 125)) → ((eqb b 123 ≡ true) × (b ≡ 123)) ⊎ ((eqb b 123 ≡ false) × (b ≢ 123)) → blocks_from 0 (kept_from 0 t) ≡ kept_of 0 (blocks_from 0 t) → blocks_from 1 (kept_from 1 t) ≡ kept_of 1 (blocks_from 1 t) → blocks_from 0 (kept_from 0 (b ∷ t)) ≡ kept_of 0 (blocks_from 0 (b ∷ t))
    at_start (inl right) _ e f = rw right.1 e
    at_start (inr other) (inl left) e f = rw left.1 (ap (onto_first 123) f ∙ group_kept (blocks_from 1 t))
    at_start (inr other) (inr neither) e f = ap (blocks_from 0) (kept_other b t other.0 neither.0) ∙ single_from b (kept_from 0 t) neither.0 ∙ ap (λ bs. (b ∷ []) ∷ bs) e ∙ sym (single_kept b (blocks_from 0 t) other.0) ∙ ap (filter is_kept) (sym (single_from b t neither.0))
blocks_kept_from (suc d) (b ∷ t) =
    let e = depth_after (suc d) b in
    ap (blocks_from (suc d)) (kept_inside d b t) ∙ ap (λ bs. cond (eqb e 0) ((b ∷ []) ∷ bs) (onto_first b bs)) (blocks_kept_from e t) ∙ inside_kept d e b (blocks_from e t)

pub blocks_kept : (t : List ℕ) → blocks (kept_from 0 t) ≡ kept_blocks t
blocks_kept t = blocks_from_start (kept_from 0 t) ∙ blocks_kept_from 0 t ∙ ap (filter is_kept) (sym (blocks_from_start t))
