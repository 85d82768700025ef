-- Blocks by a depth counter.
use Rattle.std.proofs.Common.{◌≡◌, ℕ, zero, suc, ◌+◌, ◌<◌, cond, eqb, List, [], ◌∷◌, ◌++◌, length, get_or, take, drop, refl, ap, ◌∙◌, arith}
use Rattle.std.specs.List.{onto_first}
use Rattle.std.proofs.lemmas.List.{take_more}
use Rattle.std.proofs.Math.Dec.{eqb-suc-zero}
use Rattle.std.proofs.lemmas.List.Sums.{fold-append}
use Rattle.bt_text.specs.Blocks.{blocks, blocks_after}
use Rattle.bt_text.specs.Depth.{depth, depth_after}

-- the blocks of a text that begins at depth d: the first is the rest of a group that stands open there
abbrev pub blocks_from : ℕ → List ℕ → List (List ℕ)
blocks_from d [] = []
blocks_from d (b ∷ t) =
    let rest = blocks_from (depth_after d b) t in
    cond (eqb (depth_after d b) 0) ((b ∷ []) ∷ rest) (onto_first b rest)

pub depth_push : (front : List ℕ) (b : ℕ) → depth (front ++ b ∷ []) ≡ depth_after (depth front) b
depth_push front b = fold-append depth_after 0 front (b ∷ [])

-- Of the bytes in front only their depth matters.
pub blocks_behind_from : (front t : List ℕ) → blocks_after front t ≡ blocks_from (depth front) t
blocks_behind_from front [] = refl
blocks_behind_from front (b ∷ t) =
    rw (depth_push front b, blocks_behind_from (front ++ b ∷ []) t, depth_push front b)

pub blocks_from_start : (t : List ℕ) → blocks t ≡ blocks_from 0 t
blocks_from_start t = blocks_behind_from [] t

-- how many bytes the first block has
abbrev pub first_len : ℕ → List ℕ → ℕ
first_len d [] = 0
first_len d (b ∷ t) = suc (cond (eqb (depth_after d b) 0) 0 (first_len (depth_after d b) t))

-- The first block is so many bytes, and the blocks of what follows it are the others.
pub blocks_from_first : (d b : ℕ) (t : List ℕ) → blocks_from d (b ∷ t) ≡ take (first_len d (b ∷ t)) (b ∷ t) ∷ blocks_from 0 (drop (first_len d (b ∷ t)) (b ∷ t))
blocks_from_first d b t = at_depth (depth_after d b) b t
  where
    at_depth : (e b : ℕ) (t : List ℕ) → cond (eqb e 0) ((b ∷ []) ∷ blocks_from e t) (onto_first b (blocks_from e t)) ≡ take (suc (cond (eqb e 0) 0 (first_len e t))) (b ∷ t) ∷ blocks_from 0 (drop (suc (cond (eqb e 0) 0 (first_len e t))) (b ∷ t))
    at_depth zero b t = refl
    at_depth (suc e) b [] = rw eqb-suc-zero refl
    at_depth (suc e) b (c ∷ t) = rw eqb-suc-zero (ap (onto_first b) (at_depth (depth_after (suc e) c) c t))

pub first_block_at : (t : List ℕ) (n : ℕ) → 0 < length t → n ≡ first_len 0 t → blocks t ≡ take n t ∷ blocks (drop n t)
first_block_at [] n h e = absurd (omega arith)
first_block_at (b ∷ t) n h e = rw (e, blocks_from_start (b ∷ t), blocks_from_first 0 b t, blocks_from_start (drop (first_len 0 (b ∷ t)) (b ∷ t))) refl

-- A block ends after the byte that brings the depth to 0.
pub first_len_end : (d b : ℕ) (t : List ℕ) → depth_after d b ≡ 0 → first_len d (b ∷ t) ≡ 1
first_len_end d b t e = ap (λ x. suc (cond (eqb x 0) 0 (first_len x t))) e

-- The depth before a place, one place on.
pub depth_take : (t : List ℕ) (i : ℕ) → i < length t → depth (take (i + 1) t) ≡ depth_after (depth (take i t)) (get_or t i 0)
depth_take t i h = ap depth (take_more t i 0 h) ∙ depth_push (take i t) (get_or t i 0)
