-- Widths of runs.
use Rattle.std.proofs.Common.{◌≡◌, ℕ, ◌+◌, ◌-◌, ◌≤◌, Bool, true, false, cond, ltb, List, [], ◌∷◌, ◌++◌, get_or, take, drop, flat_map, sum_by, refl, sym, ap, ◌∙◌, arith}
use Rattle.std.proofs.lemmas.Grind.{flat_map-append}
use Rattle.std.proofs.lemmas.List.Sums.{sum_by-append, sum_by-cons}
use Rattle.bt_text.specs.Blocks.{begins_special, blocks}
use Rattle.bt_text.specs.Pieces.{block_pieces, pieces}
use Rattle.bt_text.specs.inner.Cases.{single}
use Rattle.bt_text.specs.Widths.{byte_width, piece_width, width_of, widths}
use Rattle.bt_text.proofs.WidthsLemmas.{block_width, width_single, widths_narrow}
use Rattle.bt_text.specs.inner.Runs.{alone}

pub narrow : (b : ℕ) → byte_width b ≤ 1028
narrow b = by_test (ltb b 32)
  where
    by_test : (x : Bool) → cond x 0 (get_or widths (b - 32) 0) ≤ 1028
    by_test true = omega arith
    by_test false = widths_narrow (b - 32)

pub group_width : (block : List ℕ) → begins_special block ≡ false → sum_by piece_width (block_pieces block) ≡ sum_by byte_width block
group_width block e = block_width block e

alone_width : (run : List ℕ) → sum_by piece_width (flat_map block_pieces (alone run)) ≡ sum_by byte_width run
alone_width [] = refl
alone_width (b ∷ run) =
    let rest = flat_map block_pieces (alone run) in
    sum_by-cons piece_width (single b) rest ∙ ap (λ n. n + sum_by piece_width rest) (width_single b) ∙ ap (λ n. byte_width b + n) (alone_width run) ∙ sym (sum_by-cons byte_width b run)

-- a run of bytes outside of groups, and what follows it
pub run_width : (t : List ℕ) (n : ℕ) → blocks t ≡ alone (take n t) ++ blocks (drop n t) → width_of t ≡ sum_by byte_width (take n t) + width_of (drop n t)
run_width t n first =
    ap (λ bs. sum_by piece_width (flat_map block_pieces bs)) first
    ∙ ap (sum_by piece_width) (flat_map-append block_pieces (alone (take n t)) (blocks (drop n t)))
    ∙ sum_by-append piece_width (flat_map block_pieces (alone (take n t))) (pieces (drop n t))
    ∙ ap (λ k. k + width_of (drop n t)) (alone_width (take n t))
