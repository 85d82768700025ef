-- The table of widths.
use Rattle.std.proofs.Common.{◌≡◌, ℕ, zero, suc, ◌≤◌, Bool, true, false, cond, ◌&&◌, leb, List, [], ◌∷◌, get_or, map, sum_by, refl, sym, ap, ◌∙◌, ◌+◌, arith}
use Rattle.std.proofs.lemmas.List.Sums.{sum_by-cons}
use Rattle.bt_text.specs.Blocks.{begins_special}
use Rattle.bt_text.specs.ByteTests.{is_brace}
use Rattle.bt_text.specs.Pieces.{brace, other, block_pieces}
use Rattle.bt_text.specs.inner.Cases.{single}
use Rattle.bt_text.specs.Special.{Symbol, control}
use Rattle.bt_text.specs.Widths.{byte_width, control_width, piece_width, symbol_width, widths}
use Rattle.std.specs.List.{list_all}
use Rattle.std.proofs.lemmas.Bool.{leb-true}
use Rattle.bt_text.proofs.PieceLemmas.{pieces_of_plain}

first_holds : (a b : Bool) → (a && b) ≡ true → a ≡ true
first_holds true b e = refl
first_holds false b e = e

others_hold : (a b : Bool) → (a && b) ≡ true → b ≡ true
others_hold true b e = e
others_hold false b e = cc

below_all : (m : ℕ) (xs : List ℕ) → list_all (λ x. leb x m) xs ≡ true → (i : ℕ) → get_or xs i 0 ≤ m
below_all m [] e i = omega arith
below_all m (x ∷ xs) e zero = leb-true x m (first_holds (leb x m) (list_all (λ x. leb x m) xs) e)
below_all m (x ∷ xs) e (suc i) = below_all m xs (others_hold (leb x m) (list_all (λ x. leb x m) xs) e) i

pub widths_narrow : (i : ℕ) → get_or widths i 0 ≤ 1028
unfolding widths
widths_narrow i = below_all 1028 widths refl i

-- outside special characters each byte has its own width
pub width_single : (b : ℕ) → piece_width (single b) ≡ byte_width b
width_single b = by_test (is_brace b)
  where
    by_test : (a : Bool) → piece_width (cond a (brace b) (other b)) ≡ byte_width b
    by_test true = refl
    by_test false = refl

pub width_plain : (t : List ℕ) → sum_by piece_width (map single t) ≡ sum_by byte_width t
width_plain [] = refl
width_plain (b ∷ t) = sum_by-cons piece_width (single b) (map single t) ∙ ap (λ n. n + sum_by piece_width (map single t)) (width_single b) ∙ ap (λ n. byte_width b + n) (width_plain t) ∙ sym (sum_by-cons byte_width b t)

pub block_width : (block : List ℕ) → begins_special block ≡ false → sum_by piece_width (block_pieces block) ≡ sum_by byte_width block
block_width block e = rw (pieces_of_plain block e, width_plain block) refl

-- the width of a control sequence, and of the symbols after it
pub width_control : (ss rest : List Symbol) (name gap : List ℕ) → ss ≡ control name gap ∷ rest → sum_by symbol_width ss ≡ control_width name + sum_by symbol_width rest
width_control ss rest name gap e = ap (sum_by symbol_width) e ∙ sum_by-cons symbol_width (control name gap) rest
