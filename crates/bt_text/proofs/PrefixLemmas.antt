-- The first text characters of a text.
use Rattle.std.proofs.Common.{◌≡◌, ℕ, zero, suc, ◌-◌, ◌≤◌, List, [], ◌∷◌, ◌++◌, length, take, drop, map, append_assoc, sym, ap, ◌∙◌, arith}
use Rattle.std.proofs.lemmas.List.{length-take-le}
use Rattle.bt_text.specs.Pieces.{Piece, other, pieces}
use Rattle.bt_text.proofs.CuttingLemmas.{first_bytes}

-- Bytes that are text characters come first.
bare_first : (s : List ℕ) (n : ℕ) (ps : List Piece) → length s ≤ n → first_bytes n (map other s ++ ps) ≡ s ++ first_bytes (n - length s) ps
bare_first [] n ps le =
    let all : n ≡ n - 0 = omega arith in
    ap (λ k. first_bytes k ps) all
bare_first (b ∷ s) zero ps le = absurd (omega arith)
bare_first (b ∷ s) (suc n) ps le =
    let less : n - length s ≡ suc n - length (b ∷ s) = omega arith in
    ap (λ (l : List ℕ). b ∷ l) (bare_first s n ps (omega arith) ∙ ap (λ k. s ++ first_bytes k ps) less)

pub bare_taken : (t : List ℕ) (r n : ℕ) → r ≤ length t → r ≤ n → pieces t ≡ map other (take r t) ++ pieces (drop r t) → first_bytes n (pieces t) ≡ take r t ++ first_bytes (n - r) (pieces (drop r t))
bare_taken t r n within few cut =
    let len = length-take-le r t within in
    ap (first_bytes n) cut ∙ bare_first (take r t) n (pieces (drop r t)) (omega (arith, len)) ∙ ap (λ k. take r t ++ first_bytes (n - k) (pieces (drop r t))) len

-- the step of a loop that takes such bytes as a run
pub run_taken : (out t front back all : List ℕ) (n k left : ℕ) → front ≡ take k t → back ≡ drop k t → left ≡ n - k → first_bytes n (pieces t) ≡ take k t ++ first_bytes (n - k) (pieces (drop k t)) → out ++ first_bytes n (pieces t) ≡ all → (out ++ front) ++ first_bytes left (pieces back) ≡ all
run_taken out t front back all n k left is_front is_back is_left cut so_far =
    rw (is_front, is_back, is_left) (append_assoc out (take k t) (first_bytes (n - k) (pieces (drop k t))) ∙ ap (λ l. out ++ l) (sym cut) ∙ so_far)
