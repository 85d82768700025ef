-- The pieces up to a number of text characters.
use Rattle.std.proofs.Common.{◌≡◌, ℕ, zero, suc, ◌+◌, ◌-◌, Bool, true, false, cond, eqb, List, [], ◌∷◌, ◌++◌, length, take, drop, map, flat_map, count_by, append_assoc, refl, sym, ap, ◌∙◌, arith}
use Rattle.std.proofs.lemmas.Bool.{eqb-true}
use Rattle.std.proofs.lemmas.List.Sums.{sum_by-cons}
use Rattle.bt_text.specs.Blocks.{blocks}
use Rattle.bt_text.specs.Substrings.{first_characters}
use Rattle.bt_text.specs.Pieces.{Piece, bytes_of, is_character, pieces, block_pieces}
use Rattle.bt_text.specs.inner.Cases.{single}

pub first_none : (ps : List Piece) → first_characters 0 ps ≡ []
first_none [] = refl
first_none (p ∷ ps) = refl

-- over two lists of pieces
pub first_characters-append : (n : ℕ) (ps qs : List Piece) → first_characters n (ps ++ qs) ≡ first_characters n ps ++ first_characters (n - count_by is_character ps) qs
first_characters-append n [] qs =
    let all : n ≡ n - 0 = omega arith in
    ap (λ k. first_characters k qs) all
first_characters-append zero (p ∷ ps) qs =
    let none : 0 ≡ 0 - count_by is_character (p ∷ ps) = omega arith in
    sym (first_none qs) ∙ ap (λ k. first_characters k qs) none
first_characters-append (suc n) (p ∷ ps) qs =
    let few = count_by is_character ps in
    let counted = sum_by-cons (λ x. cond (is_character x) 1 0) p ps in
    by_test (is_character p) (first_characters-append n ps qs) (first_characters-append (suc n) ps qs) ∙ ap (λ k. (p ∷ first_characters (cond (is_character p) n (suc n)) ps) ++ first_characters (suc n - k) qs) (sym counted)
  where
    by_test : (b : Bool) → first_characters n (ps ++ qs) ≡ first_characters n ps ++ first_characters (n - count_by is_character ps) qs → first_characters (suc n) (ps ++ qs) ≡ first_characters (suc n) ps ++ first_characters (suc n - count_by is_character ps) qs → p ∷ first_characters (cond b n (suc n)) (ps ++ qs) ≡ (p ∷ first_characters (cond b n (suc n)) ps) ++ first_characters (suc n - (cond b 1 0 + count_by is_character ps)) qs
    by_test true e f =
        let same : n - count_by is_character ps ≡ suc n - (1 + count_by is_character ps) = omega arith in
        ap (λ l. p ∷ l) (e ∙ ap (λ k. first_characters n ps ++ first_characters k qs) same)
    by_test false e f =
        let same : suc n - count_by is_character ps ≡ suc n - (0 + count_by is_character ps) = omega arith in
        ap (λ l. p ∷ l) (f ∙ ap (λ k. first_characters (suc n) ps ++ first_characters k qs) same)

flat_map_bytes-append : (ps qs : List Piece) → flat_map bytes_of (ps ++ qs) ≡ flat_map bytes_of ps ++ flat_map bytes_of qs
flat_map_bytes-append [] qs = refl
flat_map_bytes-append (p ∷ ps) qs = ap (λ l. bytes_of p ++ l) (flat_map_bytes-append ps qs) ∙ sym (append_assoc (bytes_of p) (flat_map bytes_of ps) (flat_map bytes_of qs))

-- the bytes of the pieces up to a number of text characters
abbrev pub first_bytes : ℕ → List Piece → List ℕ
first_bytes n ps = flat_map bytes_of (first_characters n ps)

-- the step of a loop over the blocks
pub first_bytes_block : (out t new all : List ℕ) (k n left : ℕ) → blocks t ≡ take k t ∷ blocks (drop k t) → new ≡ first_bytes n (block_pieces (take k t)) → left ≡ n - count_by is_character (block_pieces (take k t)) → out ++ first_bytes n (pieces t) ≡ all → (out ++ new) ++ first_bytes left (pieces (drop k t)) ≡ all
first_bytes_block out t new all k n left e f g h =
    let ps = block_pieces (take k t) in
    let qs = pieces (drop k t) in
    let whole : first_bytes n (pieces t) ≡ first_bytes n ps ++ first_bytes (n - count_by is_character ps) qs = ap (λ bs. first_bytes n (flat_map block_pieces bs)) e ∙ ap (flat_map bytes_of) (first_characters-append n ps qs) ∙ flat_map_bytes-append (first_characters n ps) (first_characters (n - count_by is_character ps) qs) in
    append_assoc out new (first_bytes left qs) ∙ ap (λ l. out ++ (l ++ first_bytes left qs)) f ∙ ap (λ k. out ++ (first_bytes n ps ++ first_bytes k qs)) g ∙ ap (λ l. out ++ l) (sym whole) ∙ h

pub first_bytes_none : (t : List ℕ) → first_bytes 0 (map single t) ≡ []
first_bytes_none t = ap (flat_map bytes_of) (first_none (map single t))

pub first_bytes_zero : (ps : List Piece) → first_bytes 0 ps ≡ []
first_bytes_zero ps = ap (flat_map bytes_of) (first_none ps)

pub first_bytes_end : (n : ℕ) (t : List ℕ) → eqb (length t) 0 ≡ true → first_bytes n (pieces t) ≡ []
first_bytes_end n [] e = refl
first_bytes_end n (b ∷ t) e =
    let none = eqb-true (length (b ∷ t)) 0 e in
    absurd (omega arith)
