-- A text that grows has no fewer text characters.
use Rattle.std.proofs.Common.{◌≡◌, ◌⊎◌, inl, inr, ℕ, zero, suc, ◌+◌, ◌≤◌, Bool, true, false, cond, eqb, ◌||◌, ◌&&◌, List, [], ◌∷◌, ◌++◌, map, flat_map, count_by, append_assoc, append-nil, refl, sym, ap, ◌∙◌, arith}
use Rattle.std.specs.List.{fold, onto_first}
use Rattle.std.proofs.Math.Dec.{eqb-suc-zero}
use Rattle.std.proofs.lemmas.List.{map-append}
use Rattle.std.proofs.lemmas.List.Concat.{flat_map-append}
use Rattle.std.proofs.lemmas.List.Sums.{sum_by-append}
use Rattle.std.proofs.lemmas.Bool.{cases_Bool}
use Rattle.bt_text.specs.Blocks.{begins_special}
use Rattle.bt_text.specs.Depth.{depth_after}
use Rattle.bt_text.specs.Pieces.{Piece, block_pieces, brace, other, special, is_character}
use Rattle.bt_text.specs.inner.Cases.{single}
use Rattle.bt_text.specs.Length.{text_length_of}
use Rattle.bt_text.proofs.BlockLemmas.{blocks_from, blocks_from_first, blocks_from_start}

abbrev onto_last : ℕ → List (List ℕ) → List (List ℕ)
onto_last b [] = (b ∷ []) ∷ []
onto_last b (x ∷ []) = (x ++ b ∷ []) ∷ []
onto_last b (x ∷ y ∷ r) = x ∷ onto_last b (y ∷ r)

-- the blocks of a text with one more byte, where the depth before it is 0 or not
abbrev pushed : Bool → ℕ → List (List ℕ) → List (List ℕ)
pushed true b bs = bs ++ (b ∷ []) ∷ []
pushed false b bs = onto_last b bs

blocks_one : (d b : ℕ) → blocks_from d (b ∷ []) ≡ (b ∷ []) ∷ []
blocks_one d b = by_test (eqb (depth_after d b) 0)
  where
    by_test : (x : Bool) → cond x ((b ∷ []) ∷ []) ((b ∷ []) ∷ []) ≡ (b ∷ []) ∷ []
    by_test true = refl
    by_test false = refl

push_none : (x : Bool) (b : ℕ) → pushed x b [] ≡ (b ∷ []) ∷ []
push_none true b = refl
push_none false b = refl

-- at depth e after the byte c
abbrev first_with : ℕ → ℕ → List (List ℕ) → List (List ℕ)
first_with e c bs = cond (eqb e 0) ((c ∷ []) ∷ bs) (onto_first c bs)

push_one : (e c b : ℕ) → first_with e c ((b ∷ []) ∷ []) ≡ pushed (eqb e 0) b (first_with e c [])
push_one zero c b = refl
push_one (suc e) c b = rw eqb-suc-zero refl

push_more : (e c b : ℕ) (x : Bool) (s : List ℕ) (bs : List (List ℕ)) → first_with e c (pushed x b (s ∷ bs)) ≡ pushed x b (first_with e c (s ∷ bs))
push_more zero c b true s bs = refl
push_more zero c b false s bs = refl
push_more (suc e) c b true s bs = rw eqb-suc-zero refl
push_more (suc e) c b false s [] = rw eqb-suc-zero refl
push_more (suc e) c b false s (t ∷ bs) = rw eqb-suc-zero refl

blocks_push_from : (d : ℕ) (t : List ℕ) (b : ℕ) → blocks_from d (t ++ b ∷ []) ≡ pushed (eqb (fold depth_after d t) 0) b (blocks_from d t)
blocks_push_from d [] b = blocks_one d b ∙ sym (push_none (eqb d 0) b)
blocks_push_from d (c ∷ []) b =
    let e = depth_after d c in
    ap (first_with e c) (blocks_one e b) ∙ push_one e c b
blocks_push_from d (c ∷ a ∷ t) b =
    let e = depth_after d c in
    let x = eqb (fold depth_after e (a ∷ t)) 0 in
    let first = blocks_from_first e a t in
    ap (first_with e c) (blocks_push_from e (a ∷ t) b ∙ ap (pushed x b) first) ∙ push_more e c b x _ _ ∙ ap (λ bs. pushed x b (first_with e c bs)) (sym first)

abbrev characters : List Piece → ℕ
characters ps = count_by is_character ps

characters-append : (ps qs : List Piece) → characters (ps ++ qs) ≡ characters ps + characters qs
characters-append ps qs = sum_by-append (λ x. cond {A = ℕ} (is_character x) 1 0) ps qs

block_more : (s : List ℕ) (b : ℕ) → characters (block_pieces s) ≤ characters (block_pieces (s ++ b ∷ []))
block_more [] b = omega arith
block_more (a ∷ []) b = by_brace (cases_Bool (eqb a 123))
  where
    by_brace : (eqb a 123 ≡ true) ⊎ (eqb a 123 ≡ false) → characters (block_pieces (a ∷ [])) ≤ characters (block_pieces (a ∷ b ∷ []))
    by_brace (inl e) =
        let none = ap (λ (x : Bool). cond {A = ℕ} (is_character (cond (x || eqb a 125) (brace a) (other a))) 1 0) e in
        omega (arith, none)
    by_brace (inr e) =
        let plain = ap (λ (x : Bool). characters (cond (x && eqb b 92) (special (a ∷ b ∷ []) ∷ []) (map single (a ∷ b ∷ [])))) e in
        omega (arith, plain, characters-append (single a ∷ []) (single b ∷ []))
block_more (a ∷ c ∷ s) b = by_test (begins_special (a ∷ c ∷ s))
  where
    by_test : (x : Bool) → characters (cond x (special (a ∷ c ∷ s) ∷ []) (map single (a ∷ c ∷ s))) ≤ characters (cond x (special ((a ∷ c ∷ s) ++ b ∷ []) ∷ []) (map single ((a ∷ c ∷ s) ++ b ∷ [])))
    by_test true = omega arith
    by_test false = omega (arith, ap characters (map-append single (a ∷ c ∷ s) (b ∷ [])), characters-append (map single (a ∷ c ∷ s)) (map single (b ∷ [])))

abbrev all_characters : List (List ℕ) → ℕ
all_characters bs = characters (flat_map block_pieces bs)

last_more : (b : ℕ) (bs : List (List ℕ)) → all_characters bs ≤ all_characters (onto_last b bs)
last_more b [] = omega arith
last_more b (s ∷ []) = omega (arith, block_more s b, characters-append (block_pieces s) [], characters-append (block_pieces (s ++ b ∷ [])) [])
last_more b (s ∷ t ∷ bs) = omega (arith, last_more b (t ∷ bs), characters-append (block_pieces s) (flat_map block_pieces (t ∷ bs)), characters-append (block_pieces s) (flat_map block_pieces (onto_last b (t ∷ bs))))

pushed_more : (x : Bool) (b : ℕ) (bs : List (List ℕ)) → all_characters bs ≤ all_characters (pushed x b bs)
pushed_more true b bs = omega (arith, ap characters (flat_map-append block_pieces bs ((b ∷ []) ∷ [])), characters-append (flat_map block_pieces bs) (flat_map block_pieces ((b ∷ []) ∷ [])))
pushed_more false b bs = last_more b bs

pub text_length_push : (t : List ℕ) (b : ℕ) → text_length_of t ≤ text_length_of (t ++ b ∷ [])
text_length_push t b =
    let x = eqb (fold depth_after 0 t) 0 in
    let before = ap all_characters (blocks_from_start t) in
    let behind = ap all_characters (blocks_from_start (t ++ b ∷ []) ∙ blocks_push_from 0 t b) in
    omega (arith, before, behind, pushed_more x b (blocks_from 0 t))

pub text_length_more : (t u : List ℕ) → text_length_of t ≤ text_length_of (t ++ u)
text_length_more t [] = omega (arith, ap text_length_of (append-nil t))
text_length_more t (b ∷ u) = omega (arith, text_length_push t b, text_length_more (t ++ b ∷ []) u, ap text_length_of (append_assoc t (b ∷ []) u))
