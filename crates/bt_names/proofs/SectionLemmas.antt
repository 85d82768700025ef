-- Sections of a name, and what stands behind their tokens.
use Rattle.std.proofs.Common.{◌≡◌, ◌≢◌, ◌⊎◌, inl, inr, ℕ, zero, suc, ◌+◌, ◌<◌, ◌≤◌, Bool, true, false, cond, eqb, ◌||◌, List, [], ◌∷◌, ◌++◌, length, get_or, take, drop, count_by, refl, sym, ap, ◌∙◌, arith, length-append}
use Rattle.std.specs.List.{prefix_len, onto_first}
use Rattle.std.proofs.lemmas.List.{drop-append-le, drop-drop, take-append-le, take-append-drop}
use Rattle.std.proofs.lemmas.List.Sums.{sum_by-cons}
use Rattle.std.proofs.lemmas.Bool.{true≢false, false≢true, cases_Bool, or_parts, not-true, ne_eqb}
use Rattle.std.proofs.lemmas.Bool.Decides.{nat_tests}
use Rattle.bt_text.specs.Blocks.{blocks}
use Rattle.bt_text.specs.ByteTests.{is_white}
use Rattle.bt_text.specs.Depth.{depth_after}
use Rattle.bt_text.proofs.BlockLemmas.{blocks_from, blocks_from_start}
use Rattle.bt_names.specs.declared.tokens.Token.{Token}
use Rattle.bt_names.specs.Cuts.{is_parting, runs, sign_of}
use Rattle.bt_names.specs.inner.Cases.{is_comma}
use Rattle.bt_names.specs.inner.Cuts.{begins_token, first_section, other_sections}
use Rattle.bt_names.proofs.CuttingLemmas.{other_sections_block, single_block, tokens_behind, tokens_end, tokens_step}

-- ---- the first block

pub single_first : (t : List ℕ) → 0 < length t → get_or t 0 0 ≢ 123 → blocks t ≡ take 1 t ∷ blocks (drop 1 t)
single_first [] some other = absurd (omega arith)
single_first (b ∷ t) some other = single_block b t (ne_eqb b 123 other)

-- ---- bytes between tokens

pub parting_low : (b : ℕ) → b < 65 → is_parting b ≡ (is_white b || eqb b 45)
parting_low b h = grind (arith, nat_tests)

pub parting_high : (b : ℕ) → 65 ≤ b → is_parting b ≡ eqb b 126
parting_high b h = grind (arith, nat_tests)

-- ---- commas

-- A comma at depth 0 is a comma.
commas_from : (d : ℕ) (t : List ℕ) → count_by is_comma (blocks_from d t) ≤ count_by (λ b. eqb b 44) t
commas_from d [] = omega arith
commas_from d (b ∷ t) =
    let e = depth_after d b in
    let one = sum_by-cons (λ x. cond {A = ℕ} (eqb x 44) 1 0) b t in
    let rest = blocks_from e t in
    let few = commas_from e t in
    by_depth (eqb e 0) rest (omega (arith, few)) one
  where
    joined : (bs : List (List ℕ)) (n all : ℕ) → count_by is_comma bs ≤ n → all ≡ cond {A = ℕ} (eqb b 44) 1 0 + n → count_by is_comma (onto_first b bs) ≤ all
    joined [] n all few one = omega (arith, one, sum_by-cons (λ x. cond {A = ℕ} (is_comma x) 1 0) (b ∷ []) [])
    joined ([] ∷ bs) n all few one = omega (arith, few, one, sum_by-cons (λ x. cond {A = ℕ} (is_comma x) 1 0) (b ∷ []) bs, sum_by-cons (λ x. cond {A = ℕ} (is_comma x) 1 0) [] bs)
    joined ((c ∷ block) ∷ bs) n all few one = omega (arith, few, one, sum_by-cons (λ x. cond {A = ℕ} (is_comma x) 1 0) (b ∷ c ∷ block) bs, sum_by-cons (λ x. cond {A = ℕ} (is_comma x) 1 0) (c ∷ block) bs)

    by_depth : (x : Bool) (bs : List (List ℕ)) → count_by is_comma bs ≤ count_by (λ b. eqb b 44) t → count_by (λ b. eqb b 44) (b ∷ t) ≡ cond {A = ℕ} (eqb b 44) 1 0 + count_by (λ b. eqb b 44) t → count_by is_comma (cond x ((b ∷ []) ∷ bs) (onto_first b bs)) ≤ count_by (λ b. eqb b 44) (b ∷ t)
    by_depth true bs few one = omega (arith, few, one, sum_by-cons (λ x. cond {A = ℕ} (is_comma x) 1 0) (b ∷ []) bs)
    by_depth false bs few one = joined bs (count_by (λ b. eqb b 44) t) (count_by (λ b. eqb b 44) (b ∷ t)) few one

pub commas_most : (t : List ℕ) → count_by is_comma (blocks t) ≤ count_by (λ b. eqb b 44) t
commas_most t = rw (blocks_from_start t) (commas_from 0 t)

-- ---- what stands behind a gap and a token

parting_no_brace : (b : ℕ) → is_parting b ≡ true → eqb b 123 ≡ false
parting_no_brace b h = ne_eqb b 123 (λ e. true≢false (sym h ∙ ap is_parting e))

parting_no_comma : (b : ℕ) → is_parting b ≡ true → eqb b 44 ≡ false
parting_no_comma b h = ne_eqb b 44 (λ e. true≢false (sym h ∙ ap is_parting e))

others_at : (t : List ℕ) → other_sections (drop (prefix_len is_parting t) t) ≡ other_sections t
others_at [] = refl
others_at (b ∷ t) = by_test (cases_Bool (is_parting b)) (others_at t)
  where
    by_test : (is_parting b ≡ true) ⊎ (is_parting b ≡ false) → other_sections (drop (prefix_len is_parting t) t) ≡ other_sections t → other_sections (drop (prefix_len is_parting (b ∷ t)) (b ∷ t)) ≡ other_sections (b ∷ t)
    by_test (inl e) ih =
        let k = prefix_len is_parting t in
        let one : 1 + k ≡ suc k = omega arith in
        let len = ap (λ (x : Bool). cond {A = ℕ} x (1 + k) 0) e ∙ one in
        ap (λ n. other_sections (drop n (b ∷ t))) len ∙ ih ∙ sym (other_sections_block (b ∷ t) (b ∷ []) t (single_block b t (parting_no_brace b e)) (parting_no_comma b e))
    by_test (inr e) ih =
        let k = prefix_len is_parting t in
        let len = ap (λ (x : Bool). cond {A = ℕ} x (1 + k) 0) e in
        ap (λ n. other_sections (drop n (b ∷ t))) len

pub others_behind_gap : (t : List ℕ) (k : ℕ) → k ≡ prefix_len is_parting t → other_sections (drop k t) ≡ other_sections t
others_behind_gap t k e = ap (λ n. other_sections (drop n t)) e ∙ others_at t

token_no_comma : (s : List ℕ) (n : ℕ) → begins_token s ≡ true → is_comma (take n s) ≡ false
token_no_comma [] n e = absurd (false≢true e)
token_no_comma (b ∷ s) zero e = refl
token_no_comma (b ∷ s) (suc n) e = of_one (take n s) (or_parts (is_parting b) (eqb b 44) (not-true (is_parting b || eqb b 44) e))
  where
    of_one : (u : List ℕ) → (is_parting b ≡ false) × (eqb b 44 ≡ false) → is_comma (b ∷ u) ≡ false
    of_one [] h = h.1
    of_one (c ∷ u) h = refl

-- the step of a loop over the blocks of a token
pub others_behind_block : (t : List ℕ) (i n : ℕ) (all : List (List (List ℕ))) → begins_token (drop i t) ≡ true → blocks (drop i t) ≡ take n (drop i t) ∷ blocks (drop n (drop i t)) → other_sections (drop i t) ≡ all → other_sections (drop (i + n) t) ≡ all
others_behind_block t i n all e first so_far =
    ap other_sections (sym (drop-drop n i t)) ∙ sym (other_sections_block (drop i t) (take n (drop i t)) (drop n (drop i t)) first (token_no_comma (drop i t) n e)) ∙ so_far

-- ---- the tokens found in a section

pub within_kept : (found : List Token) (start : ℕ) (w : Token) → start ≤ length found → start ≤ length (found ++ w ∷ [])
within_kept found start w within = omega (arith, within, length-append found (w ∷ []))

pub front_kept : (found old : List Token) (start : ℕ) (w : Token) → start ≤ length found → take start found ≡ old → take start (found ++ w ∷ []) ≡ old
front_kept found old start w within so_far = take-append-le start found (w ∷ []) within ∙ so_far

pub section_step : (found : List Token) (start lead before : ℕ) (t : List ℕ) (k m : ℕ) (all : List Token) → start ≤ length found → k ≡ prefix_len is_parting t → runs (first_section (drop k t)) ≡ record { gap = []; text = take m (drop k t) } ∷ runs (first_section (drop m (drop k t))) → before ≡ cond (eqb (length (drop start found)) 0) lead (sign_of (take k t)) → tokens_behind (drop start found) lead (runs (first_section t)) ≡ all → tokens_behind (drop start (found ++ record { text = take m (drop k t); before = before } ∷ [])) lead (runs (first_section (drop m (drop k t)))) ≡ all
section_step found start lead before t k m all within e f g h =
    ap (λ ws. tokens_behind ws lead (runs (first_section (drop m (drop k t))))) (drop-append-le start found (record { text = take m (drop k t); before = before } ∷ []) within) ∙ tokens_step (drop start found) lead before t k m all e f g h

pub section_end : (found old : List Token) (start lead : ℕ) (t : List ℕ) (k : ℕ) (all : List Token) → take start found ≡ old → k ≡ prefix_len is_parting t → begins_token (drop k t) ≡ false → tokens_behind (drop start found) lead (runs (first_section t)) ≡ all → found ≡ old ++ all
section_end found old start lead t k all front e none so_far =
    sym (take-append-drop start found) ∙ ap (λ ws. ws ++ drop start found) front ∙ ap (λ ws. old ++ ws) (tokens_end (drop start found) lead t k all e none so_far)
