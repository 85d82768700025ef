-- Cutting a text into sections and tokens.
use Rattle.std.proofs.Common.{◌≡◌, ◌⊎◌, inl, inr, ℕ, zero, suc, ◌+◌, ◌<◌, ◌≤◌, Bool, true, false, cond, eqb, ◌||◌, List, [], ◌∷◌, ◌++◌, length, take, drop, map, append_assoc, append-nil, refl, sym, ap, ◌∙◌, arith, slice_index_or}
use Rattle.std.specs.List.{prefix_len, slice_split, onto_first}
use Rattle.std.proofs.Math.Dec.{eqb-suc-zero}
use Rattle.std.proofs.Math.Seq.{take-add}
use Rattle.std.proofs.lemmas.List.{drop-drop, length-take-le}
use Rattle.std.proofs.lemmas.List.Splits.{slice_split-cons_yes, slice_split-cons_no, length-slice_split}
use Rattle.std.proofs.lemmas.Bool.{true≢false, false≢true, cases_Bool, or_parts, not-true, not-false, eqb-true, ne_eqb}
use Rattle.bt_text.specs.Blocks.{blocks}
use Rattle.bt_text.proofs.BlockLemmas.{blocks_from_start}
use Rattle.bt_names.specs.declared.tokens.Token.{Token}
use Rattle.bt_names.specs.Cuts.{Run, is_single, onto_text, runs, sign_of, tokens, is_parting}
use Rattle.bt_names.specs.inner.Cases.{onto_gap, is_comma}
use Rattle.bt_names.specs.inner.Cuts.{sections_from, first_section, other_sections, begins_token}
use Rattle.bt_names.proofs.StrayLemmas.{single_from}

-- ---- sections

-- a byte that is no left brace is a block at depth 0
pub single_block : (b : ℕ) (t : List ℕ) → eqb b 123 ≡ false → blocks (b ∷ t) ≡ (b ∷ []) ∷ blocks t
single_block b t h = blocks_from_start (b ∷ t) ∙ single_from b t h ∙ ap (λ bs. (b ∷ []) ∷ bs) (sym (blocks_from_start t))

nonempty_is : {X : Type 0} (l : List (List X)) → 0 < length l → l ≡ slice_index_or l 0 [] ∷ drop 1 l
nonempty_is [] h = absurd (omega arith)
nonempty_is (x ∷ l) h = refl

pub sections_is : (t : List ℕ) → sections_from t ≡ first_section t ∷ other_sections t
sections_is t = nonempty_is (sections_from t) (omega (arith, length-slice_split is_comma (blocks t)))

-- where the first block is no comma
sections_block : (t block u : List ℕ) → blocks t ≡ block ∷ blocks u → is_comma block ≡ false → sections_from t ≡ (block ∷ first_section u) ∷ other_sections u
sections_block t block u e h = ap (slice_split is_comma) e ∙ slice_split-cons_no is_comma block (blocks u) h ∙ ap (onto_first block) (sections_is u)

pub first_section_block : (t block u : List ℕ) → blocks t ≡ block ∷ blocks u → is_comma block ≡ false → first_section t ≡ block ∷ first_section u
first_section_block t block u e h = ap (λ l. slice_index_or l 0 []) (sections_block t block u e h)

pub other_sections_block : (t block u : List ℕ) → blocks t ≡ block ∷ blocks u → is_comma block ≡ false → other_sections t ≡ other_sections u
other_sections_block t block u e h = ap (drop 1) (sections_block t block u e h)

sections_comma : (t block u : List ℕ) → blocks t ≡ block ∷ blocks u → is_comma block ≡ true → sections_from t ≡ [] ∷ sections_from u
sections_comma t block u e h = ap (slice_split is_comma) e ∙ slice_split-cons_yes is_comma block (blocks u) h

pub first_section_comma : (t block u : List ℕ) → blocks t ≡ block ∷ blocks u → is_comma block ≡ true → first_section t ≡ []
first_section_comma t block u e h = ap (λ l. slice_index_or l 0 []) (sections_comma t block u e h)

-- ---- runs

-- a run, of which the first bytes are given
abbrev pub onto_run : List ℕ → List Run → List Run
onto_run [] rs = rs
onto_run (b ∷ u) rs = onto_text (b ∷ u) rs

-- the tokens found, and those of the runs after them
abbrev pub tokens_behind : List Token → ℕ → List Run → List Token
tokens_behind [] lead rs = tokens lead rs
tokens_behind (w ∷ ws) lead rs = (w ∷ ws) ++ map (λ s. record { text = s.text; before = sign_of s.gap }) rs

onto_gap_none : (rs : List Run) → onto_gap [] rs ≡ rs
onto_gap_none [] = refl
onto_gap_none (r ∷ rs) = refl

onto_gap_more : (b : ℕ) (gap : List ℕ) (rs : List Run) → onto_gap (b ∷ []) (onto_gap gap rs) ≡ onto_gap (b ∷ gap) rs
onto_gap_more b gap [] = refl
onto_gap_more b gap (r ∷ rs) = refl

parting_no_brace : (b : ℕ) → is_parting b ≡ true → eqb b 123 ≡ false
parting_no_brace b h = ne_eqb b 123 (λ e. true≢false (sym h ∙ ap is_parting e))

parting_no_comma : (b : ℕ) → is_parting b ≡ true → eqb b 44 ≡ false
parting_no_comma b h = ne_eqb b 44 (λ e. true≢false (sym h ∙ ap is_parting e))

runs_parting : (b : ℕ) (t : List ℕ) → is_parting b ≡ true → runs (first_section (b ∷ t)) ≡ onto_gap (b ∷ []) (runs (first_section t))
runs_parting b t h =
    let rest = runs (first_section t) in
    ap runs (first_section_block (b ∷ t) (b ∷ []) t (single_block b t (parting_no_brace b h)) (parting_no_comma b h)) ∙ ap (λ x. cond x (onto_gap (b ∷ []) rest) (onto_text (b ∷ []) rest)) h

-- the runs after a gap of n bytes
abbrev runs_behind : List ℕ → ℕ → List Run
runs_behind t n = onto_gap (take n t) (runs (first_section (drop n t)))

gap_at : (t : List ℕ) → runs (first_section t) ≡ runs_behind t (prefix_len is_parting t)
gap_at [] = refl
gap_at (b ∷ t) = by_test (cases_Bool (is_parting b)) (gap_at t)
  where
    by_test : (is_parting b ≡ true) ⊎ (is_parting b ≡ false) → runs (first_section t) ≡ runs_behind t (prefix_len is_parting t) → runs (first_section (b ∷ t)) ≡ runs_behind (b ∷ t) (prefix_len is_parting (b ∷ t))
    by_test (inl e) ih =
        let k = prefix_len is_parting t in
        let one : 1 + k ≡ suc k = omega arith in
        let len = ap (λ (x : Bool). cond {A = ℕ} x (1 + k) 0) e ∙ one in
        runs_parting b t e ∙ ap (onto_gap (b ∷ [])) ih ∙ onto_gap_more b (take k t) (runs (first_section (drop k t))) ∙ ap (runs_behind (b ∷ t)) (sym len)
    by_test (inr e) ih =
        let k = prefix_len is_parting t in
        let len = ap (λ (x : Bool). cond {A = ℕ} x (1 + k) 0) e in
        sym (onto_gap_none (runs (first_section (b ∷ t)))) ∙ ap (runs_behind (b ∷ t)) (sym len)

pub gap_law : (t : List ℕ) (k : ℕ) → k ≡ prefix_len is_parting t → runs (first_section t) ≡ onto_gap (take k t) (runs (first_section (drop k t)))
gap_law t k e = gap_at t ∙ ap (runs_behind t) (sym e)

token_comma : (b : ℕ) (t : List ℕ) → is_parting b ≡ false → begins_token (b ∷ t) ≡ false → first_section (b ∷ t) ≡ []
token_comma b t h e =
    let comma_here : eqb b 44 ≡ true = sym (ap (λ x. x || eqb b 44) h) ∙ not-false (is_parting b || eqb b 44) e in
    first_section_comma (b ∷ t) (b ∷ []) t (single_block b t (ap (λ x. eqb x 123) (eqb-true b 44 comma_here))) comma_here

-- Where no token follows the gap, there is none.
gap_at_end : (t : List ℕ) → begins_token (drop (prefix_len is_parting t) t) ≡ false → runs (first_section t) ≡ []
gap_at_end [] h = refl
gap_at_end (b ∷ t) h = by_test (cases_Bool (is_parting b)) (gap_at_end t)
  where
    by_test : (is_parting b ≡ true) ⊎ (is_parting b ≡ false) → (begins_token (drop (prefix_len is_parting t) t) ≡ false → runs (first_section t) ≡ []) → runs (first_section (b ∷ t)) ≡ []
    by_test (inl e) ih =
        let k = prefix_len is_parting t in
        let one : 1 + k ≡ suc k = omega arith in
        let len = ap (λ (x : Bool). cond {A = ℕ} x (1 + k) 0) e ∙ one in
        runs_parting b t e ∙ ap (onto_gap (b ∷ [])) (ih (sym (ap (λ n. begins_token (drop n (b ∷ t))) len) ∙ h))
    by_test (inr e) ih =
        let k = prefix_len is_parting t in
        let len = ap (λ (x : Bool). cond {A = ℕ} x (1 + k) 0) e in
        ap runs (token_comma b t e (sym (ap (λ n. begins_token (drop n (b ∷ t))) len) ∙ h))

pub gap_end : (t : List ℕ) (k : ℕ) → k ≡ prefix_len is_parting t → begins_token (drop k t) ≡ false → runs (first_section t) ≡ []
gap_end t k e h = gap_at_end t (sym (ap (λ n. begins_token (drop n t)) e) ∙ h)

-- ---- one token

single_false : (test : ℕ → Bool) (b : ℕ) (t : List ℕ) → test b ≡ false → is_single test (b ∷ t) ≡ false
single_false test b [] h = h
single_false test b (c ∷ t) h = refl

onto_text_text : (u v : List ℕ) (rs : List Run) → onto_text u (onto_text v rs) ≡ onto_text (u ++ v) rs
onto_text_text u v [] = refl
onto_text_text u v (r ∷ rs) = by_test (eqb (length r.gap) 0)
  where
    by_test : (x : Bool) → onto_text u (cond x (record { gap = []; text = v ++ r.text } ∷ rs) (record { gap = []; text = v } ∷ r ∷ rs)) ≡ cond x (record { gap = []; text = (u ++ v) ++ r.text } ∷ rs) (record { gap = []; text = u ++ v } ∷ r ∷ rs)
    by_test true = ap (λ (s : List ℕ). let run : Run = record { gap = []; text = s } in run ∷ rs) (sym (append_assoc u v r.text))
    by_test false = refl

onto_run_text : (u : List ℕ) (c : ℕ) (v : List ℕ) (rs : List Run) → onto_run u (onto_text (c ∷ v) rs) ≡ onto_run (u ++ c ∷ v) rs
onto_run_text [] c v rs = refl
onto_run_text (b ∷ u) c v rs = onto_text_text (b ∷ u) (c ∷ v) rs

runs_token : (s : List ℕ) (n : ℕ) → 0 < n → begins_token s ≡ true → blocks s ≡ take n s ∷ blocks (drop n s) → (u : List ℕ) → onto_run u (runs (first_section s)) ≡ onto_run (u ++ take n s) (runs (first_section (drop n s)))
runs_token [] n h e f u = absurd (false≢true e)
runs_token (b ∷ s) zero h e f u = absurd (omega arith)
runs_token (b ∷ s) (suc n) h e f u =
    let plain = or_parts (is_parting b) (eqb b 44) (not-true (is_parting b || eqb b 44) e) in
    let block = b ∷ take n s in
    let rest = runs (first_section (drop n s)) in
    let first = first_section_block (b ∷ s) block (drop n s) f (single_false (λ c. eqb c 44) b (take n s) plain.1) in
    let text = ap (λ x. cond x (onto_gap block rest) (onto_text block rest)) (single_false is_parting b (take n s) plain.0) in
    ap (onto_run u) (ap runs first ∙ text) ∙ onto_run_text u b (take n s) rest

-- the step of a loop over the blocks of a token
pub token_more : (t : List ℕ) (i n : ℕ) (all : List Run) → 0 < n → begins_token (drop i t) ≡ true → blocks (drop i t) ≡ take n (drop i t) ∷ blocks (drop n (drop i t)) → onto_run (take i t) (runs (first_section (drop i t))) ≡ all → onto_run (take (i + n) t) (runs (first_section (drop (i + n) t))) ≡ all
token_more t i n all h e f g = ap (λ u. onto_run u (runs (first_section (drop (i + n) t)))) (take-add i n t) ∙ ap (λ s. onto_run (take i t ++ take n (drop i t)) (runs (first_section s))) (sym (drop-drop n i t)) ∙ sym (runs_token (drop i t) n h e f (take i t)) ∙ g

gap_text : (u : List ℕ) (c : ℕ) (rs : List Run) → onto_text u (onto_gap (c ∷ []) rs) ≡ record { gap = []; text = u } ∷ onto_gap (c ∷ []) rs
gap_text u c [] = refl
gap_text u c (r ∷ rs) = rw eqb-suc-zero refl

-- A token ends where none begins.
pub token_end : (u s : List ℕ) → 0 < length u → begins_token s ≡ false → onto_run u (runs (first_section s)) ≡ record { gap = []; text = u } ∷ runs (first_section s)
token_end [] s h e = absurd (omega arith)
token_end (b ∷ u) [] h e = refl
token_end (b ∷ u) (c ∷ s) h e = by_test (cases_Bool (is_parting c))
  where
    by_test : (is_parting c ≡ true) ⊎ (is_parting c ≡ false) → onto_text (b ∷ u) (runs (first_section (c ∷ s))) ≡ record { gap = []; text = b ∷ u } ∷ runs (first_section (c ∷ s))
    by_test (inl g) = ap (onto_text (b ∷ u)) (runs_parting c s g) ∙ gap_text (b ∷ u) c (runs (first_section s)) ∙ ap (λ rs. record { gap = []; text = b ∷ u } ∷ rs) (sym (runs_parting c s g))
    by_test (inr g) =
        let none = token_comma c s g e in
        ap (λ bs. onto_text (b ∷ u) (runs bs)) none ∙ ap (λ bs. record { gap = []; text = b ∷ u } ∷ runs bs) (sym none)

pub token_found : (t : List ℕ) (n : ℕ) → begins_token t ≡ true → n ≤ length t → begins_token (drop n t) ≡ false → onto_run (take n t) (runs (first_section (drop n t))) ≡ runs (first_section t) → runs (first_section t) ≡ record { gap = []; text = take n t } ∷ runs (first_section (drop n t))
token_found t zero e h f g = absurd (true≢false (sym e ∙ f))
token_found t (suc n) e h f g =
    let len = length-take-le (suc n) t h in
    sym g ∙ token_end (take (suc n) t) (drop (suc n) t) (omega (arith, len)) f

-- ---- the tokens found

tokens_more : (out : List Token) (lead before : ℕ) (gap text : List ℕ) (rs : List Run) → before ≡ cond (eqb (length out) 0) lead (sign_of gap) → tokens_behind out lead (onto_gap gap (record { gap = []; text = text } ∷ rs)) ≡ tokens_behind (out ++ record { text = text; before = before } ∷ []) lead rs
tokens_more [] lead before gap text rs e = ap (λ (b : ℕ). let w : Token = record { text = text; before = b } in w ∷ map (λ s. record { text = s.text; before = sign_of s.gap }) rs) (sym e)
tokens_more (w ∷ ws) lead before gap text rs e =
    let others : List Token = map (λ s. record { text = s.text; before = sign_of s.gap }) rs in
    let sign : sign_of (gap ++ []) ≡ before = ap sign_of (append-nil gap) ∙ sym (e ∙ rw eqb-suc-zero refl) in
    ap (λ (b : ℕ). let v : Token = record { text = text; before = b } in (w ∷ ws) ++ (v ∷ others)) sign ∙ ap (λ l. w ∷ l) (sym (append_assoc ws (record { text = text; before = before } ∷ []) others))

-- the step of a loop over the tokens
pub tokens_step : (out : List Token) (lead before : ℕ) (t : List ℕ) (k m : ℕ) (all : List Token) → k ≡ prefix_len is_parting t → runs (first_section (drop k t)) ≡ record { gap = []; text = take m (drop k t) } ∷ runs (first_section (drop m (drop k t))) → before ≡ cond (eqb (length out) 0) lead (sign_of (take k t)) → tokens_behind out lead (runs (first_section t)) ≡ all → tokens_behind (out ++ record { text = take m (drop k t); before = before } ∷ []) lead (runs (first_section (drop m (drop k t)))) ≡ all
tokens_step out lead before t k m all e f g h =
    sym (tokens_more out lead before (take k t) (take m (drop k t)) (runs (first_section (drop m (drop k t)))) g) ∙ ap (λ rs. tokens_behind out lead (onto_gap (take k t) rs)) (sym f) ∙ ap (tokens_behind out lead) (sym (gap_law t k e)) ∙ h

tokens_none : (out : List Token) (lead : ℕ) → tokens_behind out lead [] ≡ out
tokens_none [] lead = refl
tokens_none (w ∷ ws) lead = append-nil (w ∷ ws)

pub tokens_end : (out : List Token) (lead : ℕ) (t : List ℕ) (k : ℕ) (all : List Token) → k ≡ prefix_len is_parting t → begins_token (drop k t) ≡ false → tokens_behind out lead (runs (first_section t)) ≡ all → out ≡ all
tokens_end out lead t k all e h g = sym (tokens_none out lead) ∙ ap (tokens_behind out lead) (sym (gap_end t k e h)) ∙ g
