-- Whether a held line is broken, by its white space.
use Rattle.std.proofs.Common.{◌≡◌, ℕ, zero, suc, ◌+◌, ◌-◌, ◌<◌, ◌≤◌, Bool, true, false, ◌||◌, not, cond, ltb, List, [], ◌∷◌, ◌++◌, length, get_or, take, drop, filter, Option, Some, None, length-append, length-drop, refl, sym, ap, ◌∙◌, arith}
use Rattle.std.specs.List.{last_or, list_any, position_or_len, range_with_len}
use Rattle.std.specs.Option.{is_some, option_or}
use Rattle.std.proofs.lemmas.Bool.{lt-leb, lt-ltb}
use Rattle.std.proofs.lemmas.Bool.Decides.{nat_tests}
use Rattle.std.proofs.lemmas.List.{drop-drop, drop_more, take-append-drop}
use Rattle.std.proofs.lemmas.List.Folds.{list_any-append}
use Rattle.bt_text.specs.LineBreaks.{break_place, near_break, run_end}
use Rattle.bt_text.specs.ByteTests.{is_white}

or_true : (a : Bool) → (a || true) ≡ true
or_true true = refl
or_true false = refl

or_false : (a : Bool) → (a || false) ≡ a
or_false true = refl
or_false false = refl

-- The last one that passes is there where one passes.
some_last : (test : ℕ → Bool) (o : Option ℕ) (xs : List ℕ) → is_some (last_or o (filter test xs)) ≡ (is_some o || list_any test xs)
some_last test o [] = sym (or_false (is_some o))
some_last test o (x ∷ xs) = by_test (test x) (some_last test (Some x) xs) (some_last test o xs)
  where
    by_test : (a : Bool) → is_some (last_or (Some x) (filter test xs)) ≡ true → is_some (last_or o (filter test xs)) ≡ (is_some o || list_any test xs) → is_some (last_or o (cond a (x ∷ filter test xs) (filter test xs))) ≡ (is_some o || (a || list_any test xs))
    by_test true here later = here ∙ sym (or_true (is_some o))
    by_test false here later = later

white_in_range : (t : List ℕ) (n i : ℕ) → i + n ≤ length t → list_any (λ k. is_white (get_or t k 0)) (range_with_len i n) ≡ list_any is_white (take n (drop i t))
white_in_range t zero i h = refl
white_in_range t (suc n) i h =
    let within : i < length t = omega arith in
    let more : i + 1 + n ≤ length t = omega arith in
    ap (λ b. is_white (get_or t i 0) || b) (white_in_range t n (i + 1) more) ∙ sym (ap (λ l. list_any is_white (take (suc n) l)) (drop_more t i 0 within))

near_in_range : (t : List ℕ) (n i : ℕ) → i + n ≤ length t → is_some (last_or None (filter (λ k. is_white (get_or t k 0)) (range_with_len i n))) ≡ list_any is_white (take n (drop i t))
near_in_range t n i h = some_last (λ k. is_white (get_or t k 0)) None (range_with_len i n) ∙ white_in_range t n i h

near_some : (t : List ℕ) → 79 < length t → is_some (near_break t) ≡ list_any is_white (take 77 (drop 3 t))
unfolding near_break
near_some t h = near_in_range t 77 3 (omega arith)

shifted : (a m n : ℕ) → ltb (a + m) (a + n) ≡ ltb m n
shifted a m n = grind (arith, nat_tests)

shifted_one : (m n : ℕ) → ltb (1 + m) (suc n) ≡ ltb m n
shifted_one m n = grind (arith, nat_tests)

first_some : (test : ℕ → Bool) (xs : List ℕ) → ltb (position_or_len test xs) (length xs) ≡ list_any test xs
first_some test [] = refl
first_some test (x ∷ xs) = by_test (test x) (first_some test xs)
  where
    by_test : (a : Bool) → ltb (position_or_len test xs) (length xs) ≡ list_any test xs → ltb (cond (not a) (1 + position_or_len test xs) 0) (suc (length xs)) ≡ (a || list_any test xs)
    by_test true h = lt-ltb 0 (suc (length xs)) (omega arith)
    by_test false h = shifted_one (position_or_len test xs) (length xs) ∙ h

some_cond : (a : Bool) (i : ℕ) → is_some (cond a (Some i) None) ≡ a
some_cond true i = refl
some_cond false i = refl

run_some : (t : List ℕ) → 79 < length t → is_some (run_end t 80) ≡ list_any is_white (drop 80 t)
run_some t h =
    let rest = drop 80 t in
    let start = 80 + position_or_len is_white rest in
    let all : length t ≡ 80 + length rest = omega (arith, length-drop 80 t) in
    some_cond (ltb start (length t)) _ ∙ ap (ltb start) all ∙ shifted 80 (position_or_len is_white rest) (length rest) ∙ first_some is_white rest

some_or_else : (o p : Option ℕ) → is_some (option_or o p) ≡ (is_some o || is_some p)
some_or_else (Some i) p = refl
some_or_else None p = refl

-- A text of more than 79 bytes is broken where it has white space after place 2.
pub broken_where : (t : List ℕ) → 79 < length t → is_some (break_place t) ≡ list_any is_white (drop 3 t)
broken_where t h =
    let near = take 77 (drop 3 t) in
    ap (λ b. is_some (cond b None (option_or (near_break t) (run_end t 80)))) (lt-leb (length t) 79 h) ∙ some_or_else (near_break t) (run_end t 80) ∙ ap (λ b. b || is_some (run_end t 80)) (near_some t h) ∙ ap (λ b. list_any is_white near || b) (run_some t h) ∙ ap (λ l. list_any is_white near || list_any is_white l) (sym (drop-drop 77 3 t)) ∙ sym (list_any-append is_white near (drop 77 (drop 3 t))) ∙ ap (list_any is_white) (take-append-drop 77 (drop 3 t))

-- So a long line that wasn't broken has none there.
pub none_white : (t : List ℕ) → break_place t ≡ None → 79 < length t → list_any is_white (drop 3 t) ≡ false
none_white t e h = sym (broken_where t h) ∙ ap is_some e

drop_both : (n : ℕ) (xs ys : List ℕ) → drop n (xs ++ ys) ≡ drop n xs ++ drop (n - length xs) ys
drop_both zero xs ys =
    let none : 0 ≡ 0 - length xs = omega arith in
    ap (λ k. xs ++ drop k ys) none
drop_both (suc n) [] ys =
    let all : suc n ≡ suc n - 0 = omega arith in
    ap (λ k. drop k ys) all
drop_both (suc n) (x ∷ xs) ys =
    let less : n - length xs ≡ suc n - suc (length xs) = omega arith in
    drop_both n xs ys ∙ ap (λ k. drop n xs ++ drop k ys) less

-- Two texts together are broken where one of them has white space after place 2.
pub written_where : (h t : List ℕ) → 79 < length h + length t → is_some (break_place (h ++ t)) ≡ (list_any is_white (drop 3 h) || list_any is_white (drop (3 - length h) t))
written_where h t long =
    let all : 79 < length (h ++ t) = omega (arith, length-append h t) in
    broken_where (h ++ t) all ∙ ap (list_any is_white) (drop_both 3 h t) ∙ list_any-append is_white (drop 3 h) (drop (3 - length h) t)
