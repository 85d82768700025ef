-- `as_utf8` by the chunks of a text.
use Rattle.std.proofs.Common.{◌≡◌, ℕ, zero, suc, ◌+◌, ◌<◌, ◌≤◌, List, [], ◌∷◌, ◌++◌, length, take, drop, refl, sym, ap, ◌∙◌, arith, ⊎_elim, append_assoc, append-nil, length-append, length-drop, cond, Bool, true, false, take_at, drop_at, eq-eqb, ne_eqb}
use Rattle.std.proofs.lemmas.Str.{utf8_valid_len_le}
use Rattle.std.proofs.lemmas.Bool.{cases_lt}
use Rattle.std.specs.Str.{encode_utf8_all}
use Rattle.std.specs.Option.{unwrap_or}
use Rattle.std.specs.Prelude.{nat_lt, ◌==◌, slice_index, Option, None, Some}
use Rattle.std.specs.Int.{is_in_range}
use Rattle.std.specs.Str.Lossy.{utf8_valid_len, second_byte_min, second_byte_max, error_len_after_two, error_len_after_one, error_len_of_some, utf8_error_len, utf8_invalid_len, after_first_chunk}
use Rattle.bt_shapes.specs.Text.{as_utf8_within, as_utf8}

cond_both : {A : Type 0} (P : A → Type 0) (b : Bool) (x y : A) → P x → P y → P (cond b x y)
cond_both P true x y p q = p
cond_both P false x y p q = q

-- where bytes stop being UTF-8, at least one byte is passed over
invalid_some : (bs : List ℕ) → 0 < length bs → 0 < utf8_invalid_len bs
unfolding utf8_error_len
invalid_some bs some =
    let P : Option ℕ → Type 0 = λ o. 0 < unwrap_or o (length bs) in
    let one : P (Some 1) = omega arith in
    let two : P (Some 2) = omega arith in
    let three : P (Some 3) = omega arith in
    let x = slice_index bs 0 in
    let third = is_in_range 0x80 0xBF (slice_index bs 2) in
    let after_three = cond_both P (nat_lt (length bs) 4) None (Some 3) some three in
    let after_two : P (error_len_after_two bs) =
    cond_both P (nat_lt (length bs) 3) None (cond third (cond (nat_lt (length bs) 4) None (Some 3)) (Some 2)) some
    (cond_both P third (cond (nat_lt (length bs) 4) None (Some 3)) (Some 2) after_three two) in
    let second = is_in_range (second_byte_min x) (second_byte_max x) (slice_index bs 1) in
    let after_one : P (error_len_after_one bs) =
    cond_both P (nat_lt (length bs) 2) None (cond second (error_len_after_two bs) (Some 1)) some
    (cond_both P second (error_len_after_two bs) (Some 1) after_two one) in
    cond_both P (length bs == 0) None (error_len_of_some bs) some (cond_both P (is_in_range 0xC2 0xF4 x) (error_len_after_one bs) (Some 1) after_one one)

length-after_first_chunk : (bs : List ℕ) → ¬ (utf8_valid_len bs ≡ length bs) → length (after_first_chunk bs) < length bs
length-after_first_chunk bs faulty =
    let n = utf8_valid_len bs in
    let within = utf8_valid_len_le bs in
    let invalid = invalid_some (drop n bs) (omega (arith, length-drop n bs)) in
    omega (arith, length-drop (n + utf8_invalid_len (drop n bs)) bs)

within_text : (k : ℕ) (bs : List ℕ) → utf8_valid_len bs ≡ length bs → as_utf8_within k bs ≡ bs
within_text zero bs whole = refl
within_text (suc k) bs whole = rw (eq-eqb _ _ whole)

-- what is shown of the bytes behind the text at the front
abbrev others : List ℕ → List ℕ
others bs = encode_utf8_all (take (utf8_invalid_len (drop (utf8_valid_len bs) bs)) (drop (utf8_valid_len bs) bs))

within_fault : (k : ℕ) (bs : List ℕ) → ¬ (utf8_valid_len bs ≡ length bs) →
    as_utf8_within (suc k) bs ≡ take (utf8_valid_len bs) bs ++ (others bs ++ as_utf8_within k (after_first_chunk bs))
within_fault k bs faulty = rw (ne_eqb _ _ faulty)

-- any bound from the length up gives the same text
within_any : (k j : ℕ) (bs : List ℕ) → length bs ≤ k → length bs ≤ j → as_utf8_within k bs ≡ as_utf8_within j bs
within_any zero j bs p q = let within = utf8_valid_len_le bs in sym (within_text j bs (omega arith))
within_any (suc k) zero bs p q = let within = utf8_valid_len_le bs in within_text (suc k) bs (omega arith)
within_any (suc k) (suc j) bs p q = let within = utf8_valid_len_le bs in ⊎_elim
    (λ (short : utf8_valid_len bs < length bs).
    let faulty : ¬ (utf8_valid_len bs ≡ length bs) = omega arith in
    let less = length-after_first_chunk bs faulty in
    within_fault k bs faulty
    ∙ ap (λ t. take (utf8_valid_len bs) bs ++ (others bs ++ t)) (within_any k j _ (omega arith) (omega arith))
    ∙ sym (within_fault j bs faulty))
    (λ (whole : length bs ≤ utf8_valid_len bs). within_text (suc k) bs (omega arith) ∙ sym (within_text (suc j) bs (omega arith)))
    (cases_lt (utf8_valid_len bs) (length bs))

as_utf8_step : (bs : List ℕ) → ¬ (utf8_valid_len bs ≡ length bs) →
    as_utf8 bs ≡ take (utf8_valid_len bs) bs ++ (others bs ++ as_utf8 (after_first_chunk bs))
unfolding as_utf8
as_utf8_step bs faulty =
    let less = length-after_first_chunk bs faulty in
    within_any (length bs) (suc (length bs)) bs (omega arith) (omega arith)
    ∙ within_fault (length bs) bs faulty
    ∙ ap (λ t. take (utf8_valid_len bs) bs ++ (others bs ++ t)) (within_any (length bs) (length (after_first_chunk bs)) (after_first_chunk bs) (omega arith) (omega arith))

nil_from_length : (xs : List ℕ) → length xs ≡ 0 → xs ≡ []
nil_from_length [] none = refl
nil_from_length (x ∷ xs) none = absurd (omega arith)

pub as_utf8_empty : (bs : List ℕ) → length bs ≡ 0 → as_utf8 bs ≡ []
unfolding as_utf8
as_utf8_empty bs none = ap as_utf8 (nil_from_length bs none)

faulty_chunk : (bs valid invalid rest : List ℕ) → bs ≡ valid ++ (invalid ++ rest) → length valid ≡ utf8_valid_len bs →
    length invalid ≡ utf8_invalid_len (drop (utf8_valid_len bs) bs) → 0 < length invalid →
    as_utf8 bs ≡ valid ++ (encode_utf8_all invalid ++ as_utf8 rest)
faulty_chunk bs valid invalid rest parts valid_len invalid_len some =
    let n = utf8_valid_len bs in
    let total = ap length parts ∙ length-append valid (invalid ++ rest) in
    let faulty : ¬ (n ≡ length bs) = omega (arith, length-append invalid rest) in
    let front : take n bs ≡ valid = ap (take n) parts ∙ take_at valid _ n valid_len in
    let behind : drop n bs ≡ invalid ++ rest = ap (drop n) parts ∙ drop_at valid _ n valid_len in
    let m = utf8_invalid_len (drop n bs) in
    let middle : take m (drop n bs) ≡ invalid = ap (take m) behind ∙ take_at invalid rest m invalid_len in
    let both_len : length (valid ++ invalid) ≡ n + m = omega (arith, length-append valid invalid) in
    let back : after_first_chunk bs ≡ rest = ap (drop (n + m)) (parts ∙ sym (append_assoc valid invalid rest)) ∙ drop_at _ rest _ both_len in
    as_utf8_step bs faulty ∙ (λ i. front i ++ (encode_utf8_all (middle i) ++ as_utf8 (back i)))

last_chunk : (bs valid invalid rest : List ℕ) → bs ≡ valid ++ (invalid ++ rest) → length valid ≡ utf8_valid_len bs →
    length invalid ≡ 0 → length rest ≡ 0 → as_utf8 bs ≡ valid ++ (encode_utf8_all invalid ++ as_utf8 rest)
unfolding as_utf8
last_chunk bs valid invalid rest parts valid_len no_invalid no_rest =
    let no_more = nil_from_length rest no_rest in
    let none = nil_from_length invalid no_invalid in
    let whole : bs ≡ valid ++ [] = parts ∙ (λ i. valid ++ (none i ++ no_more i)) in
    let long = ap length (whole ∙ append-nil valid) in
    within_text (length bs) bs (omega arith) ∙ whole ∙ sym (λ i. valid ++ (encode_utf8_all (none i) ++ as_utf8 (no_more i)))

-- the text at the front of these bytes, the letters of what is no text behind it, and the rest
pub as_utf8_chunk : (bs valid invalid rest : List ℕ) → bs ≡ valid ++ (invalid ++ rest) → length valid ≡ utf8_valid_len bs →
    length invalid ≡ utf8_invalid_len (drop (utf8_valid_len bs) bs) → (length invalid ≡ 0 → length rest ≡ 0) →
    as_utf8 bs ≡ valid ++ (encode_utf8_all invalid ++ as_utf8 rest)
as_utf8_chunk bs valid invalid rest parts valid_len invalid_len last = ⊎_elim
    (λ (some : 0 < length invalid). faulty_chunk bs valid invalid rest parts valid_len invalid_len some)
    (λ (none : length invalid ≤ 0). last_chunk bs valid invalid rest parts valid_len (omega arith) (last (omega arith)))
    (cases_lt 0 (length invalid))
