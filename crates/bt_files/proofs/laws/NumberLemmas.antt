-- The session admits each name that has a number.
use Rattle.std.proofs.Common.{◌≡◌, refl, ◌∙◌, ℕ, ◌+◌, ◌<◌, ◌≤◌, ◌^◌, Bool, true, false, List, [], ◌∷◌, ◌++◌, length, arith, length-append}
use Rattle.std.specs.Prelude.{decimal, ◌&&◌, ◌||◌, nat_le, ◌==◌}
use Rattle.std.specs.List.{list_all}
use Rattle.std.specs.Char.{is_ascii_digit}
use Rattle.std.specs.Str.{all_ascii_digits}
use Rattle.std.proofs.lemmas.Bool.{and_parts, and_from, le-leb}
use Rattle.std.proofs.lemmas.Fmt.{length-decimal-le}
use Rattle.std.proofs.lemmas.List.Folds.{list_all-append}
use Rattle.bt_job.specs.FileNames.{is_file_name, is_file_name_byte}
use Rattle.bt_files.specs.Names.{ending_of, numbered}
use Rattle.bt_files.proofs.NumberLemmas.{are_digits, by_ending}

ending_length : (name : List ℕ) → length (ending_of name) ≤ 4
ending_length name = by_ending (λ t. length t ≤ 4) (omega arith) (omega arith) (omega arith) (omega arith) name

ending_bytes : (name : List ℕ) → list_all is_file_name_byte (ending_of name) ≡ true
ending_bytes name = by_ending (λ t. list_all is_file_name_byte t ≡ true) refl refl refl refl name

-- a test among others
third : (a b c d e f g h : Bool) → c ≡ true → (a || b || c || d || e || f || g || h) ≡ true
third true b c d e f g h k = refl
third false true c d e f g h k = refl
third false false true d e f g h k = refl
third false false false d e f g h k = let wrong : false ≡ true = k in cc

digit_admitted : (c : ℕ) → is_ascii_digit c ≡ true → is_file_name_byte c ≡ true
digit_admitted c h = third (nat_le 65 c && nat_le c 90) (nat_le 97 c && nat_le c 122) (nat_le 48 c && nat_le c 57) (c == 46) (c == 45) (c == 95) (c == 43) (c == 47) h

digits_admitted : (ds : List ℕ) → all_ascii_digits ds ≡ true → list_all is_file_name_byte ds ≡ true
digits_admitted [] h = refl
digits_admitted (d ∷ ds) h =
    let parts : (is_ascii_digit d ≡ true) × (all_ascii_digits ds ≡ true) = and_parts (is_ascii_digit d) (all_ascii_digits ds) h in
    and_from _ _ (digit_admitted d parts.0) (digits_admitted ds parts.1)

bytes_admitted : (n : ℕ) (name : List ℕ) → n < 2 ^ 64 → list_all is_file_name_byte (decimal n ++ ending_of name) ≡ true
bytes_admitted n name h =
    list_all-append is_file_name_byte (decimal n) (ending_of name)
    ∙ and_from _ _ (digits_admitted (decimal n) (are_digits n h)) (ending_bytes name)

few_bytes : (n : ℕ) (name : List ℕ) → n < 2 ^ 64 → length (decimal n ++ ending_of name) ≤ 24
few_bytes n name h =
    omega (arith, length-append (decimal n) (ending_of name), ending_length name, length-decimal-le 20 n (omega arith) (omega arith) h)

-- the session admits it
pub numbered_admitted : (n : ℕ) (name : List ℕ) → n < 2 ^ 64 → is_file_name (numbered n name) ≡ true
numbered_admitted n name h =
    let few : length (decimal n ++ ending_of name) ≤ 24 = few_bytes n name h in
    let size : length (numbered n name) ≡ length (decimal n ++ ending_of name) + 2 = omega arith in
    and_from _ _ (and_from _ _ (le-leb 1 (length (numbered n name)) (omega arith)) (le-leb (length (numbered n name)) 64 (omega arith))) (bytes_admitted n name h)
