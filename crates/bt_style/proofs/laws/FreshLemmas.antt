-- A name that is none of a style's, since it is longer than all of them.
use Rattle.std.specs.Prelude.{bytes_eq, take}
use Rattle.std.specs.Cmp.Lexicographic.{bytes_decides}
use Rattle.std.specs.List.{list_all, before_first, position_or_len}
use Rattle.std.proofs.Common.{◌≡◌, ◌∙◌, ap, refl, ℕ, zero, suc, ◌+◌, ◌-◌, ◌<◌, Bool, true, false, List, [], ◌∷◌, ◌++◌, map, length, None, Ok, arith}
use Rattle.bt_text.specs.CaseFolding.{folded}
use Rattle.bt_text.specs.NameBytes.{is_name, is_name_byte}
use Rattle.bt_style.specs.Token.{Open, Close, Word, Front, ends_word, piece_at, tokens_after}
use Rattle.bt_style.specs.declared.builtin.Builtin.{Builtin}
use Rattle.bt_style.specs.Builtins.{name_of, table}
use Rattle.bt_style.specs.Program.{Program}
use Rattle.bt_style.specs.Names.{builtin_named, place_in, target_named, is_taken, macro_named, is_macro}
use Rattle.bt_style.specs.inner.Cases.{function_names, macro_names}
use Rattle.bt_style.specs.inner.Names.{builtin_among}
use Rattle.bt_style.specs.Declares.{new_name}
use Rattle.bt_style.specs.laws.Laws.{is_byte}
use Rattle.bt_style.proofs.SeekLemmas.{not_true}

-- so many letters
abbrev pub letters : ℕ → List ℕ
letters zero = []
letters (suc n) = 97 ∷ letters n

length_letters : (n : ℕ) → length (letters n) ≡ n
length_letters zero = refl
length_letters (suc n) = ap (λ k. suc k) (length_letters n)

pub folded_letters : (n : ℕ) → folded (letters n) ≡ letters n
folded_letters zero = refl
folded_letters (suc n) = ap (λ (l : List ℕ). 97 ∷ l) (folded_letters n)

all_letters : (n : ℕ) → list_all is_name_byte (letters n) ≡ true
all_letters zero = refl
all_letters (suc n) = all_letters n

pub letters_are_name : (n : ℕ) → is_name (letters (suc n)) ≡ true
letters_are_name n = all_letters n

pub letters_are_bytes : (n : ℕ) → list_all is_byte (letters n) ≡ true
letters_are_bytes zero = refl
letters_are_bytes (suc n) = letters_are_bytes n

-- The tokens of such a word before a right brace

position_letters : (n : ℕ) (behind : List ℕ) → position_or_len ends_word (letters n ++ 125 ∷ behind) ≡ n
position_letters zero behind = refl
position_letters (suc n) behind = (let one : 1 + n ≡ suc n = omega arith in ap (λ k. 1 + k) (position_letters n behind) ∙ one)

take_letters : (n : ℕ) (rest : List ℕ) → take n (letters n ++ rest) ≡ letters n
take_letters zero rest = refl
take_letters (suc n) rest = ap (λ (l : List ℕ). 97 ∷ l) (take_letters n rest)

before_letters : (n : ℕ) (behind : List ℕ) → before_first ends_word (letters n ++ 125 ∷ behind) ≡ letters n
before_letters n behind = ap (λ k. take k (letters n ++ 125 ∷ behind)) (position_letters n behind) ∙ take_letters n (125 ∷ behind)

covered : (n line : ℕ) (rest : List ℕ) → tokens_after n line (letters n ++ rest) ≡ tokens_after 0 line rest
unfolding tokens_after
covered zero line rest = refl
covered (suc n) line rest = covered n line rest

pub letters_spelled : (n line : ℕ) (behind : List ℕ) → tokens_after 0 line (letters (suc n) ++ 125 ∷ behind) ≡ Front (Word (letters (suc n))) line (tokens_after 0 line (125 ∷ behind))
unfolding tokens_after piece_at
letters_spelled n line behind =
    ap (λ (m : List ℕ). Front (Word (97 ∷ m)) line (tokens_after (1 + length m - 1) line (letters n ++ 125 ∷ behind))) (before_letters n behind)
    ∙ ap (λ k. Front (Word (97 ∷ letters n)) line (tokens_after k line (letters n ++ 125 ∷ behind))) (omega (arith, length_letters n))
    ∙ ap (Front (Word (97 ∷ letters n)) line) (covered n line (125 ∷ behind))

pub open_step : (line : ℕ) (behind : List ℕ) → tokens_after 0 line (123 ∷ behind) ≡ Front Open line (tokens_after 0 line behind)
unfolding tokens_after piece_at
open_step line behind = refl

pub close_step : (line : ℕ) (behind : List ℕ) → tokens_after 0 line (125 ∷ behind) ≡ Front Close line (tokens_after 0 line behind)
unfolding tokens_after piece_at
close_step line behind = refl

-- The names of a style

abbrev total : List (List ℕ) → ℕ
total [] = 0
total (name ∷ names) = length name + total names

unlike : (first name : List ℕ) → length first < length name → bytes_eq first name ≡ false
unlike first name lt = not_true (bytes_eq first name) (λ is. omega (arith, ap length ((bytes_decides first name).0 is)))

not_among : (names : List (List ℕ)) (name : List ℕ) → total names < length name → place_in names name ≡ None
not_among [] name lt = refl
not_among (first ∷ names) name lt = rw (unlike first name (omega arith), not_among names name (omega arith)) refl

not_builtin : (bs : List Builtin) (name : List ℕ) → total (map name_of bs) < length name → builtin_among bs name ≡ None
not_builtin [] name lt = refl
not_builtin (b ∷ bs) name lt = rw (unlike (name_of b) name (omega arith), not_builtin bs name (omega arith)) refl

-- more letters than all names have
abbrev pub size : Program → ℕ
size p =
    total (map name_of table) + total p.fields + total p.entry_numbers + total p.entry_texts + total p.global_numbers + total p.global_texts
    + total (function_names p) + total (macro_names p)

abbrev pub fresh : Program → List ℕ
fresh p = letters (suc (size p))

free_by : (p : Program) (name : List ℕ) → length name ≡ suc (size p) → is_taken p name ≡ false
unfolding target_named builtin_named
free_by p name is =
    rw (
      not_builtin table name (omega arith),
      not_among p.fields name (omega arith),
      not_among p.entry_numbers name (omega arith),
      not_among p.entry_texts name (omega arith),
      not_among p.global_numbers name (omega arith),
      not_among p.global_texts name (omega arith),
      not_among (function_names p) name (omega arith),
    ) refl

no_macro_by : (p : Program) (name : List ℕ) → length name ≡ suc (size p) → is_macro p name ≡ false
unfolding macro_named
no_macro_by p name is = rw (not_among (macro_names p) name (omega arith)) refl

pub fresh_is_free : (p : Program) → is_taken p (fresh p) ≡ false
fresh_is_free p = free_by p (fresh p) (length_letters (suc (size p)))

pub fresh_is_no_macro : (p : Program) → is_macro p (fresh p) ≡ false
fresh_is_no_macro p = no_macro_by p (fresh p) (length_letters (suc (size p)))

-- a free name may be declared
declared_by : (taken : List ℕ → Bool) (word : List ℕ) (line : ℕ) → is_name word ≡ true → folded word ≡ word → taken word ≡ false → new_name taken word line ≡ Ok word
declared_by taken word line is small free = rw (is, small, free) refl

pub fresh_declared : (taken : List ℕ → Bool) (p : Program) (line : ℕ) → taken (fresh p) ≡ false → new_name taken (fresh p) line ≡ Ok (fresh p)
fresh_declared taken p line free = declared_by taken (fresh p) line (letters_are_name (size p)) (folded_letters (suc (size p))) free
