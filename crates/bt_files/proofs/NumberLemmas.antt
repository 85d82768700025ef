-- Names that stand for others: each has a number of its own.
use Rattle.std.proofs.Common.{◌≡◌, refl, sym, ap, ◌∙◌, ℕ, ◌<◌, ◌^◌, Bool, true, false, cond, List, [], ◌∷◌, ◌++◌, length, take, drop, take-append-drop}
use Rattle.std.specs.Prelude.{codes, decimal, eqb}
use Rattle.std.specs.List.{ends_with, prefix_len}
use Rattle.std.specs.Char.{is_ascii_digit}
use Rattle.std.specs.Bool.{IsTrue}
use Rattle.std.specs.Str.{all_ascii_digits, bytes_eq}
use Rattle.std.proofs.Math.Seq.{drop-append_seam, take-append_seam}
use Rattle.std.proofs.lemmas.List.Sums.{take_while-cons}
use Rattle.std.proofs.lemmas.Bool.{and_parts}
use Rattle.std.proofs.lemmas.Fmt.{decimal_injective, digits_decimal}
use Rattle.std.proofs.lemmas.Str.Parse.{IsNumeralModel, numerals_by_value, tells_all_ascii_digits}
use Rattle.std.specs.Str.Parse.{digits_value}
use Rattle.bt_job.proofs.NameLemmas.{same_bytes, name_itself}
use Rattle.bt_files.specs.Names.{ending_of, numbered}

pub own : IsNumeralModel (λ ds. all_ascii_digits ds ≡ true) (digits_value 10)
own = numerals_by_value (λ ds. all_ascii_digits ds ≡ true) tells_all_ascii_digits

-- decimals are digits
pub are_digits : (n : ℕ) → n < 2 ^ 64 → all_ascii_digits (decimal n) ≡ true
are_digits n h = digits_decimal own n h

-- the digits that a text begins with
abbrev pub front : List ℕ → List ℕ
front [] = []
front (c ∷ cs) = cond (is_ascii_digit c) (c ∷ front cs) []

pub front_of : (ds rest : List ℕ) → all_ascii_digits ds ≡ true → front rest ≡ [] → front (ds ++ rest) ≡ ds
front_of [] rest h k = k
front_of (d ∷ ds) rest h k =
    let parts : (is_ascii_digit d ≡ true) × (all_ascii_digits ds ≡ true) = and_parts (is_ascii_digit d) (all_ascii_digits ds) h in
    ap (λ b. cond b (d ∷ front (ds ++ rest)) []) parts.0 ∙ ap (λ (t : List ℕ). d ∷ t) (front_of ds rest parts.1 k)

-- what holds of each ending
pub by_ending : (P : List ℕ → Type 0) → P (codes ".aux") → P (codes ".bib") → P (codes ".bst") → P [] → (name : List ℕ) → P (ending_of name)
by_ending P aux bib bst none name = go (ends_with eqb name (codes ".aux")) (ends_with eqb name (codes ".bib")) (ends_with eqb name (codes ".bst"))
  where
    go : (a b c : Bool) → P (cond a (codes ".aux") (cond b (codes ".bib") (cond c (codes ".bst") [])))
    go true b c = aux
    go false true c = bib
    go false false true = bst
    go false false false = none

pub ending_front : (name : List ℕ) → front (ending_of name) ≡ []
ending_front name = by_ending (λ t. front t ≡ []) refl refl refl refl name

-- two names have one number if they are one
pub same_number : (m n : ℕ) (a b : List ℕ) → m < 2 ^ 64 → n < 2 ^ 64 → numbered m a ≡ numbered n b → m ≡ n
same_number m n a b hm hn e =
    let rests : decimal m ++ ending_of a ≡ decimal n ++ ending_of b = ap (drop 2) e in
    decimal_injective m n hm hn
    (sym (front_of (decimal m) (ending_of a) (are_digits m hm) (ending_front a)) ∙ ap front rests
    ∙ front_of (decimal n) (ending_of b) (are_digits n hn) (ending_front b))

-- Reading a number

front_is : (t : List ℕ) → take (prefix_len is_ascii_digit t) t ≡ front t
front_is [] = refl
front_is (c ∷ cs) = take_while-cons is_ascii_digit c cs ∙ ap (λ (t : List ℕ). cond (is_ascii_digit c) (c ∷ t) []) (front_is cs)

-- the digits after the first two bytes of a name that stands for another
pub number_digits : (n : ℕ) (author rest : List ℕ) → n < 2 ^ 64 → rest ≡ decimal n ++ ending_of author → take (prefix_len is_ascii_digit rest) rest ≡ decimal n
number_digits n author rest h is = front_is rest ∙ ap front is ∙ front_of (decimal n) (ending_of author) (are_digits n h) (ending_front author)

-- a text that another one begins
pub stripped : (s p rest : List ℕ) → bytes_eq (take (length p) s) p ≡ true → rest ≡ drop (length p) s → s ≡ p ++ rest
stripped s p rest h k =
    sym (take-append-drop (length p) s) ∙ ap (λ (t : List ℕ). t ++ drop (length p) s) (same_bytes (take (length p) s) p h) ∙ ap (λ (t : List ℕ). p ++ t) (sym k)

pub begins : (s p rest : List ℕ) → s ≡ p ++ rest → bytes_eq (take (length p) s) p ≡ true
begins s p rest is = ap (λ (t : List ℕ). bytes_eq t p) (ap (take (length p)) is ∙ take-append_seam p rest) ∙ name_itself p

-- a test of a name in pieces
pub in_pieces : (n : ℕ) (author session rest digits ending own_ending : List ℕ) (b : Bool) → digits ≡ decimal n → own_ending ≡ ending_of author
    → session ≡ 43 ∷ 47 ∷ rest → rest ≡ digits ++ ending → b ≡ bytes_eq ending own_ending
    → (IsTrue b → session ≡ numbered n author) × (session ≡ numbered n author → IsTrue b)
in_pieces n author session rest digits ending own_ending b are its is_session is_rest is_b = (
  (λ (h : b ≡ true).
      is_session ∙ ap (λ (t : List ℕ). 43 ∷ 47 ∷ t) (is_rest ∙ ap (λ (t : List ℕ). digits ++ t) (same_bytes ending own_ending (sym is_b ∙ h) ∙ its) ∙ ap (λ (t : List ℕ). t ++ ending_of author) are)),
  (λ (h : session ≡ numbered n author).
      let rests : digits ++ ending ≡ digits ++ ending_of author =
      sym is_rest ∙ ap (drop 2) (sym is_session ∙ h) ∙ ap (λ (t : List ℕ). t ++ ending_of author) (sym are) in
      let same : ending ≡ own_ending = sym (drop-append_seam digits ending) ∙ ap (drop (length digits)) rests ∙ drop-append_seam digits (ending_of author) ∙ sym its in
      is_b ∙ ap (λ (t : List ℕ). bytes_eq t own_ending) same ∙ name_itself own_ending),
)

pub not_in_pieces : (n : ℕ) (author session rest digits : List ℕ) → digits ≡ decimal n → session ≡ 43 ∷ 47 ∷ rest → bytes_eq (take (length digits) rest) digits ≡ false
    → (IsTrue false → session ≡ numbered n author) × (session ≡ numbered n author → IsTrue false)
not_in_pieces n author session rest digits are is_session not_begun = (
  (λ (h : false ≡ true). cc),
  (λ (h : session ≡ numbered n author).
      let is : rest ≡ digits ++ ending_of author = ap (drop 2) (sym is_session ∙ h) ∙ ap (λ (t : List ℕ). t ++ ending_of author) (sym are) in
      sym not_begun ∙ begins rest digits (ending_of author) is),
)
