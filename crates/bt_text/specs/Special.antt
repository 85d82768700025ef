-- What a special character consists of.
use Rattle.std.specs.Prelude.{ℕ, zero, suc, Bool, ◌||◌, ◌+◌, ◌==◌, if◌then◌else◌, List, [], ◌∷◌, length, take, drop, take_while, codes}
use Rattle.bt_text.specs.NameList.{is_among}
use Rattle.bt_text.specs.ByteTests.{backslash, is_brace, is_letter, is_white}

-- a control sequence by its name, with the white space directly after it, or a byte outside of these
pub data Symbol : Type 0 where
  control : (name gap : List ℕ) → Symbol
  plain : ℕ → Symbol

-- The name of the control sequence whose backslash stands before t: the longest run of letters;
-- without one, a byte that is no brace; else nothing.
abbrev pub control_name : List ℕ → List ℕ
control_name [] = []
control_name (b ∷ t) = if is_letter b then take_while is_letter (b ∷ t) else (if is_brace b then [] else b ∷ [])

-- the white space directly after that control sequence
abbrev pub control_gap : List ℕ → List ℕ
control_gap t = take_while is_white (drop (length (control_name t)) t)

-- the symbols of a text whose first n bytes belong to a symbol before it
abbrev pub symbols_from : ℕ → List ℕ → List Symbol
symbols_from n [] = []
symbols_from zero (b ∷ t) =
    (if b == backslash then control (control_name t) (control_gap t) else plain b)
    ∷ symbols_from (if b == backslash then length (control_name t) + length (control_gap t) else 0) t
symbols_from (suc n) (b ∷ t) = symbols_from n t

abbrev pub symbols : List ℕ → List Symbol
symbols t = symbols_from 0 t

-- The foreign letters: what these control sequences print is spelled by their whole name ..
abbrev pub two_letters : List (List ℕ)
two_letters = codes "oe" ∷ codes "OE" ∷ codes "ae" ∷ codes "AE" ∷ codes "ss" ∷ []

-- .. and what these print by their first letter.
abbrev pub one_letter : List (List ℕ)
one_letter = codes "i" ∷ codes "j" ∷ codes "o" ∷ codes "O" ∷ codes "l" ∷ codes "L" ∷ codes "aa" ∷ codes "AA" ∷ []

-- The foreign letters whose capitals are no control sequences.
abbrev pub without_large_form : List (List ℕ)
without_large_form = codes "i" ∷ codes "j" ∷ codes "ss" ∷ []

abbrev pub is_foreign : List ℕ → Bool
is_foreign name = is_among two_letters name || is_among one_letter name

-- the letters that stand for a control sequence when it is left out: nothing for one that isn't foreign
abbrev pub letters_of : List ℕ → List ℕ
letters_of name = if is_among two_letters name then name else (if is_among one_letter name then take 1 name else [])
