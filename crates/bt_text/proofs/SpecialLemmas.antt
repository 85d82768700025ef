-- Control sequences and symbols.
use Rattle.std.proofs.Common.{◌≡◌, ℕ, zero, suc, ◌+◌, ◌<◌, ◌≤◌, true, List, [], ◌∷◌, ◌++◌, length, get_or, take, drop, flat_map, append_assoc, refl, sym, ap, ◌∙◌, arith}
use Rattle.std.specs.List.{prefix_len}
use Rattle.std.proofs.lemmas.List.{length-take-le, drop-drop}
use Rattle.std.proofs.lemmas.List.Sums.{prefix_len-le-length}
use Rattle.bt_text.specs.ByteTests.{backslash, is_letter}
use Rattle.bt_text.specs.Purification.{purified_symbol}
use Rattle.bt_text.specs.Special.{control, control_gap, control_name, letters_of, symbols, symbols_from}

-- where a letter stands in front, the name is the run of letters
pub control_name_letters : (t : List ℕ) (n : ℕ) → 0 < length t → is_letter (get_or t 0 0) ≡ true → n ≡ prefix_len is_letter t → (control_name t ≡ take n t) × (n ≡ length (control_name t))
control_name_letters [] n h e f = absurd (omega arith)
control_name_letters (b ∷ t) n h e f =
    let named : control_name (b ∷ t) ≡ take n (b ∷ t) = rw (e, f, e) refl in
    let few : n ≤ length (b ∷ t) = omega (arith, prefix_len-le-length is_letter (b ∷ t)) in
    (named, rw (named, length-take-le n (b ∷ t) few) refl)

-- the symbols after the first n bytes
pub symbols_behind_drop : (n : ℕ) (t : List ℕ) → symbols_from n t ≡ symbols (drop n t)
symbols_behind_drop zero t = refl
symbols_behind_drop (suc n) [] = refl
symbols_behind_drop (suc n) (b ∷ t) = symbols_behind_drop n t

-- the symbols of a text that begins with a control sequence
pub symbols_control : (b : ℕ) (t : List ℕ) → b ≡ backslash → symbols (b ∷ t) ≡ control (control_name t) (control_gap t) ∷ symbols (drop (length (control_gap t)) (drop (length (control_name t)) t))
symbols_control b t e =
    let name = control_name t in
    let gap = control_gap t in
    let rest : symbols_from (length name + length gap) t ≡ symbols (drop (length gap) (drop (length name) t)) = symbols_behind_drop (length name + length gap) t ∙ ap symbols (sym (drop-drop (length gap) (length name) t)) in
    rw e (ap (λ r. control name gap ∷ r) rest)

-- the step of a loop that keeps the letters of a control sequence
pub kept_control : (out s name gap after : List ℕ) → symbols s ≡ control name gap ∷ symbols after → (out ++ letters_of name) ++ flat_map purified_symbol (symbols after) ≡ out ++ flat_map purified_symbol (symbols s)
kept_control out s name gap after e = rw e (append_assoc out (letters_of name) (flat_map purified_symbol (symbols after)))
