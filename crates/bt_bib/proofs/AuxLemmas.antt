-- The lines of an .aux text, one by one.
use Rattle.std.specs.Prelude.{◌==◌, not}
use Rattle.std.specs.List.{position_or_len, slice_split, All}
use Rattle.std.specs.Option.{unwrap_or}
use Rattle.memchr.specs.Find.{IsFirstByte, is_byte}
use Rattle.std.proofs.Common.{◌≡◌, ℕ, suc, ◌+◌, ◌-◌, ◌<◌, ◌≤◌, true, false, cond, List, [], ◌∷◌, ◌++◌, length, take, drop, get_or, length-drop, Option, Some, None, refl, sym, ap, ◌∙◌, append_assoc, arith, ◌⊎◌, inl, inr, zero}
use Rattle.std.proofs.lemmas.List.{take_rest, take_all}
use Rattle.std.proofs.lemmas.List.Sums.{fails_before_first}
use Rattle.std.proofs.lemmas.List.Splits.{slice_split_none, slice_split_first}
use Rattle.std.proofs.lemmas.List.Elements.{All-from_get_or}
use Rattle.std.proofs.lemmas.Bool.{false_from_ne_true}
use Rattle.bt_bib.specs.declared.aux_line.AuxItem.{AuxItem}
use Rattle.bt_bib.specs.declared.aux_line.Command.{Command}
use Rattle.bt_text.specs.White.{trimmed_end}
use Rattle.bt_text.specs.ByteTests.{is_line_feed}
use Rattle.bt_bib.specs.AuxLine.{command_of, items_from}
use Rattle.bt_bib.specs.inner.Cases.{if_counted}

-- a test that doesn't hold
-- the first place of a line feed is where the first line ends
first_at : (k : ℕ) (bs : List ℕ) → ((j : ℕ) → j < k → (get_or bs j 0 == 10) ≡ true → ⊥) → (length bs ≡ k) ⊎ ((get_or bs k 0 == 10) ≡ true) → k ≤ length bs → position_or_len is_line_feed bs ≡ k
first_at zero [] before ends le = refl
first_at (suc k) [] before ends le = absurd (omega arith)
first_at zero (b ∷ bs) before (inl h) le = absurd (omega arith)
first_at zero (b ∷ bs) before (inr h) le = ap (λ e. cond (not e) (1 + position_or_len is_line_feed bs) 0) h
first_at (suc k) (b ∷ bs) before ends le =
    let later : (length bs ≡ k) ⊎ ((get_or bs k 0 == 10) ≡ true) = elim ends [ inl h ↦ inl (omega arith) | inr h ↦ inr h ] in
    let more : 1 + position_or_len is_line_feed bs ≡ suc k = omega (arith, first_at k bs (λ j lt. before (suc j) (omega arith)) later (omega arith)) in
    ap (λ e. cond (not e) (1 + position_or_len is_line_feed bs) 0) (false_from_ne_true (b == 10) (before 0 (omega arith))) ∙ more

pub line_is_first : (text : List ℕ) (r : Option ℕ) → IsFirstByte (is_byte 10) text r → unwrap_or r (length text) ≡ position_or_len is_line_feed text
line_is_first text None found = sym (first_at (length text) text (λ j lt. found j (omega arith) lt) (inl refl) (omega arith))
line_is_first text (Some k) found = sym (first_at k text (λ j lt. found.0.before j (omega arith) (omega arith)) (inr found.1) (omega (arith, found.0.high)))

-- the text after a byte
abbrev pub rest_after : List ℕ → ℕ → List ℕ
rest_after rest k = take (length rest - (k + 1)) (drop (k + 1) rest)

-- the text after a byte is shorter
pub behind_shorter : (rest : List ℕ) (k : ℕ) → k < length rest → length (rest_after rest k) < length rest
behind_shorter rest k lt = omega (arith, ap length (take_rest rest (k + 1)), length-drop (k + 1) rest)

-- later lines follow a counted one
pub counted_onto : (n : ℕ) (line : List ℕ) (c : Option Command) (later : List AuxItem) → if_counted n line [] c ++ later ≡ if_counted n line later c
counted_onto n line None later = refl
counted_onto n line (Some c) later = refl

-- the last line, and a line with others after it
last_line : (text : List ℕ) (k : ℕ) → k ≡ position_or_len is_line_feed text → k ≡ length text → slice_split is_line_feed text ≡ take k text ∷ []
last_line text k is all =
    let none : All (λ b. is_line_feed b ≡ false) text = All-from_get_or (λ b. is_line_feed b ≡ false) text 0 (λ i lt. fails_before_first is_line_feed text i 0 (omega arith)) in
    slice_split_none is_line_feed text none ∙ ap (λ l. l ∷ []) (sym (take_all k text (omega arith)))

-- a line with others after it
first_line : (text : List ℕ) (k : ℕ) → k ≡ position_or_len is_line_feed text → k < length text → slice_split is_line_feed text ≡ take k text ∷ slice_split is_line_feed (drop (k + 1) text)
first_line text k is lt =
    slice_split_first is_line_feed text 0 (omega arith) ∙ ap (λ n. take n text ∷ slice_split is_line_feed (drop (n + 1) text)) (sym is)

-- the lines are at their end
pub lines_end : (n k : ℕ) (text line : List ℕ) (front all x : List AuxItem) → k ≡ position_or_len is_line_feed text → k ≡ length text
    → line ≡ trimmed_end (take k text) → all ≡ front ++ if_counted n line [] (command_of line) → front ++ items_from n (slice_split is_line_feed text) ≡ x → all ≡ x
lines_end n k text line front all x is end line_is all_is same =
    all_is ∙ ap (λ l. front ++ if_counted n l [] (command_of l)) line_is ∙ sym (ap (λ ls. front ++ items_from n ls) (last_line text k is end)) ∙ same

-- one line more
pub line_added : (n k : ℕ) (text line : List ℕ) (front all x : List AuxItem) → k ≡ position_or_len is_line_feed text → k < length text
    → line ≡ trimmed_end (take k text) → all ≡ front ++ if_counted n line [] (command_of line) → front ++ items_from n (slice_split is_line_feed text) ≡ x
    → all ++ items_from (n + 1) (slice_split is_line_feed (rest_after text k)) ≡ x
line_added n k text line front all x is lt line_is all_is same =
    let t = trimmed_end (take k text) in
    let later = items_from (n + 1) (slice_split is_line_feed (drop (k + 1) text)) in
    rw (all_is, line_is, take_rest text (k + 1))
    (append_assoc front (if_counted n t [] (command_of t)) later ∙ ap (λ l. front ++ l) (counted_onto n t (command_of t) later)
    ∙ sym (ap (λ ls. front ++ items_from n ls) (first_line text k is lt)) ∙ same)
