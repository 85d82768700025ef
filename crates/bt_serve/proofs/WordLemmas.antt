-- Words of a line, and numbers.
use Rattle.std.proofs.Common.{◌≡◌, ℕ, ◌+◌, ◌<◌, ◌≤◌, List, [], ◌∷◌, length, take, drop, refl, arith, None, Some, position, ◌==◌, Bool, true, false}
use Rattle.std.specs.List.{slice_split, position_or_len}
use Rattle.std.proofs.lemmas.List.Splits.{slice_split_first, length-slice_split}
use Rattle.std.proofs.lemmas.List.Quantifiers.{position-Some}
use Rattle.std.proofs.lemmas.Grind.{common_steps}
use Rattle.bt_serve.specs.Commands.{words_in_line, request_of_words, unreadable}

pub split_some : (p : ℕ → Bool) (xs : List ℕ) (i : ℕ) → position p xs ≡ Some i → slice_split p xs ≡ take i xs ∷ slice_split p (drop (i + 1) xs)
split_some p xs i e =
    let f = position-Some p xs i 0 e in
    let at : position_or_len p xs ≡ i = grind (arith, common_steps, e) in
    let lt : position_or_len p xs < length xs = omega (arith, at, f.0) in
    rw (← at) (slice_split_first p xs 0 lt)

split_none_if : (p : ℕ → Bool) (x : ℕ) (xs : List ℕ) (b : Bool) → p x ≡ b → (length xs ≤ position_or_len p xs → slice_split p xs ≡ xs ∷ []) →
    length (x ∷ xs) ≤ position_or_len p (x ∷ xs) → slice_split p (x ∷ xs) ≡ (x ∷ xs) ∷ []
split_none_if p x xs true e ih h = absurd (let k = rw e at h in omega arith)
split_none_if p x xs false e ih h = let k = rw e at h in rw (e, ih (omega arith)) refl

split_none_from : (p : ℕ → Bool) (xs : List ℕ) → length xs ≤ position_or_len p xs → slice_split p xs ≡ xs ∷ []
split_none_from p [] h = refl
split_none_from p (x ∷ xs) h = split_none_if p x xs (p x) refl (split_none_from p xs) h

pub split_none : (p : ℕ → Bool) (xs : List ℕ) → position p xs ≡ None → slice_split p xs ≡ xs ∷ []
split_none p xs e = split_none_from p xs (grind (arith, common_steps, e))

-- A line of more than five words.
six_at : (a b c d e : List ℕ) (ws : List (List ℕ)) → 0 < length ws → request_of_words (a ∷ b ∷ c ∷ d ∷ e ∷ ws) ≡ unreadable
six_at a b c d e [] h = absurd (omega arith)
six_at a b c d e (w ∷ ws) h = refl

pub six_words : (a b c d e t : List ℕ) → request_of_words (a ∷ b ∷ c ∷ d ∷ e ∷ words_in_line t) ≡ unreadable
six_words a b c d e t = six_at a b c d e (words_in_line t) (omega (arith, length-slice_split (λ (x : ℕ). x == 32) t))
