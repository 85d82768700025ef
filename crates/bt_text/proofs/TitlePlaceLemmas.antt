-- A place of a title, one byte on.
use Rattle.std.proofs.Common.{◌≡◌, ℕ, ◌+◌, ◌-◌, ◌≤◌, Bool, true, false, cond, eqb, ltb, List, [], ◌∷◌, ◌++◌, length, take, fold, append_assoc, append-nil, length-append, refl, sym, ap, ◌∙◌, arith}
use Rattle.std.specs.List.{prefix_len, suffix_len}
use Rattle.std.proofs.lemmas.Bool.{lt-ltb}
use Rattle.std.proofs.lemmas.List.{reverse-append, take-append-le, take_all}
use Rattle.bt_text.specs.declared.modes.Mode.{Mode}
use Rattle.bt_text.specs.declared.modes.Mode.TheVariants.{Title, Lower, Upper}
use Rattle.bt_text.specs.ByteTests.{is_white}
use Rattle.bt_text.specs.CaseChange.{is_spared}
use Rattle.bt_text.specs.inner.TitlePlace.{TitlePlace, is_empty, is_spared_at, next_place, title_place_after}
use Rattle.bt_text.specs.White.{ends_in, trimmed_end}

suffix_len-push : (test : ℕ → Bool) (t : List ℕ) (b : ℕ) → suffix_len test (t ++ b ∷ []) ≡ cond (test b) (1 + suffix_len test t) 0
suffix_len-push test t b = ap (prefix_len test) (reverse-append t (b ∷ []))

ends_in-push : (test : ℕ → Bool) (t : List ℕ) (b : ℕ) → ends_in test (t ++ b ∷ []) ≡ test b
ends_in-push test t b = ap (ltb 0) (suffix_len-push test t b) ∙ by_test (test b) (suffix_len test t)
  where
    by_test : (a : Bool) (n : ℕ) → ltb 0 (cond a (1 + n) 0) ≡ a
    by_test true n = lt-ltb 0 (1 + n) (omega arith)
    by_test false n = refl

trimmed_end-push : (t : List ℕ) (b : ℕ) → trimmed_end (t ++ b ∷ []) ≡ cond (is_white b) (trimmed_end t) (t ++ b ∷ [])
trimmed_end-push t b = ap (λ n. take (length (t ++ b ∷ []) - n) (t ++ b ∷ [])) (suffix_len-push is_white t b) ∙ by_test (is_white b)
  where
    by_test : (a : Bool) → take (length (t ++ b ∷ []) - cond a (1 + suffix_len is_white t) 0) (t ++ b ∷ []) ≡ cond a (take (length t - suffix_len is_white t) t) (t ++ b ∷ [])
    by_test true =
        let same : length (t ++ b ∷ []) - (1 + suffix_len is_white t) ≡ length t - suffix_len is_white t = omega (arith, length-append t (b ∷ [])) in
        let few : length t - suffix_len is_white t ≤ length t = omega arith in
        ap (λ n. take n (t ++ b ∷ [])) same ∙ take-append-le (length t - suffix_len is_white t) t (b ∷ []) few
    by_test false =
        let all : length (t ++ b ∷ []) ≤ length (t ++ b ∷ []) - 0 = omega arith in
        take_all (length (t ++ b ∷ []) - 0) (t ++ b ∷ []) all

is_empty-push : (t : List ℕ) (b : ℕ) → is_empty (t ++ b ∷ []) ≡ false
is_empty-push [] b = refl
is_empty-push (c ∷ t) b = refl

colon-push : (t : List ℕ) (b : ℕ) → ends_in (λ c. eqb c 58) (trimmed_end (t ++ b ∷ [])) ≡ cond (is_white b) (ends_in (λ c. eqb c 58) (trimmed_end t)) (eqb b 58)
colon-push t b = ap (ends_in (λ c. eqb c 58)) (trimmed_end-push t b) ∙ by_test (is_white b)
  where
    by_test : (a : Bool) → ends_in (λ c. eqb c 58) (cond a (trimmed_end t) (t ++ b ∷ [])) ≡ cond a (ends_in (λ c. eqb c 58) (trimmed_end t)) (eqb b 58)
    by_test true = refl
    by_test false = ends_in-push (λ c. eqb c 58) t b

place_of : Bool → Bool → Bool → TitlePlace
place_of first white colon = record { is_first = first; follows_white = white; follows_colon = colon }

title_place_after-push : (front : List ℕ) (b : ℕ) → title_place_after (front ++ b ∷ []) ≡ next_place (title_place_after front) b
unfolding place_of
title_place_after-push front b =
    ap (λ first. place_of first (ends_in is_white (front ++ b ∷ [])) (ends_in (λ c. eqb c 58) (trimmed_end (front ++ b ∷ [])))) (is_empty-push front b) ∙ ap (λ white. place_of false white (ends_in (λ c. eqb c 58) (trimmed_end (front ++ b ∷ [])))) (ends_in-push is_white front b) ∙ ap (place_of false (is_white b)) (colon-push front b)

-- The place after more bytes.
pub title_place_after-append : (front block : List ℕ) → title_place_after (front ++ block) ≡ fold next_place (title_place_after front) block
title_place_after-append front [] = ap title_place_after (append-nil front)
title_place_after-append front (b ∷ block) =
    ap title_place_after (sym (append_assoc front (b ∷ []) block)) ∙ title_place_after-append (front ++ b ∷ []) block ∙ ap (λ place. fold next_place place block) (title_place_after-push front b)

-- Of the bytes in front only their place matters.
pub spared_at_place : (mode : Mode) (front : List ℕ) → is_spared mode front ≡ is_spared_at mode (title_place_after front)
spared_at_place Title [] = refl
spared_at_place Title (b ∷ t) = refl
spared_at_place Lower front = refl
spared_at_place Upper front = refl
