-- The next byte that passes a test, found by its place.
use Rattle.std.specs.Prelude.{count_by, not}
use Rattle.std.specs.List.{take_while}
use Rattle.std.specs.Option.{unwrap_or}
use Rattle.std.proofs.lemmas.List.Sums.{sum_by-cons, take_while-cons}
use Rattle.std.proofs.lemmas.List.{drop-drop, drop_all, drop_more, length-take-le, take-take}
use Rattle.memchr.specs.Find.{IsFirstByte}
use Rattle.std.proofs.Common.{Option, Some, None, ◌≡◌, ℕ, zero, suc, ◌+◌, ◌<◌, ◌≤◌, Bool, true, false, cond, List, [], ◌∷◌, length, take, drop, get_or, refl, sym, ap, subst, ◌∙◌, arith, ◌⊎◌, inl, inr}
use Rattle.std.proofs.lemmas.Bool.{false_from_ne_true}
use Rattle.bt_bib.specs.declared.spot.Spot.{Spot}
use Rattle.bt_bib.specs.Spot.{at, here, spot_after}
use Rattle.bt_bib.specs.Scan.{after_run}

missed : (v : Bool) → (v ≡ true → ⊥) → not v ≡ true
missed true n = absurd (n refl)
missed false n = refl

-- the bytes before the first hit
run_to : (hit : ℕ → Bool) (k : ℕ) (bs : List ℕ) → ((j : ℕ) → j < k → hit (get_or bs j 0) ≡ true → ⊥) → k ≤ length bs → (length bs ≡ k) ⊎ (hit (get_or bs k 0) ≡ true) → take_while (λ b. not (hit b)) bs ≡ take k bs
run_to hit zero [] n le ends = refl
run_to hit (suc k) [] n le ends = absurd (omega arith)
run_to hit zero (b ∷ bs) n le (inl h) = absurd (omega arith)
run_to hit zero (b ∷ bs) n le (inr h) = take_while-cons (λ b. not (hit b)) b bs ∙ ap (λ v. cond (not v) (b ∷ take_while (λ b. not (hit b)) bs) []) h
run_to hit (suc k) (b ∷ bs) n le ends =
    let rest : (length bs ≡ k) ⊎ (hit (get_or bs k 0) ≡ true) = elim ends [ inl h ↦ inl (omega arith) | inr h ↦ inr h ] in
    take_while-cons (λ b. not (hit b)) b bs
    ∙ ap (λ v. cond v (b ∷ take_while (λ b. not (hit b)) bs) []) (missed (hit b) (n 0 (omega arith)))
    ∙ ap (λ (front : List ℕ). b ∷ front) (run_to hit k bs (λ j lt. n (suc j) (omega arith)) (omega arith) rest)

-- what memchr promises
run_found : (hit : ℕ → Bool) (bs : List ℕ) (r : Option ℕ) (n : ℕ) → IsFirstByte hit bs r → n ≡ unwrap_or r (length bs) → take_while (λ b. not (hit b)) bs ≡ take n bs
run_found hit bs None n found is = run_to hit n bs (λ j lt. found j (omega arith) (omega arith)) (omega arith) (inl (sym is))
run_found hit bs (Some k) n found is = run_to hit n bs (λ j lt. found.0.before j (omega arith) (omega arith)) (omega (arith, found.0.high)) (inr (ap (λ i. hit (get_or bs i 0)) is ∙ found.1))

found_within : (hit : ℕ → Bool) (bs : List ℕ) (r : Option ℕ) (n : ℕ) → IsFirstByte hit bs r → n ≡ unwrap_or r (length bs) → n ≤ length bs
found_within hit bs None n found is = omega (arith, is)
found_within hit bs (Some k) n found is = omega (arith, is, found.0.high)

-- what a search in the first bytes says of the whole
pub near_within : (hit : ℕ → Bool) (bs near : List ℕ) (most : ℕ) (r : Option ℕ) (n : ℕ) → near ≡ take most bs → most ≤ length bs → IsFirstByte hit near r → n ≡ unwrap_or r (length near) → n ≤ most
near_within hit bs near most r n same le found is = omega (arith, found_within hit near r n found is, ap (λ (x : List ℕ). length x) same, length-take-le most bs le)

pub near_run : (hit : ℕ → Bool) (bs near : List ℕ) (most : ℕ) (r : Option ℕ) (n : ℕ) → near ≡ take most bs → most ≤ length bs → IsFirstByte hit near r → n ≡ unwrap_or r (length near) → take_while (λ b. not (hit b)) near ≡ take n bs
near_run hit bs near most r n same le found is = run_found hit near r n found is ∙ ap (take n) same ∙ take-take n most bs (near_within hit bs near most r n same le found is)

-- a jump over this many bytes of a text, found by a search in the slice `hay`
pub jumps : (hit : ℕ → Bool) (text hay : List ℕ) (s end : Spot) (r : Option ℕ) (n : ℕ) → hay ≡ drop s.place text → IsFirstByte hit hay r → n ≡ unwrap_or r (length hay) → end ≡ spot_after (take n (drop s.place text)) s → here text end ≡ after_run (λ b. not (hit b)) (here text s)
jumps hit text hay s end r n same found is ends =
    let rest = drop s.place text in
    let front = take_while (λ b. not (hit b)) rest in
    let run : front ≡ take n rest = run_found hit rest r n (subst (λ (x : List ℕ). IsFirstByte hit x r) same found) (is ∙ ap (λ (x : List ℕ). unwrap_or r (length x)) same) in
    ap (here text) (ends ∙ ap (λ t. spot_after t s) (sym run)) ∙ ap (at (spot_after front s)) (sym (drop-drop (length front) s.place text))

-- if there is no hit before a place, the hits are those after it
count_behind : (hit : ℕ → Bool) (k : ℕ) (bs : List ℕ) → ((j : ℕ) → j < k → hit (get_or bs j 0) ≡ true → ⊥) → k ≤ length bs → count_by hit bs ≡ count_by hit (drop k bs)
count_behind hit zero bs n le = refl
count_behind hit (suc k) [] n le = absurd (omega arith)
count_behind hit (suc k) (b ∷ bs) n le =
    let miss = ap (λ (v : Bool). cond {A = ℕ} v 1 0) (false_from_ne_true (hit b) (n 0 (omega arith))) in
    omega (arith, sum_by-cons (λ x. cond {A = ℕ} (hit x) 1 0) b bs, miss, count_behind hit k bs (λ j lt. n (suc j) (omega arith)) (omega arith))

count_here : (hit : ℕ → Bool) (k : ℕ) (bs : List ℕ) → k < length bs → hit (get_or bs k 0) ≡ true → count_by hit (drop k bs) ≡ 1 + count_by hit (drop (k + 1) bs)
count_here hit k bs lt h = ap (count_by hit) (drop_more bs k 0 lt) ∙ omega (arith, sum_by-cons (λ x. cond {A = ℕ} (hit x) 1 0) (get_or bs k 0) (drop (k + 1) bs), ap (λ (v : Bool). cond {A = ℕ} v 1 0) h)

-- a loop over the hits
pub hits_more : (hit : ℕ → Bool) (k : ℕ) (bs : List ℕ) → IsFirstByte hit bs (Some k) → count_by hit bs ≡ 1 + count_by hit (drop (k + 1) bs)
hits_more hit k bs found = count_behind hit k bs (λ j lt. found.0.before j (omega arith) (omega arith)) (omega (arith, found.0.high)) ∙ count_here hit k bs found.0.high found.1

pub hits_none : (hit : ℕ → Bool) (bs : List ℕ) → IsFirstByte hit bs None → count_by hit bs ≡ 0
hits_none hit bs found =
    let none = ap (count_by hit) (drop_all (length bs) bs (omega arith)) in
    count_behind hit (length bs) bs (λ j lt. found j (omega arith) (omega arith)) (omega arith) ∙ none
