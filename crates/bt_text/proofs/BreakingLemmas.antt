-- Where a text is broken.
use Rattle.std.proofs.Common.{◌≡◌, ℕ, zero, suc, ◌+◌, ◌-◌, ◌<◌, ◌≤◌, Bool, true, false, cond, List, [], ◌∷◌, ◌++◌, length, get_or, take, drop, filter, Option, Some, None, refl, ap, ◌∙◌, ◌⊎◌, inl, inr, arith}
use Rattle.std.proofs.Common.{append-nil, set, sym}
use Rattle.std.specs.Option.{is_some, option_or}
use Rattle.std.proofs.lemmas.Bool.{lt-ltb, le-ltb}
use Rattle.std.proofs.lemmas.List.{drop-drop, drop-set, drop-set-add, drop_more}
use Rattle.std.specs.List.{last_or, range_with_len, position_or_len, prefix_len}
use Rattle.std.proofs.Common.{ltb, leb, append_assoc, length-drop}
use Rattle.std.proofs.lemmas.Bool.{ltb-true, leb-false}
use Rattle.std.proofs.lemmas.List.Sums.{prefix_len-le-length}
use Rattle.bt_text.specs.declared.output.Output.{Output}
use Rattle.bt_text.specs.LineBreaks.{break_place, broken, broken_within, line_unless_empty, near_break, run_end}
use Rattle.bt_text.specs.inner.Cases.{broken_at}
use Rattle.bt_text.specs.ByteTests.{is_white, space}

last_white : (p : ℕ → Bool) (o : Option ℕ) (a n i : ℕ) → i ≡ a + n → p i ≡ true → last_or o (filter p (range_with_len a (suc n))) ≡ Some i
last_white p o a zero i s e = let same : a ≡ i = omega arith in rw (same, e) refl
last_white p o a (suc n) i s e = by_test (p a) (last_white p (Some a) (a + 1) n i (omega arith) e) (last_white p o (a + 1) n i (omega arith) e)
  where
    rest : List ℕ
    rest = filter p (range_with_len (a + 1) (suc n))

    by_test : (b : Bool) → last_or (Some a) rest ≡ Some i → last_or o rest ≡ Some i → last_or o (cond b (a ∷ rest) rest) ≡ Some i
    by_test true h g = h
    by_test false h g = g

last_dark : (p : ℕ → Bool) (o : Option ℕ) (a n i : ℕ) → i ≡ a + n → p i ≡ false → last_or o (filter p (range_with_len a (suc n))) ≡ last_or o (filter p (range_with_len a n))
last_dark p o a zero i s e = let same : a ≡ i = omega arith in rw (same, e) refl
last_dark p o a (suc n) i s e = by_test (p a) (last_dark p (Some a) (a + 1) n i (omega arith) e) (last_dark p o (a + 1) n i (omega arith) e)
  where
    all : List ℕ
    all = filter p (range_with_len (a + 1) (suc n))

    rest : List ℕ
    rest = filter p (range_with_len (a + 1) n)

    by_test : (b : Bool) → last_or (Some a) all ≡ last_or (Some a) rest → last_or o all ≡ last_or o rest → last_or o (cond b (a ∷ all) all) ≡ last_or o (cond b (a ∷ rest) rest)
    by_test true h g = h
    by_test false h g = g

-- the last white place from 3 on before a place
abbrev pub near_before : List ℕ → ℕ → Option ℕ
near_before t e = last_or None (filter (λ k. is_white (get_or t k 0)) (range_with_len 3 (e - 3)))

pub near_break_start : (t : List ℕ) → near_break t ≡ near_before t 80
unfolding near_break
near_break_start t = refl

pub near_white : (t : List ℕ) (i : ℕ) → 3 ≤ i → is_white (get_or t i 0) ≡ true → near_before t (i + 1) ≡ Some i
near_white t i h e =
    let all : i + 1 - 3 ≡ suc (i - 3) = omega arith in
    rw all (last_white (λ k. is_white (get_or t k 0)) None 3 (i - 3) i (omega arith) e)

pub near_dark : (t : List ℕ) (i : ℕ) → 3 ≤ i → is_white (get_or t i 0) ≡ false → near_before t (i + 1) ≡ near_before t i
near_dark t i h e =
    let all : i + 1 - 3 ≡ suc (i - 3) = omega arith in
    rw all (last_dark (λ k. is_white (get_or t k 0)) None 3 (i - 3) i (omega arith) e)

pub run_end_some : (t : List ℕ) (k w : ℕ) → k ≡ position_or_len is_white (drop 80 t) → 80 + k < length t → w ≡ prefix_len is_white (drop (80 + k) t) → run_end t 80 ≡ Some (80 + k + w - 1)
run_end_some t k w e h f = rw (← e, lt-ltb _ _ h, ← f) refl

pub run_end_none : (t : List ℕ) (k : ℕ) → k ≡ position_or_len is_white (drop 80 t) → length t ≤ 80 + k → run_end t 80 ≡ None
run_end_none t k e h = rw (← e, le-ltb _ _ h) refl

-- ---- breaks

last_within : (p : ℕ → Bool) (o : Option ℕ) (a n i : ℕ) → last_or o (filter p (range_with_len a n)) ≡ Some i → (o ≡ Some i) ⊎ ((a ≤ i) × (i < a + n))
last_within p o a zero i e = inl e
last_within p o a (suc n) i e = by_test (p a) e (last_within p (Some a) (a + 1) n i) (last_within p o (a + 1) n i)
  where
    rest : List ℕ
    rest = filter p (range_with_len (a + 1) n)

    here : (Some a ≡ Some i) ⊎ ((a + 1 ≤ i) × (i < a + 1 + n)) → (o ≡ Some i) ⊎ ((a ≤ i) × (i < a + suc n))
    here (inl q) = let same : a ≡ i = cc in inr (omega arith, omega arith)
    here (inr q) = inr (omega arith, omega arith)

    later : (o ≡ Some i) ⊎ ((a + 1 ≤ i) × (i < a + 1 + n)) → (o ≡ Some i) ⊎ ((a ≤ i) × (i < a + suc n))
    later (inl q) = inl q
    later (inr q) = inr (omega arith, omega arith)

    by_test : (b : Bool) → last_or o (cond b (a ∷ rest) rest) ≡ Some i → (last_or (Some a) rest ≡ Some i → (Some a ≡ Some i) ⊎ ((a + 1 ≤ i) × (i < a + 1 + n))) → (last_or o rest ≡ Some i → (o ≡ Some i) ⊎ ((a + 1 ≤ i) × (i < a + 1 + n))) → (o ≡ Some i) ⊎ ((a ≤ i) × (i < a + suc n))
    by_test true e f g = here (f e)
    by_test false e f g = later (g e)

near_within : (t : List ℕ) (i : ℕ) → near_break t ≡ Some i → (3 ≤ i) × (i < 80)
unfolding near_break
near_within t i e = by_place (last_within (λ k. is_white (get_or t k 0)) None 3 77 i e)
  where
    by_place : (None ≡ Some i) ⊎ ((3 ≤ i) × (i < 3 + 77)) → (3 ≤ i) × (i < 80)
    by_place (inl q) = cc
    by_place (inr q) = q

run_within : (t : List ℕ) (k i : ℕ) → run_end t k ≡ Some i → (k ≤ i + 1) × (i < length t)
run_within t k i e = by_test (ltb start (length t)) refl e
  where
    start : ℕ
    start = k + position_or_len is_white (drop k t)

    by_test : (b : Bool) → ltb start (length t) ≡ b → cond b (Some (start + prefix_len is_white (drop start t) - 1)) None ≡ Some i → (k ≤ i + 1) × (i < length t)
    by_test true h e =
        let below = ltb-true start (length t) h in
        let same : start + prefix_len is_white (drop start t) - 1 ≡ i = cc in
        (omega arith, omega (arith, prefix_len-le-length is_white (drop start t), length-drop start t))
    by_test false h e = cc

break_within : (t : List ℕ) (i : ℕ) → break_place t ≡ Some i → (2 ≤ i) × (i < length t)
break_within t i e = by_length (leb (length t) 79) refl e
  where
    by_near : (o : Option ℕ) → near_break t ≡ o → option_or o (run_end t 80) ≡ Some i → 79 < length t → (2 ≤ i) × (i < length t)
    by_near (Some j) f e h = let q = near_within t j f in let same : j ≡ i = cc in (omega arith, omega arith)
    by_near None f e h = let q = run_within t 80 i e in (omega arith, omega arith)

    by_length : (b : Bool) → leb (length t) 79 ≡ b → cond b None (option_or (near_break t) (run_end t 80)) ≡ Some i → (2 ≤ i) × (i < length t)
    by_length true h e = cc
    by_length false h e = by_near (near_break t) refl e (leb-false _ _ h)

next : List ℕ → ℕ → List ℕ
next t i = space ∷ space ∷ drop (i + 1) t

next_shorter : (t : List ℕ) (i : ℕ) → break_place t ≡ Some i → length (next t i) < length t
unfolding next
next_shorter t i e = let q = break_within t i e in omega (arith, length-drop (i + 1) t)

-- With as many breaks as bytes, more change nothing.
pub enough : (n m : ℕ) (t : List ℕ) → length t ≤ n → length t ≤ m → broken_within n t ≡ broken_within m t
unfolding next
enough zero zero t h k = refl
enough zero (suc m) [] h k = refl
enough zero (suc m) (b ∷ t) h k = absurd (omega arith)
enough (suc n) zero [] h k = refl
enough (suc n) zero (b ∷ t) h k = absurd (omega arith)
enough (suc n) (suc m) t h k = by_place (break_place t) refl (λ i e. enough n m (next t i) (let s = next_shorter t i e in omega arith) (let s = next_shorter t i e in omega arith))
  where
    by_place : (o : Option ℕ) → break_place t ≡ o → ((i : ℕ) → break_place t ≡ Some i → broken_within n (next t i) ≡ broken_within m (next t i)) → broken_at t (broken_within n) o ≡ broken_at t (broken_within m) o
    by_place None e f = refl
    by_place (Some i) e f = ap (λ b. broken_at t (λ _. b) (Some i)) (f i e)

-- One break, and the rest.
pub broken_more : (t : List ℕ) (i : ℕ) → break_place t ≡ Some i → broken t ≡ broken_at t broken (Some i)
unfolding next
broken_more t i e =
    let s = next_shorter t i e in
    let more : broken t ≡ broken_within (suc (length t)) t = enough (length t) (suc (length t)) t (omega arith) (omega arith) in
    let rest : broken_within (length t) (next t i) ≡ broken (next t i) = enough (length t) (length (next t i)) (next t i) (omega arith) (omega arith) in
    more ∙ ap (λ o. broken_at t (broken_within (length t)) o) e ∙ ap (λ b. broken_at t (λ _. b) (Some i)) rest

pub broken_none : (t : List ℕ) → break_place t ≡ None → broken t ≡ record { lines = []; held = t }
broken_none t e = enough (length t) (suc (length t)) t (omega arith) (omega arith) ∙ ap (λ o. broken_at t (broken_within (length t)) o) e

-- the step of a loop that breaks a text
pub broken_step : (lines : List (List ℕ)) (t new all : List ℕ) (i : ℕ) → break_place t ≡ Some i → new ≡ space ∷ space ∷ drop (i + 1) t → lines ++ (broken t).lines ≡ (broken all).lines → (broken t).held ≡ (broken all).held → ((lines ++ line_unless_empty (take i t)) ++ (broken new).lines ≡ (broken all).lines) × ((broken new).held ≡ (broken all).held)
broken_step lines t new all i e f g h =
    let step = broken_more t i e in
    let more : lines ++ (line_unless_empty (take i t) ++ (broken new).lines) ≡ (broken all).lines = rw f (rw step at g) in
    (append_assoc lines (line_unless_empty (take i t)) (broken new).lines ∙ more, rw f (rw step at h))

-- ---- breaks in place

overwritten : (bs : List ℕ) (i : ℕ) → i + 1 < length bs → drop i (set (set bs i 32) (i + 1) 32) ≡ 32 ∷ 32 ∷ drop (i + 1 + 1) bs
overwritten bs i h =
    let within : i < length bs = omega arith in
    drop-set-add i (set bs i 32) 1 32 ∙ ap (λ l. set l 1 32) (drop-set bs i 32 within) ∙ ap (λ l. 32 ∷ set l 0 32) (drop_more bs (i + 1) 0 h)

-- two spaces over the bytes before what stands after break place i of the text from place start on
pub next_text : (bs : List ℕ) (start i next : ℕ) → next + 1 ≡ start + i → start + i < length bs → drop next (set (set bs next 32) (next + 1) 32) ≡ 32 ∷ 32 ∷ drop (i + 1) (drop start bs)
next_text bs start i next e h =
    let within : next + 1 < length bs = omega arith in
    let place : next + 1 + 1 ≡ start + (i + 1) = omega arith in
    overwritten bs next within ∙ ap (λ n. 32 ∷ 32 ∷ drop n bs) place ∙ ap (λ l. 32 ∷ 32 ∷ l) (sym (drop-drop (i + 1) start bs))

output_of : List (List ℕ) → List ℕ → Output
output_of lines held = record { lines = lines; held = held }

output_is : (lines : List (List ℕ)) (held : List ℕ) (o : Output) → lines ≡ o.lines → held ≡ o.held → record { lines = lines; held = held } ≡ o
unfolding output_of
output_is lines held o e f = ap (λ l. output_of l held) e ∙ ap (output_of o.lines) f

-- Where the rest of a text isn't broken, the lines are all there.
pub broken_end : (lines : List (List ℕ)) (t all : List ℕ) → break_place t ≡ None → lines ++ (broken t).lines ≡ (broken all).lines → (broken t).held ≡ (broken all).held → record { lines = lines; held = t } ≡ broken all
broken_end lines t all e f g =
    let step = broken_none t e in
    output_is lines t (broken all) (sym (append-nil lines) ∙ (rw step at f)) (rw step at g)

no_place : (o : Option ℕ) → is_some o ≡ false → o ≡ None
no_place None e = refl
no_place (Some i) e = cc

-- A text that isn't broken is held.
pub broken_whole : (t : List ℕ) → is_some (break_place t) ≡ false → broken t ≡ record { lines = []; held = t }
broken_whole t e = broken_none t (no_place (break_place t) e)

-- .. and puts no line after others
pub lines_whole : (lines : List (List ℕ)) (t : List ℕ) → is_some (break_place t) ≡ false → lines ++ (broken t).lines ≡ lines
lines_whole lines t e = ap (λ o. lines ++ o.lines) (broken_whole t e) ∙ append-nil lines
