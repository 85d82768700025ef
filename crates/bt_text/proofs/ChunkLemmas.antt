-- A list in chunks of one length: its values by their places.
use Rattle.std.proofs.Common.{◌≡◌, refl, sym, ap, subst, ◌∙◌, ℕ, zero, suc, ◌+◌, ◌-◌, ◌*◌, ◌/◌, ◌%◌, ◌<◌, ◌≤◌, arith, List, [], ◌∷◌, ◌++◌, length, set, take, drop, get_or, slice_get, None, append_assoc, length-append, length-drop}
use Rattle.std.proofs.lemmas.List.{set-append_left, set-append_right, set_past, append-nil, length-take-le, take_more}
use Rattle.std.proofs.Math.Seq.{take-add}
use Rattle.bt_text.specs.inner.Chunks.{all_of, AreWhole}

-- ---- two lists, one after the other

got_left : {A : Type 0} (xs ys : List A) (i : ℕ) → i < length xs → slice_get (xs ++ ys) i ≡ slice_get xs i
got_left [] ys i h = absurd (omega (arith, h))
got_left (x ∷ xs) ys zero h = refl
got_left (x ∷ xs) ys (suc i) h = got_left xs ys i (omega (arith, h))

got_right : {A : Type 0} (xs ys : List A) (n i : ℕ) → length xs + n ≡ i → slice_get (xs ++ ys) i ≡ slice_get ys n
got_right [] ys n i e = ap (slice_get ys) (omega (arith, e))
got_right (x ∷ xs) ys n zero e = absurd (omega (arith, e))
got_right (x ∷ xs) ys n (suc i) e = got_right xs ys n i (omega (arith, e))

got_past : {A : Type 0} (xs : List A) (i : ℕ) → length xs ≤ i → slice_get xs i ≡ None
got_past [] i h = refl
got_past (x ∷ xs) zero h = absurd (omega (arith, h))
got_past (x ∷ xs) (suc i) h = got_past xs i (omega (arith, h))

-- ---- whole chunks

pub whole_at : {A : Type 0} (cs : List (List A)) (n : ℕ) (d : List A) → AreWhole cs → n < length cs → length (get_or cs n d) ≡ 64
whole_at [] n d whole h = absurd (omega (arith, h))
whole_at (c ∷ cs) zero d whole h = whole.0
whole_at (c ∷ cs) (suc n) d whole h = whole_at cs n d whole.1 (omega (arith, h))

pub whole_set : {A : Type 0} (cs : List (List A)) (n : ℕ) (c : List A) → AreWhole cs → length c ≡ 64 → AreWhole (set cs n c)
whole_set [] n c whole e = tt
whole_set (b ∷ cs) zero c whole e = (e, whole.1)
whole_set (b ∷ cs) (suc n) c whole e = (whole.0, whole_set cs n c whole.1 e)

pub whole_push : {A : Type 0} (cs : List (List A)) (c : List A) → AreWhole cs → length c ≡ 64 → AreWhole (cs ++ c ∷ [])
whole_push [] c whole e = (e, tt)
whole_push (b ∷ cs) c whole e = (whole.0, whole_push cs c whole.1 e)

length_all : {A : Type 0} (cs : List (List A)) → AreWhole cs → length (all_of cs) ≡ length cs * 64
length_all [] whole = refl
length_all (c ∷ cs) whole = omega (arith, length-append c (all_of cs), whole.0, length_all cs whole.1)

pub all_push : {A : Type 0} (cs : List (List A)) (c : List A) → all_of (cs ++ c ∷ []) ≡ all_of cs ++ c
all_push [] c = append-nil c
all_push (b ∷ cs) c = ap (λ (l : List _). b ++ l) (all_push cs c) ∙ sym (append_assoc b (all_of cs) c)

-- ---- by the chunk and the place in it

get_at : {A : Type 0} (cs : List (List A)) (n r : ℕ) (d : List A) → AreWhole cs → n < length cs → r < 64 → slice_get (all_of cs) (n * 64 + r) ≡ slice_get (get_or cs n d) r
get_at [] n r d whole h l = absurd (omega (arith, h))
get_at (c ∷ cs) zero r d whole h l =
    ap (slice_get (c ++ all_of cs)) (omega arith) ∙ got_left c (all_of cs) r (omega (arith, whole.0, l))
get_at (c ∷ cs) (suc n) r d whole h l =
    got_right c (all_of cs) (n * 64 + r) (suc n * 64 + r) (omega (arith, whole.0)) ∙ get_at cs n r d whole.1 (omega (arith, h)) l

set_at : {A : Type 0} (cs : List (List A)) (n r : ℕ) (d : List A) (x : A) → AreWhole cs → n < length cs → r < 64 → all_of (set cs n (set (get_or cs n d) r x)) ≡ set (all_of cs) (n * 64 + r) x
set_at [] n r d x whole h l = absurd (omega (arith, h))
set_at (c ∷ cs) zero r d x whole h l =
    sym (ap (λ (i : ℕ). set (c ++ all_of cs) i x) (omega arith) ∙ set-append_left c (all_of cs) r x (omega (arith, whole.0, l)))
set_at (c ∷ cs) (suc n) r d x whole h l =
    let e : suc n * 64 + r - 64 ≡ n * 64 + r = omega arith in
    sym (set-append_right c (all_of cs) 64 (suc n * 64 + r) x whole.0 (omega arith)
    ∙ ap (λ (i : ℕ). c ++ set (all_of cs) i x) e
    ∙ ap (λ (l : List _). c ++ l) (sym (set_at cs n r d x whole.1 (omega (arith, h)) l)))

-- ---- by the place alone

place_is : (p : ℕ) → p / 64 * 64 + p % 64 ≡ p
place_is p = omega arith

pub chunk_get : {A : Type 0} (cs : List (List A)) (p : ℕ) (d : List A) → AreWhole cs → p / 64 < length cs → slice_get (get_or cs (p / 64) d) (p % 64) ≡ slice_get (all_of cs) p
chunk_get cs p d whole h =
    sym (get_at cs (p / 64) (p % 64) d whole h (omega arith)) ∙ ap (slice_get (all_of cs)) (place_is p)

pub chunk_get_past : {A : Type 0} (cs : List (List A)) (p : ℕ) → AreWhole cs → length cs ≤ p / 64 → None ≡ slice_get (all_of cs) p
chunk_get_past cs p whole h = sym (got_past (all_of cs) p (omega (arith, length_all cs whole, h)))

pub chunk_set : {A : Type 0} (cs : List (List A)) (p : ℕ) (d : List A) (x : A) → AreWhole cs → p / 64 < length cs → all_of (set cs (p / 64) (set (get_or cs (p / 64) d) (p % 64) x)) ≡ set (all_of cs) p x
chunk_set cs p d x whole h =
    set_at cs (p / 64) (p % 64) d x whole h (omega arith) ∙ ap (λ (i : ℕ). set (all_of cs) i x) (place_is p)

pub chunk_set_past : {A : Type 0} (cs : List (List A)) (p : ℕ) (x : A) → AreWhole cs → length cs ≤ p / 64 → all_of cs ≡ set (all_of cs) p x
chunk_set_past cs p x whole h = sym (set_past (all_of cs) p x (omega (arith, length_all cs whole, h)))

pub chunk_put : {A : Type 0} (cs : List (List A)) (p : ℕ) (old new seen : List A) (x : A) → AreWhole cs → p / 64 < length cs → old ≡ get_or cs (p / 64) old → all_of cs ≡ seen → new ≡ set old (p % 64) x → all_of (set cs (p / 64) new) ≡ set seen p x
chunk_put cs p old new seen x whole h is all put =
    ap (λ (c : List _). all_of (set cs (p / 64) c)) (put ∙ ap (λ (c : List _). set c (p % 64) x) is)
    ∙ chunk_set cs p old x whole h ∙ ap (λ (l : List _). set l p x) all

pub whole_put : {A : Type 0} (cs : List (List A)) (n : ℕ) (old new : List A) → AreWhole cs → n < length cs → old ≡ get_or cs n old → length new ≡ length old → AreWhole (set cs n new)
whole_put cs n old new whole h is long = whole_set cs n new whole (long ∙ ap length is ∙ whole_at cs n old whole h)

-- ---- a chunk more of the chunks

pub appended_more : {A : Type 0} (cs : List (List A)) (n : ℕ) (c xs ys : List A) → n < length cs → c ≡ get_or cs n c → xs ≡ ys ++ all_of (take n cs) → xs ++ c ≡ ys ++ all_of (take (n + 1) cs)
appended_more cs n c xs ys h is before =
    let more : take (n + 1) cs ≡ take n cs ++ c ∷ [] = take_more cs n c h ∙ ap (λ (d : List _). take n cs ++ d ∷ []) (sym is) in
    ap (λ (l : List _). l ++ c) before ∙ append_assoc ys (all_of (take n cs)) c
    ∙ ap (λ (l : List _). ys ++ l) (sym (all_push (take n cs) c) ∙ ap all_of (sym more))

-- ---- one chunk more of a list

-- the chunk of a list at a number
abbrev pub chunk_of : {A : Type 0} → ℕ → List A → List A
chunk_of n xs = take ((n + 1) * 64 - n * 64) (drop (n * 64) xs)

pub chunk_more : {A : Type 0} (cs new : List (List A)) (c : List A) (n : ℕ) (xs : List A) → new ≡ cs ++ c ∷ [] → c ≡ chunk_of n xs → all_of cs ≡ take (n * 64) xs → all_of new ≡ take ((n + 1) * 64) xs
chunk_more cs new c n xs pushed is all =
    let e : n * 64 + ((n + 1) * 64 - n * 64) ≡ (n + 1) * 64 = omega arith in
    ap all_of pushed ∙ all_push cs c ∙ ap (λ (l : List _). l ++ c) all ∙ ap (λ (l : List _). take (n * 64) xs ++ l) is
    ∙ sym (take-add (n * 64) ((n + 1) * 64 - n * 64) xs) ∙ ap (λ (i : ℕ). take i xs) e

pub whole_more : {A : Type 0} (cs new : List (List A)) (c : List A) (n : ℕ) (xs : List A) → new ≡ cs ++ c ∷ [] → c ≡ chunk_of n xs → n < length xs / 64 → AreWhole cs → AreWhole new
whole_more cs new c n xs pushed is h whole =
    let rest : length (drop (n * 64) xs) ≡ length xs - n * 64 = length-drop (n * 64) xs in
    let e : (n + 1) * 64 - n * 64 ≡ 64 = omega arith in
    let long : length c ≡ 64 = ap length is ∙ length-take-le ((n + 1) * 64 - n * 64) (drop (n * 64) xs) (omega (arith, rest, h)) ∙ e in
    subst AreWhole (sym pushed) (whole_push cs c whole long)
