-- Entries of the list that are made again.
use Rattle.std.specs.Prelude.{filter_map, slice_get, slice_set}
use Rattle.std.specs.List.{cons_option}
use Rattle.std.proofs.Common.{◌≡◌, ◌∙◌, ◌+◌, ◌<◌, ◌≤◌, ap, refl, sym, arith, ℕ, zero, suc, Bool, true, false, List, [], ◌∷◌, ◌++◌, length, take, drop, get_or, append_assoc, append-nil, length-append, Option, Some, None}
use Rattle.std.proofs.lemmas.List.{drop_all, drop_more, set_past, take_all, take_more}
use Rattle.bt_resolve.specs.declared.entry.Entry.{Entry}
use Rattle.bt_resolve.specs.declared.seen_edit.MadeEntry.{MadeEntry}
use Rattle.bt_resolve.specs.inner.Heirs.{AreMadeAgain, MakesAgain, entries_made, made_if, with_made}

-- ---- put in place

pub with_more : (ms : List MadeEntry) (m : MadeEntry) (es : List Entry) → with_made (ms ++ m ∷ []) es ≡ slice_set (with_made ms es) m.index m.entry
with_more [] m es = refl
with_more (x ∷ ms) m es = with_more ms m (slice_set es x.index x.entry)

pub put_more : (es : List Entry) (ms : List MadeEntry) (m : MadeEntry) (now next : List Entry) → now ≡ with_made ms es → next ≡ slice_set now m.index m.entry → next ≡ with_made (ms ++ m ∷ []) es
put_more es ms m now next is put = put ∙ ap (λ (us : List Entry). slice_set us m.index m.entry) is ∙ sym (with_more ms m es)

pub put_beyond : (es : List Entry) (ms : List MadeEntry) (m : MadeEntry) (now : List Entry) → now ≡ with_made ms es → (m.index < length now → ⊥) → now ≡ with_made (ms ++ m ∷ []) es
put_beyond es ms m now is beyond = put_more es ms m now now is (sym (set_past now m.index m.entry (omega (arith, beyond))))

-- ---- all entries

cons_append : (o : Option Entry) (xs ys : List Entry) → cons_option o (xs ++ ys) ≡ cons_option o xs ++ ys
cons_append None xs ys = refl
cons_append (Some e) xs ys = refl

filter_more : (f : ℕ → Option Entry) (ps : List ℕ) (p : ℕ) → filter_map f (ps ++ p ∷ []) ≡ filter_map f ps ++ cons_option (f p) []
filter_more f [] p = refl
filter_more f (q ∷ ps) p = ap (cons_option (f q)) (filter_more f ps p) ∙ cons_append (f q) (filter_map f ps) (cons_option (f p) [])

pub found_more : (f : ℕ → Option Entry) (places : List ℕ) (k p : ℕ) (es : List Entry) (o : Option Entry) → k < length places → p ≡ get_or places k 0 → o ≡ f p → es ≡ filter_map f (take k places) → es ++ cons_option o [] ≡ filter_map f (take (k + 1) places)
found_more f places k p es o less is found before =
    (λ j. before j ++ cons_option (found j) [])
    ∙ sym (filter_more f (take k places) p)
    ∙ ap (filter_map f) (ap (λ (x : ℕ). take k places ++ x ∷ []) is ∙ sym (take_more places k 0 less))

-- ---- one after another

next_of : {A : Type 0} (k : ℕ) (xs : List A) (x : A) (rest : List A) → drop k xs ≡ x ∷ rest → (take (k + 1) xs ≡ take k xs ++ x ∷ []) × (drop (k + 1) xs ≡ rest)
next_of zero [] x rest h = absurd cc
next_of zero (y ∷ ys) x rest h = (ap (take 1) h, ap (drop 1) h)
next_of (suc k) [] x rest h = absurd cc
next_of (suc k) (y ∷ ys) x rest h =
    let below = next_of k ys x rest h in
    let on : suc k + 1 ≡ suc (k + 1) = omega arith in
    (ap (λ n. take n (y ∷ ys)) on ∙ ap (λ zs. y ∷ zs) below.0, ap (λ n. drop n (y ∷ ys)) on ∙ below.1)

same_take : {A B : Type 0} (k : ℕ) (xs : List A) (ys : List B) → length xs ≡ length ys → length (take k xs) ≡ length (take k ys)
same_take zero xs ys same = refl
same_take (suc k) [] [] same = refl
same_take (suc k) [] (y ∷ ys) same = absurd (omega (arith, same))
same_take (suc k) (x ∷ xs) [] same = absurd (omega (arith, same))
same_take (suc k) (x ∷ xs) (y ∷ ys) same = ap suc (same_take k xs ys (omega (arith, same)))

none_left : {A : Type 0} (k : ℕ) (xs : List A) → drop k xs ≡ [] → length xs ≤ k
none_left k [] h = omega arith
none_left zero (x ∷ xs) h = absurd cc
none_left (suc k) (x ∷ xs) h = let below = none_left k xs h in omega (arith, below)

set_seam : {A : Type 0} (front rest : List A) (x y : A) → slice_set (front ++ x ∷ rest) (length front) y ≡ front ++ y ∷ rest
set_seam [] rest x y = refl
set_seam (z ∷ front) rest x y = ap (λ zs. z ∷ zs) (set_seam front rest x y)

entries_more : (made : ℕ → Option Entry) (marked : ℕ → Bool) (ps : List ℕ) (os : List Entry) (p : ℕ) (o : Entry) → length os ≡ length ps →
    entries_made made marked (ps ++ p ∷ []) (os ++ o ∷ []) ≡ entries_made made marked ps os ++ cons_option (made_if (marked p) (made p) (Some o)) []
entries_more made marked [] [] p o same = refl
entries_more made marked [] (x ∷ os) p o same = absurd (omega (arith, same))
entries_more made marked (q ∷ ps) [] p o same = absurd (omega (arith, same))
entries_more made marked (q ∷ ps) (x ∷ os) p o same =
    let first = made_if (marked q) (made q) (Some x) in
    let last = cons_option (made_if (marked p) (made p) (Some o)) [] in
    ap (cons_option first) (entries_more made marked ps os p o (omega (arith, same)))
    ∙ cons_append first (entries_made made marked ps os) last

-- the entries at the first places
abbrev front_of : (ℕ → Option Entry) → (ℕ → Bool) → ℕ → List ℕ → List Entry → List Entry
front_of made marked k places old = entries_made made marked (take k places) (take k old)

-- Up to an index the entries are what they are after an edit.
abbrev pub AreMadeTo : (ℕ → Option Entry) → (ℕ → Bool) → List ℕ → ℕ → List MadeEntry → Type 0
AreMadeTo made marked places k ms = (old : List Entry) → length old ≡ length places →
    (with_made ms old ≡ front_of made marked k places old ++ drop k old) × (length (front_of made marked k places old) ≡ k)

add_one : (b : Bool) (m : Option Entry) (k : ℕ) (ms after : List MadeEntry) (old front rest : List Entry) (o : Entry) →
    with_made ms old ≡ front ++ o ∷ rest → length front ≡ k → MakesAgain b m k ms after →
    (with_made after old ≡ (front ++ cons_option (made_if b m (Some o)) []) ++ rest) × (length (front ++ cons_option (made_if b m (Some o)) []) ≡ k + 1)
add_one false m k ms after old front rest o so long is = (
  ap (λ (l : List MadeEntry). with_made l old) is ∙ so ∙ sym (append_assoc front (o ∷ []) rest),
  omega (arith, length-append front (o ∷ []), long),
)
add_one true None k ms after old front rest o so long is = absurd is
add_one true (Some e) k ms after old front rest o so long is = (
  ap (λ (l : List MadeEntry). with_made l old) is
      ∙ with_more ms (record { index = k; entry = e }) old
      ∙ (λ j. slice_set (so j) (sym long j) e)
      ∙ set_seam front rest o e
      ∙ sym (append_assoc front (e ∷ []) rest),
  omega (arith, length-append front (e ∷ []), long),
)

pub made_next : (made : ℕ → Option Entry) (marked : ℕ → Bool) (places : List ℕ) (k p : ℕ) (ms after : List MadeEntry) → k < length places → p ≡ get_or places k 0 →
    AreMadeTo made marked places k ms → MakesAgain (marked p) (made p) k ms after → AreMadeTo made marked places (k + 1) after
made_next made marked places k p ms after less is before makes old same = go (drop k old) refl
  where
    so : (with_made ms old ≡ front_of made marked k places old ++ drop k old) × (length (front_of made marked k places old) ≡ k)
    so = before old same

    go : (d : List Entry) → drop k old ≡ d → (with_made after old ≡ front_of made marked (k + 1) places old ++ drop (k + 1) old) × (length (front_of made marked (k + 1) places old) ≡ k + 1)
    go [] none = absurd (let all = none_left k old none in omega (arith, all, less, same))
    go (o ∷ rest) here =
        let front = front_of made marked k places old in
        let next = next_of k old o rest here in
        let place = next_of k places p (drop (k + 1) places) (drop_more places k 0 less ∙ ap (λ (x : ℕ). x ∷ drop (k + 1) places) (sym is)) in
        let more : front_of made marked (k + 1) places old ≡ front ++ cons_option (made_if (marked p) (made p) (Some o)) [] =
        (λ j. entries_made made marked (place.0 j) (next.0 j)) ∙ entries_more made marked (take k places) (take k old) p o (same_take k old places same) in
        let added = add_one (marked p) (made p) k ms after old front rest o (so.0 ∙ ap (λ (l : List Entry). front ++ l) here) so.1 makes in
        (added.0 ∙ (λ j. sym more j ++ sym next.1 j), ap (λ (l : List Entry). length l) more ∙ added.1)

pub made_all : (made : ℕ → Option Entry) (marked : ℕ → Bool) (places : List ℕ) (k : ℕ) (ms : List MadeEntry) → length places ≤ k → AreMadeTo made marked places k ms → AreMadeAgain made marked places ms
made_all made marked places k ms all made_to old same =
    (made_to old same).0
    ∙ (λ j. entries_made made marked (take_all k places all j) (take_all k old (omega (arith, all, same)) j) ++ drop_all k old (omega (arith, all, same)) j)
    ∙ append-nil (entries_made made marked places old)
