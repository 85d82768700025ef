-- The pieces of the parts of a cut text are those of the whole, if no item lies across a cut.
use Rattle.std.specs.Prelude.{nat_lt, ◌==◌, ◌||◌, ◌&&◌}
use Rattle.std.specs.List.{list_all}
use Rattle.std.proofs.Common.{◌≡◌, ℕ, zero, suc, ◌+◌, ◌-◌, ◌<◌, ◌≤◌, Bool, true, false, cond, List, [], ◌∷◌, ◌++◌, length, take, drop, Option, Some, None, Ok, refl, sym, ap, subst, ◌∙◌, arith, inl, inr, length-append}
use Rattle.std.specs.Option.{is_none}
use Rattle.std.proofs.Math.Seq.{take-append-add, drop-append-add, take-append_seam}
use Rattle.std.proofs.lemmas.List.{append-nil, length-take-le, take_all, take-append-drop}
use Rattle.std.proofs.lemmas.List.Folds.{list_all-append}
use Rattle.std.proofs.lemmas.Bool.{cases_lt, ltb-true, leb-true, eqb-true, false≢true, and_parts, or_cases}
use Rattle.bt_bib.specs.declared.spot.Spot.{Spot}
use Rattle.bt_bib.specs.declared.fault.ItemFault.{ItemFault}
use Rattle.bt_bib.specs.declared.item.Item.{Item}
use Rattle.bt_bib.specs.declared.item.Piece.{Piece}
use Rattle.bt_bib.specs.declared.item.Piece.TheVariants as pieces
use Rattle.bt_bib.specs.declared.placed_pieces.PlacedPiece.{PlacedPiece}
use Rattle.bt_bib.specs.Spot.{Here, at, start, item_start, spot_after, spot_after_byte}
use Rattle.bt_bib.specs.Scan.{first, after_run}
use Rattle.bt_bib.specs.Pieces.{piece, placed, next_piece}
use Rattle.bt_bib.specs.BibText.{pieces_of}
use Rattle.bt_bib.specs.inner.Cases.{next_one, next_at, pieces_from, is_text, next_piece_from}
use Rattle.bt_bib.specs.laws.Laws.{offset}
use Rattle.bt_bib.specs.laws.Spelled.{ItemOf}
use Rattle.bt_bib.specs.Parts.{is_whole, lies_before, lies_behind, is_cut, AreCuts}
use Rattle.bt_bib.specs.laws.Parts.{pieces_at, pieces_in_parts, PartsAreRead}
use Rattle.bt_bib.proofs.RunLemmas.{past_run, past_is_run, passed-nil, passed-cons}
use Rattle.bt_bib.proofs.ReachLemmas.{Reaches, reaches_sum, reaches_place, passed-append, past_reaches}
use Rattle.bt_bib.proofs.ManyLemmas.{IsLess}
use Rattle.bt_bib.proofs.laws.SpellingLemmas.{Stops}
use Rattle.bt_bib.proofs.laws.SpelledItemLemmas.{spelled_items_are_read}
use Rattle.bt_bib.proofs.laws.FaultlessItemLemmas.{past_stops, read_piece}
use Rattle.bt_bib.proofs.laws.FaultlessDatabaseLemmas.{at_sign, item_stands}
use Rattle.bt_bib.proofs.PieceLemmas.{piece_further, next_piece_reaches, next_piece_less}
use Rattle.bt_bib.proofs.AlikeLemmas.{Alike}
use Rattle.bt_bib.proofs.SameLemmas.{Same}
use Rattle.bt_bib.proofs.SamePieceLemmas.{next_piece_same}
use Rattle.bt_bib.proofs.BoundaryLemmas.{pieces_by, pieces_step, moved_law}
use Rattle.bt_bib.proofs.laws.LawLemmas.{from_offset}

-- ---- text before the next `@`

-- the front of a text and its rest, cut after n bytes
abbrev front_of : ℕ → Spot → List ℕ → Here
front_of n s r = at s (take n r)

abbrev rest_of : ℕ → Spot → List ℕ → Here
rest_of n s r = at (spot_after (take n r) s) (drop n r)

record InText (n : ℕ) (s : Spot) (r : List ℕ) : Type 0 where
  ends : past_run is_text s (take n r) ≡ at (spot_after (take n r) s) []
  goes_on : past_run is_text (spot_after (take n r) s) (drop n r) ≡ past_run is_text s r

pub run_nil : (s : Spot) → past_run is_text s [] ≡ at s []
unfolding past_run
run_nil s = refl

in_text_none : (s : Spot) (r : List ℕ) → InText zero s r
in_text_none s r = record {
  ends = run_nil s ∙ ap (λ s. at s []) (sym (passed-nil s));
  goes_on = ap (λ s. past_run is_text s r) (passed-nil s);
}

pub run_cons : (s : Spot) (b : ℕ) (bs : List ℕ) → past_run is_text s (b ∷ bs) ≡ cond (is_text b) (past_run is_text (spot_after_byte b s) bs) (at s (b ∷ bs))
unfolding past_run
run_cons s b bs = refl

in_text_by : (v : Bool) (n : ℕ) (s : Spot) (b : ℕ) (bs : List ℕ) → is_text b ≡ v → suc n ≤ (cond v (past_run is_text (spot_after_byte b s) bs) (at s (b ∷ bs))).spot.place - s.place → (n ≤ (past_run is_text (spot_after_byte b s) bs).spot.place - (s.place + 1) → InText n (spot_after_byte b s) bs) → InText (suc n) s (b ∷ bs)
in_text_by false n s b bs is le step = absurd (omega arith)
in_text_by true n s b bs is le step =
    let t = spot_after_byte b s in
    let x = step (omega arith) in
    let spot : spot_after (b ∷ take n bs) s ≡ spot_after (take n bs) t = passed-cons b (take n bs) s in
    record {
      ends = run_cons s b (take n bs) ∙ ap (λ v. cond v (past_run is_text t (take n bs)) (at s (b ∷ take n bs))) is ∙ x.ends ∙ ap (λ u. at u []) (sym spot);
      goes_on = ap (λ u. past_run is_text u (drop n bs)) spot ∙ x.goes_on ∙ sym (run_cons s b bs ∙ ap (λ v. cond v (past_run is_text t bs) (at s (b ∷ bs))) is);
    }

in_text : (n : ℕ) (s : Spot) (r : List ℕ) → n ≤ (past_run is_text s r).spot.place - s.place → InText n s r
in_text zero s r le = in_text_none s r
in_text (suc n) s [] le = record {
  ends = run_nil s ∙ ap (λ s. at s []) (sym (passed-nil s));
  goes_on = ap (λ s. past_run is_text s []) (passed-nil s);
}
in_text (suc n) s (b ∷ bs) le = in_text_by (is_text b) n s b bs refl (subst (λ (h : Here). suc n ≤ h.spot.place - s.place) (run_cons s b bs) le) (λ le. in_text n (spot_after_byte b s) bs le)

pub none_from : (h : Here) (x : Here) → after_run is_text h ≡ x → x.rest ≡ [] → pieces_from h ≡ []
unfolding next_piece
none_from h x is none = pieces_step h ∙ ap (λ (q : Here). pieces_by (next_piece_from q (first q.rest))) is ∙ ap (λ r. pieces_by (next_piece_from x (first r))) none

pub same_from : (h k : Here) → after_run is_text h ≡ after_run is_text k → pieces_from h ≡ pieces_from k
unfolding next_piece
same_from h k is = pieces_step h ∙ ap (λ (q : Here). pieces_by (next_piece_from q (first q.rest))) is ∙ sym (pieces_step k)

-- what is read from a text that is cut after n bytes
abbrev IsParted : ℕ → Here → Type 0
IsParted n h = pieces_from h ≡ pieces_from (front_of n h.spot h.rest) ++ pieces_from (rest_of n h.spot h.rest)

parted_in_text : (n : ℕ) (h : Here) → n ≤ (after_run is_text h).spot.place - h.spot.place → IsParted n h
parted_in_text n h le =
    let s = h.spot in
    let r = h.rest in
    let walked = past_is_run is_text in
    let x = in_text n s r (subst (λ (k : Here). n ≤ k.spot.place - s.place) (walked s r) le) in
    let front : pieces_from (front_of n s r) ≡ [] = none_from (front_of n s r) (at (spot_after (take n r) s) []) (walked s (take n r) ∙ x.ends) refl in
    let rest : pieces_from (rest_of n s r) ≡ pieces_from h = same_from (rest_of n s r) h (walked (spot_after (take n r) s) (drop n r) ∙ x.goes_on ∙ sym (walked s r)) in
    sym rest ∙ ap (λ ps. ps ++ pieces_from (rest_of n s r)) (sym front)

-- the front up to a place in it, and what follows it
front_then : (n : ℕ) (h e : Here) → Reaches h e → (let m = n - (e.spot.place - h.spot.place) in
    e.spot.place - h.spot.place ≤ n → Reaches (front_of n h.spot h.rest) (front_of m e.spot e.rest) × (rest_of n h.spot h.rest ≡ rest_of m e.spot e.rest))
front_then n h e x le =
    let f = x.front in
    let m = n - (e.spot.place - h.spot.place) in
    let count : n ≡ length f + m = omega (arith, le, ap (λ (s : Spot). s.place) x.spot) in
    let front : take n h.rest ≡ f ++ take m e.rest = ap (λ (r : List ℕ). take n r) x.parts ∙ ap (λ k. take k (f ++ e.rest)) count ∙ take-append-add f e.rest m in
    let rest : drop n h.rest ≡ drop m e.rest = ap (λ (r : List ℕ). drop n r) x.parts ∙ ap (λ k. drop k (f ++ e.rest)) count ∙ drop-append-add f e.rest m in
    let spot : spot_after (take n h.rest) h.spot ≡ spot_after (take m e.rest) e.spot = ap (λ t. spot_after t h.spot) front ∙ passed-append f (take m e.rest) h.spot ∙ ap (spot_after (take m e.rest)) (sym x.spot) in
    (record { front = f; parts = front; spot = x.spot }, ap (λ s. at s (drop n h.rest)) spot ∙ ap (at (spot_after (take m e.rest) e.spot)) rest)

-- a piece that ends below the cut
parted_below : (n : ℕ) (h e : Here) (p : PlacedPiece) → n ≤ length h.rest → next_piece h ≡ (Some p, e) → e.spot.place < h.spot.place + n → IsParted (n - (e.spot.place - h.spot.place)) e → IsParted n h
parted_below n h e p within is lt later =
    let s = h.spot in
    let r = h.rest in
    let k = front_of n s r in
    let limit = s.place + n in
    let m = n - (e.spot.place - s.place) in
    let ahead : Reaches h e = subst (λ (x : Option PlacedPiece × Here). Reaches h x.1) is (next_piece_reaches h) in
    let up = reaches_place h e ahead in
    let less : limit - s.place ≡ n = omega arith in
    let twice : take n (take n r) ≡ take n r = take-within n r within in
    let alike : Alike limit h k = record { spot = refl; rest = ap (λ j. take j r) less ∙ sym twice ∙ ap (λ j. take j (take n r)) (sym less) } in
    let same : Same limit (Ok (Some p, e)) (next_one k) = subst (λ (x : Option PlacedPiece × Here). Same limit (Ok x) (next_one k)) is (next_piece_same limit h k alike) in
    let t = same.alike lt in
    let g = t.0 in
    let one : next_piece k ≡ (Some p, g) = cc t.1 in
    let found : Reaches k g = subst (λ (x : Option PlacedPiece × Here). Reaches k x.1) one (next_piece_reaches k) in
    let to = front_then n h e ahead (omega arith) in
    let spot : g.spot ≡ e.spot = t.2.spot in
    let left : length g.rest ≡ limit - e.spot.place = omega (arith, reaches_sum k g found, length-take-le n r within, ap (λ (s : Spot). s.place) spot) in
    let by : limit - e.spot.place ≡ m = omega (arith, up) in
    let rest : g.rest ≡ take m e.rest = sym (take_all (limit - e.spot.place) g.rest (omega (arith, left))) ∙ sym t.2.rest ∙ ap (λ j. take j e.rest) by in
    let there : g ≡ front_of m e.spot e.rest = ap (λ u. at u g.rest) spot ∙ ap (at e.spot) rest in
    let front : pieces_from k ≡ p ∷ pieces_from (front_of m e.spot e.rest) = pieces_step k ∙ ap pieces_by one ∙ ap (λ u. p ∷ pieces_from u) there in
    pieces_step h ∙ ap pieces_by is ∙ ap (λ ps. p ∷ ps) later
    ∙ ap (λ u. p ∷ (pieces_from (front_of m e.spot e.rest) ++ pieces_from u)) (sym to.1)
    ∙ ap (λ ps. ps ++ pieces_from (rest_of n s r)) (sym front)
  where
    take-within : (n : ℕ) (r : List ℕ) → n ≤ length r → take n (take n r) ≡ take n r
    take-within n r le = take_all n (take n r) (omega (arith, length-take-le n r le))

-- ---- a faultless item that ends at the cut

run_front_by : (v : Bool) (n : ℕ) (s : Spot) (b : ℕ) (bs : List ℕ) → is_text b ≡ v → (let t = spot_after_byte b s in let a = past_run is_text t bs in
    s.place + 1 ≤ a.spot.place → (a.spot.place - t.place ≤ n → past_run is_text t (take n bs) ≡ at a.spot (take (n - (a.spot.place - t.place)) a.rest)) → (let c = cond v a (at s (b ∷ bs)) in c.spot.place - s.place ≤ suc n → past_run is_text s (b ∷ take n bs) ≡ at c.spot (take (suc n - (c.spot.place - s.place)) c.rest)))
run_front_by false n s b bs is up step le =
    let all : suc n ≡ suc n - (s.place - s.place) = omega arith in
    run_cons s b (take n bs) ∙ ap (λ v. cond v (past_run is_text (spot_after_byte b s) (take n bs)) (at s (b ∷ take n bs))) is ∙ ap (λ k. at s (take k (b ∷ bs))) all
run_front_by true n s b bs is up step le =
    let t = spot_after_byte b s in
    let a = past_run is_text t bs in
    let less : a.spot.place - t.place ≤ n = omega (arith, le, up) in
    let count : n - (a.spot.place - t.place) ≡ suc n - (a.spot.place - s.place) = omega (arith, up) in
    run_cons s b (take n bs) ∙ ap (λ v. cond v (past_run is_text t (take n bs)) (at s (b ∷ take n bs))) is ∙ step less ∙ ap (λ k. at a.spot (take k a.rest)) count

past_up : (s : Spot) (r : List ℕ) → s.place ≤ (past_run is_text s r).spot.place
past_up s r = subst (λ (k : Here). s.place ≤ k.spot.place) (past_is_run is_text s r) (reaches_place (at s r) (after_run is_text (at s r)) (past_reaches is_text (at s r)))

-- the run of text in a front, if it extends at least as far
run_front : (n : ℕ) (s : Spot) (r : List ℕ) → (let a = past_run is_text s r in a.spot.place - s.place ≤ n → past_run is_text s (take n r) ≡ at a.spot (take (n - (a.spot.place - s.place)) a.rest))
unfolding past_run
run_front n s [] le = ap (λ (x : List ℕ). past_run is_text s x) (take-nil n) ∙ run_nil s ∙ ap (at s) (sym (take-nil (n - (s.place - s.place))))
  where
    take-nil : (n : ℕ) → take n (let x : List ℕ = [] in x) ≡ []
    take-nil zero = refl
    take-nil (suc n) = refl
run_front zero s (b ∷ bs) le = run_zero (is_text b) s b bs le
  where
    run_zero : (v : Bool) (s : Spot) (b : ℕ) (bs : List ℕ) → (let c = cond v (past_run is_text (spot_after_byte b s) bs) (at s (b ∷ bs)) in c.spot.place - s.place ≤ 0 → at s [] ≡ at c.spot (take (0 - (c.spot.place - s.place)) c.rest))
    run_zero false s b bs le =
        let none : 0 ≡ 0 - (s.place - s.place) = omega arith in
        ap (λ k. at s (take k (b ∷ bs))) none
    run_zero true s b bs le = absurd (omega (arith, past_up (spot_after_byte b s) bs))
run_front (suc n) s (b ∷ bs) le = run_front_by (is_text b) n s b bs refl (past_up (spot_after_byte b s) bs) (run_front n (spot_after_byte b s) bs) le

-- the pieces from the next `@` on
pub step_from : (h a : Here) (b : ℕ) (bs : List ℕ) → after_run is_text h ≡ a → a.rest ≡ b ∷ bs → next_piece h ≡ next_at a.spot (piece a.rest)
unfolding next_piece
step_from h a b bs is starts = ap (λ (q : Here). next_piece_from q (first q.rest)) is ∙ ap (λ (r : List ℕ). next_piece_from a (first r)) starts

-- a faultless item is read from its own bytes alone
alone : (i : Item) (t : List ℕ) → ItemOf i t → piece t ≡ (pieces.Item i, at (spot_after t item_start) [])
alone i t spelled = ap piece (sym (append-nil t)) ∙ spelled_items_are_read i t [] spelled

parted_at : (n : ℕ) (h a : Here) (b : ℕ) (bs : List ℕ) (i : Item) → n ≤ length h.rest → after_run is_text h ≡ a → a.rest ≡ b ∷ bs → first a.rest ≡ Some 64 → (piece a.rest).0 ≡ pieces.Item i → i.fault ≡ None → (piece a.rest).1.spot.place + a.spot.place ≡ h.spot.place + n → IsParted n h
parted_at n h a b bs i within is starts sign item faultless ends =
    let s = h.spot in
    let r = h.rest in
    let k = front_of n s r in
    let q = (piece a.rest).1 in
    let p = (placed a.spot (piece a.rest)).0 in
    let e = (placed a.spot (piece a.rest)).1 in
    let x = item_stands a.rest (piece a.rest) i item faultless (read_piece a.rest sign) in
    let t = x.text in
    let to_a : Reaches h a = subst (λ k. Reaches h k) is (past_reaches is_text h) in
    let up = reaches_place h a to_a in
    let count : q.spot.place ≡ length t = omega (arith, ap (λ (s : Spot). s.place) x.spot) in
    let walked = past_is_run is_text s r in
    let way : past_run is_text s r ≡ a = sym walked ∙ is in
    let fronted : past_run is_text s (take n r) ≡ at a.spot (take (n - (a.spot.place - s.place)) a.rest) = subst (λ (a : Here). a.spot.place - s.place ≤ n → past_run is_text s (take n r) ≡ at a.spot (take (n - (a.spot.place - s.place)) a.rest)) way (run_front n s r) (omega (arith, count, ends)) in
    let long_as : n - (a.spot.place - s.place) ≡ length t = omega (arith, count, ends, up) in
    let bytes : take (n - (a.spot.place - s.place)) a.rest ≡ t = ap (λ j. take j a.rest) long_as ∙ ap (take (length t)) x.rest ∙ take-append_seam t q.rest in
    let found : after_run is_text k ≡ at a.spot t = past_is_run is_text s (take n r) ∙ fronted ∙ ap (at a.spot) bytes in
    let long : 0 < length t = omega (arith, count, subst (λ r. 0 < (piece r).1.spot.place) (sym starts) (piece_further b bs)) in
    let whole : piece t ≡ ((piece a.rest).0, at q.spot []) = alone i t x.spelled ∙ ap (λ u. (pieces.Item i, at u [])) (sym x.spot) ∙ ap (λ y. (y, at q.spot [])) (sym item) in
    let one : next_piece k ≡ (Some p, at e.spot []) = by_byte t (at a.spot t) k long refl found ∙ ap (next_at a.spot) whole in
    let nothing : pieces_from (at e.spot []) ≡ [] = none_from (at e.spot []) (at e.spot []) (past_is_run is_text e.spot [] ∙ run_nil e.spot) refl in
    let front : pieces_from k ≡ p ∷ [] = pieces_step k ∙ ap pieces_by one ∙ ap (λ ps. p ∷ ps) nothing in
    let ahead : Reaches h e = subst (λ (x : Option PlacedPiece × Here). Reaches h x.1) (step_from h a b bs is starts) (next_piece_reaches h) in
    let to = front_then n h e ahead (omega (arith, ends)) in
    let no_more : n - (e.spot.place - s.place) ≡ 0 = omega (arith, ends) in
    let last : rest_of n s r ≡ e = to.1 ∙ ap (λ j. rest_of j e.spot e.rest) no_more ∙ ap (λ u. at u e.rest) (passed-nil e.spot) in
    pieces_step h ∙ ap pieces_by (step_from h a b bs is starts)
    ∙ ap (λ u. p ∷ pieces_from u) (sym last)
    ∙ ap (λ ps. ps ++ pieces_from (rest_of n s r)) (sym front)
  where
    by_byte : (t : List ℕ) (g k : Here) → 0 < length t → g.rest ≡ t → after_run is_text k ≡ g → next_piece k ≡ next_at g.spot (piece g.rest)
    by_byte [] g k lt is found = absurd (omega arith)
    by_byte (c ∷ cs) g k lt is found = step_from k g c cs found is

-- ---- a cut text

pub no_fault : (f : Option ItemFault) → is_none f ≡ true → f ≡ None
no_fault None h = refl
no_fault (Some f) h = absurd (false≢true h)

end_lies : (n : ℕ) (h a : Here) (b : ℕ) (bs : List ℕ) → n ≤ length h.rest → after_run is_text h ≡ a → a.rest ≡ b ∷ bs → first a.rest ≡ Some 64 → (x : Piece × Here) → piece a.rest ≡ x → (is_whole x.0 ≡ true) × ((x.1.spot.place + a.spot.place == (h.spot.place + n)) ≡ true) → IsParted n h
end_lies n h a b bs within is starts sign (pieces.Comment, k) reads y = absurd (false≢true y.0)
end_lies n h a b bs within is starts sign (pieces.Item i, k) reads y =
    parted_at n h a b bs i within is starts sign (ap (λ (x : Piece × Here). x.0) reads) (no_fault i.fault y.0) (ap (λ (x : Piece × Here). x.1.spot.place + a.spot.place) reads ∙ eqb-true (k.spot.place + a.spot.place) (h.spot.place + n) y.1)

parted_by : (n : ℕ) (h : Here) (s : Spot) (r : List ℕ) → after_run is_text h ≡ at s r → Stops is_text r → n ≤ length h.rest → s.place - h.spot.place < n → is_cut (pieces_from h) (h.spot.place + n) ≡ true → ((e : Here) (m : ℕ) → length e.rest < length h.rest → m ≤ length e.rest → is_cut (pieces_from e) (e.spot.place + m) ≡ true → IsParted m e) → IsParted n h
parted_by n h s [] is stop within lt cut later =
    let to_a : Reaches h (at s []) = subst (λ k. Reaches h k) is (past_reaches is_text h) in
    absurd (omega (arith, reaches_sum h (at s []) to_a))
parted_by n h s (b ∷ bs) is stop within lt cut later =
    let a = at s (b ∷ bs) in
    let x = piece a.rest in
    let e = (placed s x).1 in
    let p = (placed s x).0 in
    let limit = h.spot.place + n in
    let step = step_from h a b bs is refl in
    let less : length e.rest < length h.rest = subst (λ (x : Option PlacedPiece × Here). IsLess h (Ok x)) step (next_piece_less h) in
    let ahead : Reaches h e = subst (λ (x : Option PlacedPiece × Here). Reaches h x.1) step (next_piece_reaches h) in
    let all : pieces_from h ≡ p ∷ pieces_from e = pieces_step h ∙ ap pieces_by step in
    let parts = and_parts (lies_before limit p || lies_behind limit p) (list_all (λ p. lies_before limit p || lies_behind limit p) (pieces_from e)) (subst (λ ps. is_cut ps limit ≡ true) all cut) in
    let to_a : Reaches h a = subst (λ k. Reaches h k) is (past_reaches is_text h) in
    let m = n - (e.spot.place - h.spot.place) in
    elim (or_cases (lies_before limit p) (lies_behind limit p) parts.0) [
      | inl before ↦
          elim (or_cases (nat_lt p.end.place limit) (is_whole p.piece && p.end.place == limit) before) [
            | inl v ↦
                let under = ltb-true e.spot.place limit v in
                let on : e.spot.place + m ≡ limit = omega (arith, under, reaches_place h e ahead) in
                parted_below n h e p within step under (later e m less (omega (arith, reaches_sum h e ahead, reaches_place h e ahead)) (ap (is_cut (pieces_from e)) on ∙ parts.1))
            | inr v ↦ end_lies n h a b bs within is refl (ap (λ b. Some b) (at_sign b stop)) x refl (and_parts (is_whole p.piece) (p.end.place == limit) v)
          ]
      | inr behind ↦ absurd (omega (arith, leb-true limit s.place behind, lt, reaches_place h a to_a))
    ]

parted_below_fuel : (fuel n : ℕ) (h : Here) → length h.rest < fuel → n ≤ length h.rest → is_cut (pieces_from h) (h.spot.place + n) ≡ true → IsParted n h
parted_below_fuel zero n h lt within cut = absurd (omega arith)
parted_below_fuel (suc fuel) n h lt within cut =
    let a = after_run is_text h in
    elim (cases_lt (a.spot.place - h.spot.place) n) [
      | inl far ↦ parted_by n h a.spot a.rest refl (past_stops is_text h) within far cut (λ e m less fits there. parted_below_fuel fuel m e (omega arith) fits there)
      | inr le ↦ parted_in_text n h le
    ]

-- reading a cut text is reading its front, and then the rest
pub parted : (n : ℕ) (h : Here) → n ≤ length h.rest → is_cut (pieces_from h) (h.spot.place + n) ≡ true → IsParted n h
parted n h within cut = parted_below_fuel (suc (length h.rest)) n h (omega arith) within cut

-- ---- all parts

pub stands_moved : (s : Spot) (r : List ℕ) → start.line ≤ s.line → pieces_at s r ≡ pieces_from (at s r)
unfolding pieces_of
stands_moved s r le = sym (moved_law (offset s) start r) ∙ ap (λ u. pieces_from (at u r)) (from_offset s le)

cuts_of_rest : (from end : ℕ) (front back : List PlacedPiece) (cs : List ℕ) → AreCuts (front ++ back) from end cs → AreCuts back from end cs
cuts_of_rest from end front back [] a = a
cuts_of_rest from end front back (c ∷ cs) a = (a.0, (and_parts (list_all (λ p. lies_before c p || lies_behind c p) front) (is_cut back c) (sym (list_all-append (λ p. lies_before c p || lies_behind c p) front back) ∙ a.1)).1, cuts_of_rest c end front back cs a.2)

within_end : (ps : List PlacedPiece) (from end : ℕ) (cs : List ℕ) → AreCuts ps from end cs → from ≤ end
within_end ps from end [] a = a
within_end ps from end (c ∷ cs) a = omega (arith, a.0, within_end ps c end cs a.2)

in_parts : (s : Spot) (r cuts : List ℕ) → start.line ≤ s.line → AreCuts (pieces_from (at s r)) s.place (s.place + length r) cuts → pieces_in_parts s r cuts ≡ pieces_from (at s r)
in_parts s r [] le a = stands_moved s r le
in_parts s r (c ∷ cs) le a =
    let n = c - s.place in
    let t = spot_after (take n r) s in
    let end = s.place + length r in
    let last = within_end (pieces_from (at s r)) c end cs a.2 in
    let fits : n ≤ length r = omega (arith, last, a.0) in
    let taken : length (take n r) ≡ n = length-take-le n r fits in
    let on : s.place + n ≡ c = omega (arith, a.0) in
    let law = parted n (at s r) fits (ap (is_cut (pieces_from (at s r))) on ∙ a.1) in
    let rest_cuts = cuts_of_rest c end (pieces_from (front_of n s r)) (pieces_from (rest_of n s r)) cs (subst (λ ps. AreCuts ps c end cs) law a.2) in
    let place : c ≡ t.place = omega (arith, a.0, taken) in
    let left : end ≡ t.place + length (drop n r) = omega (arith, a.0, taken, sym (ap length (take-append-drop n r)), length-append (take n r) (drop n r)) in
    let moved_on = subst (λ end. AreCuts (pieces_from (rest_of n s r)) t.place end cs) left (subst (λ from. AreCuts (pieces_from (rest_of n s r)) from end cs) place rest_cuts) in
    let rest = in_parts t (drop n r) cs (omega (arith, le)) moved_on in
    ap (λ ps. ps ++ pieces_in_parts t (drop n r) cs) (stands_moved s (take n r) le) ∙ ap (λ ps. pieces_from (front_of n s r) ++ ps) rest ∙ sym law

pub parts_are_read : PartsAreRead
unfolding pieces_of
parts_are_read text cuts a =
    let end : length text ≡ start.place + length text = omega arith in
    in_parts start text cuts (omega arith) (subst (λ n. AreCuts (pieces_of text) 0 n cuts) end a)
