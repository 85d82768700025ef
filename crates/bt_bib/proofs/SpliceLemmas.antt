-- What is kept of a text, what is re-read, and what is moved.
use Rattle.std.specs.Prelude.{nat_lt, nat_le, ◌==◌, ◌&&◌}
use Rattle.std.proofs.Common.{◌≡◌, ℕ, zero, suc, ◌+◌, ◌-◌, ◌<◌, ◌≤◌, Bool, true, false, cond, List, [], ◌∷◌, ◌++◌, length, take, drop, map, Some, None, refl, sym, ap, subst, ◌∙◌, append_assoc, length-append, arith, inl, inr}
use Rattle.std.proofs.lemmas.List.{drop-drop, append-nil, drop_all, take_at, drop_at, length-take-le, take-append-drop}
use Rattle.std.proofs.lemmas.Bool.{cases_lt, lt-leb, le-leb, leb-true, ltb-true}
use Rattle.bt_bib.specs.declared.spot.Spot.{Spot}
use Rattle.bt_bib.specs.declared.placed_pieces.PlacedPiece.{PlacedPiece}
use Rattle.bt_bib.specs.Spot.{at, here, start, item_start, spot_from}
use Rattle.bt_bib.specs.inner.Spot.{IsIn}
use Rattle.bt_bib.specs.Pieces.{next_piece}
use Rattle.bt_bib.specs.BibText.{pieces_of}
use Rattle.bt_bib.specs.inner.Cases.{pieces_from}
use Rattle.bt_bib.specs.declared.splice.ItemsEdit.{ItemsEdit}
use Rattle.bt_bib.specs.Boundaries.{last_end, Rises, moved_piece}
use Rattle.bt_bib.specs.inner.Boundaries.{below, InOrder}
use Rattle.bt_bib.specs.Splice.{IsSplice, IsItemsEdit, is_common, is_boundary, reread_from, reread_upto}
use Rattle.bt_bib.specs.inner.CommonBoundary.{until, IsJoint}
use Rattle.bt_bib.specs.inner.PlacedPieces.{rebased, rebased_piece}
use Rattle.bt_bib.proofs.RunLemmas.{same_spot}
use Rattle.bt_bib.proofs.PlacedLemmas.{in_reached}
use Rattle.bt_bib.proofs.BoundaryLemmas.{rest_law, moved_law, EndsAt, next_ends, pieces_by, pieces_step}
use Rattle.bt_bib.proofs.KeptLemmas.{kept_law, keeps}
use Rattle.bt_bib.proofs.RiseLemmas.{spans_rise, below_zero, from_is_greatest, first_boundary, least_is_first, boundary_is_last}

-- after a boundary that both texts have, the pieces are the old ones moved
spot_rebased : (a b s : Spot) → rebased a b (spot_from a s) ≡ spot_from b s
spot_rebased a b s = same_spot _ _ _ _ (omega arith) (omega arith)

pub all_rebased : (a b : Spot) (ps : List PlacedPiece) → map (rebased_piece a b) (map (moved_piece a) ps) ≡ map (moved_piece b) ps
all_rebased a b [] = refl
all_rebased a b (p ∷ ps) = rw (spot_rebased a b p.start, spot_rebased a b p.end, all_rebased a b ps) refl

-- the rest of a text, wherever it is
rest_moved : (s : Spot) (r : List ℕ) → pieces_from (at s r) ≡ map (moved_piece s) (pieces_from (at item_start r))
rest_moved s r = ap (λ u. pieces_from (at u r)) (same_spot _ _ _ _ (omega arith) (omega arith)) ∙ moved_law s item_start r

-- a copy that moves nowhere
still_spot : (s : Spot) → rebased item_start item_start s ≡ s
still_spot s = same_spot _ _ _ _ (omega arith) (omega arith)

pub all_still : (ps : List PlacedPiece) → map (rebased_piece item_start item_start) ps ≡ ps
all_still [] = refl
all_still (p ∷ ps) = rw (still_spot p.start, still_spot p.end, all_still ps) refl

-- what a splice leaves
begin_taken : (old new : List ℕ) (begin end inserted : ℕ) → IsSplice old new begin end inserted → length (take begin old) ≡ begin
begin_taken old new begin end inserted is = length-take-le begin old (omega (arith, is.order, is.inside))

pub same_front : (old new : List ℕ) (begin end inserted : ℕ) → IsSplice old new begin end inserted → take begin new ≡ take begin old
same_front old new begin end inserted is = ap (take begin) (is.text ∙ append_assoc (take begin old) is.bytes (drop end old)) ∙ take_at (take begin old) (is.bytes ++ drop end old) begin (begin_taken old new begin end inserted is)

pub same_back : (old new : List ℕ) (begin end inserted : ℕ) → IsSplice old new begin end inserted → drop (begin + inserted) new ≡ drop end old
same_back old new begin end inserted is = ap (drop (begin + inserted)) is.text ∙ drop_at (take begin old ++ is.bytes) (drop end old) (begin + inserted) (omega (arith, length-append (take begin old) is.bytes, begin_taken old new begin end inserted is, is.count))

-- the pieces up to a boundary are the first ones of all
abbrev pub behind_until : (ℕ → Bool) → Spot → List PlacedPiece → List PlacedPiece
behind_until test s [] = []
behind_until test s (p ∷ ps) = cond (test s.place) (p ∷ ps) (behind_until test p.end ps)

split_if : (b : Bool) (p : PlacedPiece) (ps xs ys : List PlacedPiece) → ps ≡ xs ++ ys → p ∷ ps ≡ cond b [] (p ∷ xs) ++ cond b (p ∷ ps) ys
split_if true p ps xs ys e = refl
split_if false p ps xs ys e = ap (λ (l : List PlacedPiece). p ∷ l) e

until_splits : (test : ℕ → Bool) (s : Spot) (ps : List PlacedPiece) → ps ≡ until test s ps ++ behind_until test s ps
until_splits test s [] = refl
until_splits test s (p ∷ ps) = split_if (test s.place) p ps (until test p.end ps) (behind_until test p.end ps) (until_splits test p.end ps)

-- what is kept, and what is read from there on
pub kept_pieces : (old new : List ℕ) (begin end inserted : ℕ) → IsSplice old new begin end inserted → pieces_of new ≡ below begin (pieces_of old) ++ pieces_from (here new (last_end start (below begin (pieces_of old))))
unfolding pieces_of
kept_pieces old new begin end inserted is =
    let all : begin - 0 ≡ begin = omega arith in
    let front : take (begin - 0) old ≡ take (begin - 0) new = ap (λ n. take n old) all ∙ sym (same_front old new begin end inserted is) ∙ ap (λ n. take n new) (sym all) in
    kept_law old new start begin front

-- what is kept, what is read from there on up to a boundary that passes a test, and what is after it
pub respliced_law : (old new : List ℕ) (begin end inserted : ℕ) → IsSplice old new begin end inserted → (test : ℕ → Bool) → (let kept = below begin (pieces_of old) in let from = last_end start kept in let again = until test from (pieces_from (here new from)) in
    pieces_of new ≡ kept ++ (again ++ pieces_from (here new (last_end from again))))
unfolding pieces_of
respliced_law old new begin end inserted is test =
    let kept = below begin (pieces_from (here old start)) in
    let from = last_end start kept in
    let ps = pieces_from (here new from) in
    let all : begin - 0 ≡ begin = omega arith in
    let front : take (begin - 0) old ≡ take (begin - 0) new = ap (λ n. take n old) all ∙ sym (same_front old new begin end inserted is) ∙ ap (λ n. take n new) (sym all) in
    kept_law old new start begin front
    ∙ ap (λ (l : List PlacedPiece). kept ++ l) (until_splits test from ps ∙ ap (λ (l : List PlacedPiece). until test from ps ++ l) (rest_law new from (until test from ps) (behind_until test from ps) (until_splits test from ps)))

-- the pieces after a boundary that two texts have, at their places in each of them
pub record Behind (a b : Spot) (these those : List PlacedPiece) : Type 0 where
  pub behind : List PlacedPiece
  pub these_are : these ≡ map (moved_piece a) behind
  pub those_are : those ≡ map (moved_piece b) behind

joined_law : (old new : List ℕ) (begin end inserted : ℕ) → IsSplice old new begin end inserted → (front back : List PlacedPiece) (b : Spot) → pieces_of old ≡ front ++ back → begin + inserted ≤ b.place → (last_end start front).place + (begin + inserted) ≡ b.place + end → Behind (last_end start front) b back (pieces_from (here new b))
unfolding pieces_of
joined_law old new begin end inserted is front back b parts le place =
    let a = last_end start front in
    let n = b.place - (begin + inserted) in
    let new_rest : drop b.place new ≡ drop n (drop (begin + inserted) new) = ap (λ k. drop k new) (omega arith) ∙ sym (drop-drop n (begin + inserted) new) in
    let old_rest : drop n (drop end old) ≡ drop a.place old = drop-drop n end old ∙ ap (λ k. drop k old) (omega arith) in
    let same : drop b.place new ≡ drop a.place old = new_rest ∙ ap (drop n) (same_back old new begin end inserted is) ∙ old_rest in
    record {
      behind = pieces_from (at item_start (drop b.place new));
      these_are = rest_law old start front back parts ∙ ap (λ r. pieces_from (at a r)) (sym same) ∙ rest_moved a (drop b.place new);
      those_are = rest_moved b (drop b.place new);
    }

-- a loop that reads on up to such a boundary
pub until_done : (test : ℕ → Bool) (s : Spot) (ps : List PlacedPiece) → test s.place ≡ true → until test s ps ≡ []
until_done test s [] h = refl
until_done test s (p ∷ ps) h = rw h refl

pub until_more : (test : ℕ → Bool) (s : Spot) (p : PlacedPiece) (ps : List PlacedPiece) → test s.place ≡ false → until test s (p ∷ ps) ≡ p ∷ until test p.end ps
until_more test s p ps h = rw h refl

pub ends_here : (text : List ℕ) (s e : Spot) → next_piece (here text s) ≡ (None, here text e) → pieces_from (here text s) ≡ []
ends_here text s e is = pieces_step (here text s) ∙ ap pieces_by is

pub goes_on : (text : List ℕ) (s e : Spot) (p : PlacedPiece) → next_piece (here text s) ≡ (Some p, here text e) → (pieces_from (here text s) ≡ p ∷ pieces_from (here text e)) × (p.end ≡ e)
goes_on text s e p is = (pieces_step (here text s) ∙ ap pieces_by is, subst EndsAt is (next_ends (here text s)))

-- nothing more comes
pub nothing_more : (items u t : List PlacedPiece) → u ≡ [] → items ++ u ≡ t → items ≡ t
nothing_more items u t none so_far = sym (append-nil items) ∙ ap (λ l. items ++ l) (sym none) ∙ so_far

pub none_until : (test : ℕ → Bool) (text : List ℕ) (s e : Spot) → next_piece (here text s) ≡ (None, here text e) → until test s (pieces_from (here text s)) ≡ []
none_until test text s e is = ap (until test s) (ends_here text s e is)

-- one more piece was re-read
pub one_until : (test : ℕ → Bool) (text : List ℕ) (s e : Spot) (p : PlacedPiece) → test s.place ≡ false → next_piece (here text s) ≡ (Some p, here text e) → until test s (pieces_from (here text s)) ≡ p ∷ until test e (pieces_from (here text e))
one_until test text s e p h is =
    let on = goes_on text s e p is in
    ap (until test s) on.0 ∙ until_more test s p (pieces_from (here text e)) h ∙ ap (λ u. p ∷ until test u (pieces_from (here text e))) on.1

pub one_more : (items u v t : List PlacedPiece) (p : PlacedPiece) → u ≡ p ∷ v → items ++ u ≡ t → (items ++ p ∷ []) ++ v ≡ t
one_more items u v t p is so_far = append_assoc items (p ∷ []) v ∙ ap (λ l. items ++ l) (sym is) ∙ so_far

-- The last boundary below the splice lies in the new text.
pub from_in : (old new : List ℕ) (begin end inserted : ℕ) → IsSplice old new begin end inserted → IsIn new (last_end start (below begin (pieces_of old)))
unfolding pieces_of
from_in old new begin end inserted is =
    let all : begin - 0 ≡ begin = omega arith in
    let k = keeps begin (here old start) (here new start) (record { spot = refl; rest = ap (λ n. take n old) all ∙ sym (same_front old new begin end inserted is) ∙ ap (λ n. take n new) (sym all) }) in
    subst (IsIn new) k.spot (in_reached new start k.on (record { place = omega arith; line = omega arith }) k.way)

-- before the inserted bytes no boundary is common
not_common : (begin end inserted : ℕ) (old : List PlacedPiece) (place : ℕ) → place < begin → is_common old begin end inserted place ≡ false
not_common begin end inserted old place lt = rw (lt-leb (begin + inserted) place (omega arith)) refl

-- boundaries below the splice are passed over
skip_if : (test : ℕ → Bool) (begin len : ℕ) (ys : List PlacedPiece) (s : Spot) (p : PlacedPiece) (ps : List PlacedPiece) (b : Bool) → test s.place ≡ false → (b ≡ true → first_boundary test len p.end (below begin ps ++ ys) ≡ first_boundary test len (last_end p.end (below begin ps)) ys) → first_boundary test len s (cond b (p ∷ below begin ps) [] ++ ys) ≡ first_boundary test len (last_end s (cond b (p ∷ below begin ps) [])) ys
skip_if test begin len ys s p ps true h k = rw h (k refl)
skip_if test begin len ys s p ps false h k = refl

skip_below : (test : ℕ → Bool) (begin len : ℕ) (ys : List PlacedPiece) → ((n : ℕ) → n < begin → test n ≡ false) → (s : Spot) (ps : List PlacedPiece) → s.place < begin → first_boundary test len s (below begin ps ++ ys) ≡ first_boundary test len (last_end s (below begin ps)) ys
skip_below test begin len ys none s [] lt = refl
skip_below test begin len ys none s (p ∷ ps) lt = skip_if test begin len ys s p ps (nat_lt p.end.place begin) (none s.place lt) (λ h. skip_below test begin len ys none p.end ps (ltb-true p.end.place begin h))

-- reading up to a boundary that passes a test stops at the first one that does
found_if : (test : ℕ → Bool) (len : ℕ) (s : Spot) (p : PlacedPiece) (ps : List PlacedPiece) (b : Bool) → test s.place ≡ b → (b ≡ false → first_boundary test len p.end ps ≡ cond (test (last_end p.end (until test p.end ps)).place) (last_end p.end (until test p.end ps)).place len)
    → cond b s.place (first_boundary test len p.end ps) ≡ cond (test (last_end s (cond b [] (p ∷ until test p.end ps))).place) (last_end s (cond b [] (p ∷ until test p.end ps))).place len
found_if test len s p ps true is k = rw is refl
found_if test len s p ps false is k = k refl

first_is : (test : ℕ → Bool) (len : ℕ) (s : Spot) (ps : List PlacedPiece) → first_boundary test len s ps ≡ (let stop = last_end s (until test s ps) in cond (test stop.place) stop.place len)
first_is test len s [] = refl
first_is test len s (p ∷ ps) = found_if test len s p ps (test s.place) refl (λ _. first_is test len p.end ps)

-- Reading continues to where the definition's re-reading stops, or to the new text's end.
pub upto_law : (old new : List ℕ) (begin end inserted : ℕ) → IsSplice old new begin end inserted →
    (let test = is_common (pieces_of old) begin end inserted in let from = last_end start (below begin (pieces_of old)) in let stop = last_end from (until test from (pieces_from (here new from))) in
    reread_upto old new begin end inserted ≡ cond (test stop.place) stop.place (length new))
upto_law old new begin end inserted is =
    let ps = pieces_of old in
    let test : ℕ → Bool = is_common ps begin end inserted in
    let from = last_end start (below begin ps) in
    let rest = pieces_from (here new from) in
    let skipped : first_boundary test (length new) start (below begin ps ++ rest) ≡ first_boundary test (length new) from rest =
    elim (cases_lt 0 begin) [
      | inl lt ↦ skip_below test begin (length new) rest (λ n below. not_common begin end inserted ps n below) start ps lt
      | inr le ↦ (let zero_begin : below begin ps ≡ [] = ap (λ b. below b ps) (omega arith) ∙ below_zero ps in rw zero_begin refl)
    ] in
    least_is_first test (length new) start (pieces_of new) (spans_rise new) ∙ ap (first_boundary test (length new) start) (kept_pieces old new begin end inserted is) ∙ skipped ∙ first_is test (length new) from rest

pub from_law : (old : List ℕ) (begin : ℕ) → reread_from old begin ≡ (last_end start (below begin (pieces_of old))).place
from_law old begin = from_is_greatest (length old) begin (pieces_of old) (spans_rise old)

pub in_order : (text : List ℕ) (ps : List PlacedPiece) → ps ≡ pieces_of text → InOrder ps
in_order text ps is = (length text, subst (Rises (length text) 0) (sym is) (spans_rise text))

-- whether a place of the new text is a boundary of both

pub common_is_last : (old : List PlacedPiece) (begin end inserted place count : ℕ) (s : Spot) → InOrder old → begin + inserted ≤ place → below (place - (begin + inserted) + end + 1) old ≡ take count old → s ≡ last_end start (take count old) → is_common old begin end inserted place ≡ (s.place == (place - (begin + inserted) + end))
common_is_last old begin end inserted place count s order le is last =
    let back = place - (begin + inserted) + end in
    ap (λ v. v && is_boundary old back) (le-leb (begin + inserted) place le)
    ∙ boundary_is_last back order.0 old order.1
    ∙ ap (λ l. (last_end start l).place == back) is
    ∙ ap (λ (u : Spot). u.place == back) (sym last)

and_left : (a b : Bool) → (a && b) ≡ true → a ≡ true
and_left true b h = refl
and_left false b h = h

common_le : (begin end inserted : ℕ) (old : List PlacedPiece) (place : ℕ) → is_common old begin end inserted place ≡ true → begin + inserted ≤ place
common_le begin end inserted old place h = leb-true (begin + inserted) place (and_left (nat_le (begin + inserted) place) _ h)

-- what respliced returns, in terms of what the code has at hand
abbrev pub Law : List ℕ → List ℕ → ℕ → ℕ → ℕ → List PlacedPiece → Type 0
Law old new begin end inserted ps = (from stop : Spot) → from ≡ last_end start (below begin ps) → stop ≡ last_end from (until (is_common ps begin end inserted) from (pieces_from (here new from)))
    → (pieces_of new ≡ below begin ps ++ (until (is_common ps begin end inserted) from (pieces_from (here new from)) ++ pieces_from (here new stop))) × (reread_upto old new begin end inserted ≡ cond (is_common ps begin end inserted stop.place) stop.place (length new)) × (reread_from old begin ≡ from.place) × IsIn new from

law_at : (old new : List ℕ) (begin end inserted : ℕ) → IsSplice old new begin end inserted → Law old new begin end inserted (pieces_of old)
law_at old new begin end inserted is from stop e f =
    let test : ℕ → Bool = is_common (pieces_of old) begin end inserted in
    let kept = below begin (pieces_of old) in
    let stops : Spot → Spot = λ s. last_end s (until test s (pieces_from (here new s))) in
    let law = subst (λ s. pieces_of new ≡ kept ++ (until test s (pieces_from (here new s)) ++ pieces_from (here new (stops s)))) (sym e) (respliced_law old new begin end inserted is test) in
    let upto = subst (λ s. reread_upto old new begin end inserted ≡ cond (test (stops s).place) (stops s).place (length new)) (sym e) (upto_law old new begin end inserted is) in (
      subst (λ u. pieces_of new ≡ kept ++ (until test from (pieces_from (here new from)) ++ pieces_from (here new u))) (sym f) law,
      subst (λ (u : Spot). reread_upto old new begin end inserted ≡ cond (test u.place) u.place (length new)) (sym f) upto,
      from_law old begin ∙ ap (λ (s : Spot). s.place) (sym e),
      subst (IsIn new) (sym e) (from_in old new begin end inserted is),
    )

pub law_of : (old new : List ℕ) (begin end inserted : ℕ) (ps : List PlacedPiece) → IsSplice old new begin end inserted → ps ≡ pieces_of old → Law old new begin end inserted ps
law_of old new begin end inserted ps is e = subst (Law old new begin end inserted) (sym e) (law_at old new begin end inserted is)

-- after a common boundary
joined_back : (old new : List ℕ) (begin end inserted count : ℕ) (ps : List PlacedPiece) (stop back : Spot) → IsSplice old new begin end inserted → ps ≡ pieces_of old → IsJoint ps begin end inserted stop.place (Some count) → back ≡ last_end start (take count ps) → Behind back stop (drop count ps) (pieces_from (here new stop))
joined_back old new begin end inserted count ps stop back is e joint last =
    let le = common_le begin end inserted ps stop.place joint.0 in
    let parts : pieces_of old ≡ take count ps ++ drop count ps = sym e ∙ sym (take-append-drop count ps) in
    subst (λ s. Behind s stop (drop count ps) (pieces_from (here new stop))) (sym last) (joined_law old new begin end inserted is (take count ps) (drop count ps) stop parts le (omega (arith, joint.2, le)))

-- boundaries among the pieces that end below a place lie below it
ends_step : (b : Bool) (limit k : ℕ) (p : PlacedPiece) (ps : List PlacedPiece) → nat_lt p.end.place limit ≡ b → suc k < length (cond b (p ∷ below limit ps) []) → (p.end.place < limit → k < length (below limit ps) → (last_end p.end (take k ps)).place < limit) → (last_end p.end (take k ps)).place < limit
ends_step true limit k p ps is lt next = next (ltb-true p.end.place limit is) (omega (arith, lt))
ends_step false limit k p ps is lt next = absurd (omega (arith, lt))

ends_below : (limit k : ℕ) (s : Spot) (ps : List PlacedPiece) → s.place < limit → k < length (below limit ps) → (last_end s (take k ps)).place < limit
ends_below limit zero s ps first lt = first
ends_below limit (suc k) s [] first lt = absurd (omega (arith, lt))
ends_below limit (suc k) s (p ∷ ps) first lt = ends_step (nat_lt p.end.place limit) limit k p ps refl lt (λ e less. ends_below limit k p.end ps e less)

none_below : (ps : List PlacedPiece) (k : ℕ) → k < length (below 0 ps) → ⊥
none_below ps k lt = let none = ap length (below_zero ps) in omega (arith, lt, none)

-- a boundary at or after the beginning of the splice isn't one of those below it
kept_first : (old new : List ℕ) (begin end inserted kept count : ℕ) (ps : List PlacedPiece) (stop : Spot) → IsSplice old new begin end inserted → IsJoint ps begin end inserted stop.place (Some count) → length (below begin ps) ≡ kept → kept ≤ count
kept_first old new begin end inserted kept count ps stop is joint is_kept =
    elim (cases_lt count kept) [
      | inr le ↦ le
      | inl lt ↦
          elim (cases_lt 0 begin) [
            | inl some ↦ (let below_it = ends_below begin count start ps some (omega (arith, lt, is_kept)) in absurd (omega (arith, below_it, joint.2, is.order)))
            | inr none ↦
                (let zero_begin : begin ≡ 0 = omega (arith, none) in
                let some : count < length (below begin ps) = omega (arith, lt, is_kept) in
                absurd (none_below ps count (subst (λ b. count < length (below b ps)) zero_begin some)))
          ]
    ]

-- what stays, what is re-read, and what is moved
pub edit_joint : (old new : List ℕ) (begin end inserted kept count read : ℕ) (self ps none again : List PlacedPiece) (from stop back : Spot) → IsSplice old new begin end inserted → ps ≡ self → self ≡ pieces_of old →
    kept ≤ length ps → below begin ps ≡ take kept ps → from ≡ last_end start (take kept ps) → none ≡ [] → again ≡ none ++ until (is_common ps begin end inserted) from (pieces_from (here new from)) → stop ≡ last_end from (until (is_common ps begin end inserted) from (pieces_from (here new from))) →
    IsJoint ps begin end inserted stop.place (Some count) → back ≡ last_end start (take count ps) →
    IsItemsEdit self (pieces_of new) (record { before = kept; upto = count; new = again; stood = back; stand = stop; read = read })
edit_joint old new begin end inserted kept count read self ps none again from stop back is same e within kept_is from_is none_is again_is stop_is joint back_is =
    let moved = joined_back old new begin end inserted count ps stop back is (same ∙ e) joint back_is in
    let law = law_of old new begin end inserted ps is (same ∙ e) from stop (from_is ∙ ap (last_end start) (sym kept_is)) stop_is in
    let edit : ItemsEdit = record { before = kept; upto = count; new = again; stood = back; stand = stop; read = read } in
    let read_again = again_is ∙ ap (λ (l : List PlacedPiece). l ++ until (is_common ps begin end inserted) from (pieces_from (here new from))) none_is in
    subst (λ (qs : List PlacedPiece). IsItemsEdit qs (pieces_of new) edit) same (record {
      order = kept_first old new begin end inserted kept count ps stop is joint (ap length kept_is ∙ length-take-le kept ps within);
      inside = joint.1;
      behind = moved.behind;
      stood = moved.these_are;
      pieces =
          law.0
          ∙ (λ j. kept_is j ++ (sym read_again j ++ moved.those_are j))
          ∙ sym (append_assoc (take kept ps) again (map (moved_piece stop) moved.behind));
    })

pub edit_end : (old new : List ℕ) (begin end inserted kept read : ℕ) (self ps none again : List PlacedPiece) (from stop : Spot) → IsSplice old new begin end inserted → ps ≡ self → self ≡ pieces_of old →
    kept ≤ length ps → below begin ps ≡ take kept ps → from ≡ last_end start (take kept ps) → none ≡ [] → again ≡ none ++ until (is_common ps begin end inserted) from (pieces_from (here new from)) → stop ≡ last_end from (until (is_common ps begin end inserted) from (pieces_from (here new from))) →
    pieces_from (here new stop) ≡ [] →
    IsItemsEdit self (pieces_of new) (record { before = kept; upto = length ps; new = again; stood = stop; stand = stop; read = read })
edit_end old new begin end inserted kept read self ps none again from stop is same e within kept_is from_is none_is again_is stop_is nothing =
    let law = law_of old new begin end inserted ps is (same ∙ e) from stop (from_is ∙ ap (last_end start) (sym kept_is)) stop_is in
    let edit : ItemsEdit = record { before = kept; upto = length ps; new = again; stood = stop; stand = stop; read = read } in
    let read_again = again_is ∙ ap (λ (l : List PlacedPiece). l ++ until (is_common ps begin end inserted) from (pieces_from (here new from))) none_is in
    subst (λ (qs : List PlacedPiece). IsItemsEdit qs (pieces_of new) edit) same (record {
      order = within;
      inside = omega arith;
      behind = [];
      stood = drop_all (length ps) ps (omega arith);
      pieces =
          law.0
          ∙ (λ j. kept_is j ++ (sym read_again j ++ nothing j))
          ∙ sym (append_assoc (take kept ps) again []);
    })

-- the pieces after an edit, as the code makes them
pub edited_is : (ps qs front all : List PlacedPiece) (e : ItemsEdit) → IsItemsEdit ps qs e → front ≡ take e.before ps ++ e.new → all ≡ front ++ map (rebased_piece e.stood e.stand) (drop e.upto ps) → all ≡ qs
edited_is ps qs front all e is front_is all_is =
    all_is
    ∙ (λ j. front_is j ++ map (rebased_piece e.stood e.stand) (is.stood j))
    ∙ ap (λ l. (take e.before ps ++ e.new) ++ l) (all_rebased e.stood e.stand is.behind)
    ∙ sym is.pieces

pub edited_back : (ps qs : List PlacedPiece) (e : ItemsEdit) → IsItemsEdit ps qs e → qs ≡ (take e.before ps ++ e.new) ++ map (rebased_piece e.stood e.stand) (drop e.upto ps)
edited_back ps qs e is =
    is.pieces
    ∙ ap (λ l. (take e.before ps ++ e.new) ++ l) (sym (all_rebased e.stood e.stand is.behind) ∙ (λ j. map (rebased_piece e.stood e.stand) (sym is.stood j)))
