-- The laws of the items of a text.
use Rattle.std.specs.Prelude.{nat_lt, ◌==◌, ◌||◌}
use Rattle.std.proofs.Common.{◌≡◌, ℕ, suc, ◌+◌, ◌-◌, ◌<◌, ◌≤◌, Bool, true, false, cond, List, [], ◌∷◌, ◌++◌, length, take, drop, map, refl, sym, ap, subst, ◌∙◌, arith}
use Rattle.std.proofs.lemmas.List.{map-append}
use Rattle.std.proofs.lemmas.Bool.{lt-ltb, ne_eqb, ltb-false, false≢true}
use Rattle.bt_bib.specs.declared.spot.Spot.{Spot}
use Rattle.bt_bib.specs.declared.placed_pieces.PlacedPiece.{PlacedPiece}
use Rattle.bt_bib.specs.Spot.{at, here, start, spot_from}
use Rattle.bt_bib.specs.Values.{next_part}
use Rattle.bt_bib.specs.Fields.{next_field}
use Rattle.bt_bib.specs.BibText.{pieces_of}
use Rattle.bt_bib.specs.inner.Cases.{next_one, pieces_from}
use Rattle.bt_bib.specs.Boundaries.{last_end, Rises}
use Rattle.bt_bib.specs.inner.Boundaries.{end_place, below}
use Rattle.bt_bib.specs.laws.Laws.{offset, as_piece, RestIsMoved, BoundaryStays, FaultIsFinal, AnyBoundServes}
use Rattle.bt_bib.proofs.RunLemmas.{same_spot}
use Rattle.bt_bib.proofs.ReachLemmas.{Reaches}
use Rattle.bt_bib.proofs.ManyLemmas.{many_same}
use Rattle.bt_bib.proofs.FieldLemmas.{joined_less, next_field_less}
use Rattle.bt_bib.proofs.PieceLemmas.{next_piece_less}
use Rattle.bt_bib.proofs.BoundaryLemmas.{rest_law, moved_law}
use Rattle.bt_bib.proofs.laws.BoundaryLemmas.{rest_reached}
use Rattle.bt_bib.proofs.KeptLemmas.{kept_law}
use Rattle.bt_bib.proofs.RiseLemmas.{spans_rise, one_of, none_there}
use Rattle.bt_bib.proofs.SpliceLemmas.{kept_pieces}

pub from_offset : (a : Spot) → start.line ≤ a.line → spot_from (offset a) start ≡ a
from_offset a le = same_spot _ _ _ _ (omega arith) (omega arith)

line_least : (text : List ℕ) (a : Spot) → Reaches (here text start) (here text a) → start.line ≤ a.line
line_least text a r = omega (arith, ap (λ (s : Spot). s.line) r.spot)

pub rest_is_moved : RestIsMoved
unfolding pieces_of
rest_is_moved text front back is =
    let a = last_end start front in
    let rest = drop a.place text in
    let after_byte : spot_from (offset a) start ≡ a = from_offset a (line_least text a (rest_reached text start front back is)) in
    rest_law text start front back is ∙ ap (λ s. pieces_from (at s rest)) (sym after_byte) ∙ moved_law (offset a) start rest

-- a boundary below a place is among the pieces that end below it
any_append : (k : ℕ) (xs ys : List ℕ) → one_of k xs ≡ true → one_of k (xs ++ ys) ≡ true
any_append k [] ys h = absurd (false≢true h)
any_append k (x ∷ xs) ys h = elim (x == k) as (λ b. (b || one_of k xs) ≡ true → (b || one_of k (xs ++ ys)) ≡ true) [
  | true ↦ λ _. refl
  | false ↦ λ rest. any_append k xs ys rest
] h

none_above : (k limit : ℕ) (place : ℕ) (p : PlacedPiece) (ps : List PlacedPiece) → Rises limit place (p ∷ ps) → k < end_place p → one_of k (end_place p ∷ map end_place ps) ≡ false
none_above k limit place p ps r lt = rw (ne_eqb (end_place p) k (λ e. omega arith)) (none_there k limit (end_place p) ps r.2 (omega arith))

still_there : (k begin limit place : ℕ) (p : PlacedPiece) (ps : List PlacedPiece) (b : Bool) → nat_lt (end_place p) begin ≡ b → k < begin → Rises limit place (p ∷ ps) → one_of k (end_place p ∷ map end_place ps) ≡ true → (one_of k (map end_place ps) ≡ true → one_of k (map end_place (below begin ps)) ≡ true) → one_of k (map end_place (cond b (p ∷ below begin ps) [])) ≡ true
still_there k begin limit place p ps true is lt r h step = elim (end_place p == k) as (λ b. (b || one_of k (map end_place ps)) ≡ true → (b || one_of k (map end_place (below begin ps))) ≡ true) [
  | true ↦ λ _. refl
  | false ↦ λ rest. step rest
] h
still_there k begin limit place p ps false is lt r h step =
    let le : k < end_place p = omega (arith, ltb-false (end_place p) begin is) in
    absurd (false≢true (sym (none_above k limit place p ps r le) ∙ h))

pub stays_below : (k begin limit place : ℕ) (ps : List PlacedPiece) → k < begin → Rises limit place ps → one_of k (map end_place ps) ≡ true → one_of k (map end_place (below begin ps)) ≡ true
stays_below k begin limit place [] lt r h = absurd (false≢true h)
stays_below k begin limit place (p ∷ ps) lt r h = still_there k begin limit place p ps (nat_lt (end_place p) begin) refl lt r h (λ rest. stays_below k begin limit (end_place p) ps lt r.2 rest)

or_first : (a b c : Bool) → (a || b) ≡ true → (b ≡ true → c ≡ true) → (a || c) ≡ true
or_first true b c h k = refl
or_first false b c h k = k h

pub boundary_stays : BoundaryStays
boundary_stays old new begin end inserted place is lt h =
    let ps = pieces_of old in
    let kept = below begin ps in
    let rest = pieces_from (here new (last_end start kept)) in
    let new_ends : map end_place (pieces_of new) ≡ map end_place kept ++ map end_place rest = ap (map end_place) (kept_pieces old new begin end inserted is) ∙ map-append end_place kept rest in
    or_first (0 == place) (one_of place (map end_place ps)) (one_of place (map end_place (pieces_of new))) h (λ there. ap (one_of place) new_ends ∙ any_append place (map end_place kept) (map end_place rest) (stays_below place begin (length old) 0 ps lt (spans_rise old) there))

-- the pieces up to and including one end below the place after its end
front_rises : (limit place : ℕ) (front : List PlacedPiece) (p : PlacedPiece) (back : List PlacedPiece) → Rises limit place (front ++ p ∷ back) → place < end_place p
front_rises limit place [] p back r = omega (arith, r.0, r.1)
front_rises limit place (q ∷ front) p back r = omega (arith, r.0, r.1, front_rises limit (end_place q) front p back r.2)

below_front : (limit place : ℕ) (front : List PlacedPiece) (p : PlacedPiece) (back : List PlacedPiece) → Rises limit place (front ++ p ∷ back) → below (end_place p + 1) (front ++ p ∷ back) ≡ front ++ p ∷ below (end_place p + 1) back
below_front limit place [] p back r = rw (lt-ltb (end_place p) (end_place p + 1) (omega arith)) refl
below_front limit place (q ∷ front) p back r = rw (lt-ltb (end_place q) (end_place p + 1) (omega (arith, front_rises limit (end_place q) front p back r.2))) (ap (λ l. q ∷ l) (below_front limit (end_place q) front p back r.2))

append_cons : (front : List PlacedPiece) (p : PlacedPiece) (xs ys : List PlacedPiece) → (front ++ p ∷ xs) ++ ys ≡ front ++ p ∷ (xs ++ ys)
append_cons [] p xs ys = refl
append_cons (q ∷ front) p xs ys = ap (λ l. q ∷ l) (append_cons front p xs ys)

pub fault_is_final : FaultIsFinal
unfolding pieces_of
fault_is_final text other front back i f is fault same =
    let p = as_piece i in
    let limit = i.end.place + 1 in
    let all : limit - 0 ≡ limit = omega arith in
    let agree : take (limit - 0) text ≡ take (limit - 0) other = ap (λ n. take n text) all ∙ sym same ∙ ap (λ n. take n other) (sym all) in
    let kept = below limit (pieces_of text) in
    let rest = pieces_from (here other (last_end start kept)) in
    let law : pieces_of other ≡ kept ++ rest = kept_law text other start limit agree in
    let kept_is : kept ≡ front ++ p ∷ below limit back = ap (below limit) is ∙ below_front (length text) 0 front p back (subst (Rises (length text) 0) is (spans_rise text)) in
    (below limit back ++ rest, law ∙ ap (λ l. l ++ rest) kept_is ∙ append_cons front p (below limit back) rest)

pub any_bound_serves : AnyBoundServes
any_bound_serves close reserve h lt =
    let enough : length h.rest < suc (length h.rest) = omega arith in
    (many_same (next_part close) (joined_less close) reserve (suc (length h.rest)) h lt enough, many_same (next_field close) (next_field_less close) reserve (suc (length h.rest)) h lt enough, many_same next_one next_piece_less reserve (suc (length h.rest)) h lt enough)
