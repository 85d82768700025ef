-- The spans of a text's pieces rise, so its boundaries do.
use Rattle.std.specs.Prelude.{nat_lt, ◌==◌, ◌||◌, max}
use Rattle.std.specs.List.{filter, list_any}
use Rattle.std.specs.List.Sorted.{IsNonDecreasingBy}
use Rattle.std.proofs.Common.{◌≡◌, ℕ, zero, suc, ◌+◌, ◌-◌, ◌<◌, ◌≤◌, Bool, true, false, cond, List, [], ◌∷◌, length, take, map, get_or, Option, Some, None, Ok, refl, sym, ap, subst, ◌∙◌, arith}
use Rattle.std.proofs.Math.Nat.{max-eq_left, max-eq_right, min-eq_left}
use Rattle.std.proofs.lemmas.Bool.{lt-ltb, le-ltb, ltb-true, ltb-false, ne_eqb, false≢true}
use Rattle.bt_bib.specs.declared.spot.Spot.{Spot}
use Rattle.bt_bib.specs.declared.placed_pieces.PlacedPiece.{PlacedPiece}
use Rattle.bt_bib.specs.Spot.{Here, here, start}
use Rattle.bt_bib.specs.Scan.{first, after_run}
use Rattle.bt_bib.specs.Pieces.{piece, next_piece}
use Rattle.bt_bib.specs.BibText.{pieces_of}
use Rattle.bt_bib.specs.inner.Cases.{pieces_from, is_text, next_piece_from}
use Rattle.bt_bib.specs.Boundaries.{last_end, boundaries, Rises}
use Rattle.bt_bib.specs.inner.Boundaries.{end_place, below}
use Rattle.bt_bib.specs.Splice.{greatest, least, is_boundary}
use Rattle.bt_bib.proofs.ReachLemmas.{Reaches, reaches_place, reaches_sum, past_reaches}
use Rattle.bt_bib.proofs.ManyLemmas.{IsLess}
use Rattle.bt_bib.proofs.PieceLemmas.{piece_further, next_piece_less, next_piece_reaches}
use Rattle.bt_bib.proofs.BoundaryLemmas.{EndsAt, next_ends, pieces_by, pieces_step}

-- the next piece lies after the place where its search began
abbrev SpanAhead : Here → Option PlacedPiece × Here → Type 0
SpanAhead h (None, e) = Unit {0}
SpanAhead h (Some p, e) = (h.spot.place ≤ p.start.place) × (p.start.place < e.spot.place)

span_at : (h g : Here) (r : List ℕ) → h.spot.place ≤ g.spot.place → g.rest ≡ r → SpanAhead h (next_piece_from g (first r))
span_at h g [] le is = tt
span_at h g (b ∷ r) le is = (let further = subst (λ x. 0 < (piece x).1.spot.place) (sym is) (piece_further b r) in (le, omega (arith, further)))

span_ahead : (h : Here) → SpanAhead h (next_piece h)
unfolding next_piece
span_ahead h = span_at h (after_run is_text h) (after_run is_text h).rest (reaches_place h (after_run is_text h) (past_reaches is_text h)) refl

rises_by : (h : Here) (x : Option PlacedPiece × Here) → EndsAt x → Reaches h x.1 → IsLess h (Ok x) → SpanAhead h x → ((e : Here) → length e.rest < length h.rest → Rises (e.spot.place + length e.rest) e.spot.place (pieces_from e)) → Rises (h.spot.place + length h.rest) h.spot.place (pieces_by x)
rises_by h (None, e) ends r less span step = omega arith
rises_by h (Some p, e) ends r less span step =
    let is : e.spot.place ≡ p.end.place = ap (λ (s : Spot). s.place) (sym ends) in (
      span.0,
      subst (λ n. p.start.place < n) is span.1,
      subst (λ n. Rises (h.spot.place + length h.rest) n (pieces_from e)) is (subst (λ n. Rises n e.spot.place (pieces_from e)) (reaches_sum h e r) (step e less)),
    )

rises_below : (n : ℕ) (h : Here) → length h.rest < n → Rises (h.spot.place + length h.rest) h.spot.place (pieces_from h)
rises_below zero h lt = absurd (omega arith)
rises_below (suc n) h lt = subst (λ ps. Rises (h.spot.place + length h.rest) h.spot.place ps) (sym (pieces_step h)) (rises_by h (next_piece h) (next_ends h) (next_piece_reaches h) (next_piece_less h) (span_ahead h) (λ e less. rises_below n e (omega arith)))

-- the spans of a text's pieces rise, up to its end
pub spans_rise : (text : List ℕ) → Rises (length text) 0 (pieces_of text)
unfolding pieces_of
spans_rise text = subst (λ n. Rises n 0 (pieces_from (here text start))) (omega arith) (rises_below (suc (length text)) (here text start) (omega arith))

pub rises_le : (limit place : ℕ) (ps : List PlacedPiece) → Rises limit place ps → place ≤ limit
rises_le limit place [] r = r
rises_le limit place (p ∷ ps) r = omega (arith, r.0, r.1, rises_le limit p.end.place ps r.2)

-- so do their ends, one by one
rise_at : (limit place : ℕ) (ps : List PlacedPiece) → Rises limit place ps → (j : ℕ) (d : PlacedPiece) → j < length ps → place < end_place (get_or ps j d)
rise_at limit place [] r j d lt = absurd (omega arith)
rise_at limit place (p ∷ ps) r zero d lt = omega (arith, r.0, r.1)
rise_at limit place (p ∷ ps) r (suc j) d lt = omega (arith, r.0, r.1, rise_at limit (end_place p) ps r.2 j d (omega arith))

pub ends_rise : (limit place : ℕ) (ps : List PlacedPiece) → Rises limit place ps → IsNonDecreasingBy end_place ps
ends_rise limit place [] r i j d le lt = absurd (omega arith)
ends_rise limit place (p ∷ ps) r zero zero d le lt = omega arith
ends_rise limit place (p ∷ ps) r zero (suc j) d le lt = omega (arith, rise_at limit (end_place p) ps r.2 j d (omega arith))
ends_rise limit place (p ∷ ps) r (suc i) zero d le lt = absurd (omega arith)
ends_rise limit place (p ∷ ps) r (suc i) (suc j) d le lt = ends_rise limit (end_place p) ps r.2 i j d (omega arith) (omega arith)

abbrev ends : List PlacedPiece → List ℕ
ends ps = map end_place ps

-- the last boundary below a place is the greatest
none_below : (begin limit place : ℕ) (ps : List PlacedPiece) → Rises limit place ps → begin ≤ place → filter (λ x. nat_lt x begin) (ends ps) ≡ []
none_below begin limit place [] r le = refl
none_below begin limit place (p ∷ ps) r le = rw (le-ltb (end_place p) begin (omega (arith, r.0, r.1))) (none_below begin limit (end_place p) ps r.2 (omega (arith, r.0, r.1)))

last_least : (limit begin : ℕ) (s : Spot) (ps : List PlacedPiece) → Rises limit s.place ps → s.place ≤ (last_end s (below begin ps)).place
last_least limit begin s [] r = omega arith
last_least limit begin s (p ∷ ps) r = elim (nat_lt (end_place p) begin) as (λ b. s.place ≤ (last_end s (cond b (p ∷ below begin ps) [])).place) [
  | true ↦ omega (arith, r.0, r.1, last_least limit begin p.end ps r.2)
  | false ↦ omega arith
]

greatest_if : (limit begin : ℕ) (s : Spot) (p : PlacedPiece) (ps : List PlacedPiece) (b : Bool) → nat_lt (end_place p) begin ≡ b → Rises limit s.place (p ∷ ps) → (end_place p < begin → greatest (filter (λ x. nat_lt x begin) (end_place p ∷ ends ps)) ≡ (last_end p.end (below begin ps)).place) → max s.place (greatest (filter (λ x. nat_lt x begin) (end_place p ∷ ends ps))) ≡ (last_end s (cond b (p ∷ below begin ps) [])).place
greatest_if limit begin s p ps true is r k =
    let lt : end_place p < begin = ltb-true (end_place p) begin is in
    ap (λ n. max s.place n) (k lt) ∙ max-eq_right (omega (arith, r.0, r.1, last_least limit begin p.end ps r.2))
greatest_if limit begin s p ps false is r k =
    ap (λ v. max s.place (greatest (cond v (end_place p ∷ filter (λ x. nat_lt x begin) (ends ps)) (filter (λ x. nat_lt x begin) (ends ps))))) is
    ∙ ap (λ l. max s.place (greatest l)) (none_below begin limit (end_place p) ps r.2 (ltb-false (end_place p) begin is))
    ∙ max-eq_left (omega arith)

greatest_is : (limit begin : ℕ) (s : Spot) (ps : List PlacedPiece) → Rises limit s.place ps → s.place < begin → greatest (filter (λ x. nat_lt x begin) (s.place ∷ ends ps)) ≡ (last_end s (below begin ps)).place
greatest_is limit begin s [] r lt = rw (lt-ltb s.place begin lt) (max-eq_left (omega arith))
greatest_is limit begin s (p ∷ ps) r lt =
    ap (λ v. greatest (cond v (s.place ∷ filter (λ x. nat_lt x begin) (end_place p ∷ ends ps)) (filter (λ x. nat_lt x begin) (end_place p ∷ ends ps)))) (lt-ltb s.place begin lt)
    ∙ greatest_if limit begin s p ps (nat_lt (end_place p) begin) refl r (λ below_begin. greatest_is limit begin p.end ps r.2 below_begin)

pub below_zero : (ps : List PlacedPiece) → below 0 ps ≡ []
below_zero [] = refl
below_zero (p ∷ ps) = ap (λ b. cond b (p ∷ below 0 ps) []) (le-ltb (end_place p) 0 (omega arith))

none_zero : (xs : List ℕ) → filter (λ x. nat_lt x 0) xs ≡ []
none_zero [] = refl
none_zero (x ∷ xs) = rw (le-ltb x 0 (omega arith)) (none_zero xs)

pub from_is_greatest : (limit begin : ℕ) (ps : List PlacedPiece) → Rises limit 0 ps → greatest (filter (λ x. nat_lt x begin) (boundaries ps)) ≡ (last_end start (below begin ps)).place
from_is_greatest limit zero ps r = ap greatest (none_zero (boundaries ps)) ∙ sym (ap (λ l. (last_end start l).place) (below_zero ps))
from_is_greatest limit (suc n) ps r = greatest_is limit (suc n) start ps r (omega arith)

-- the first boundary that passes a test, else a limit
abbrev pub first_boundary : (ℕ → Bool) → ℕ → Spot → List PlacedPiece → ℕ
first_boundary test limit s [] = cond (test s.place) s.place limit
first_boundary test limit s (p ∷ ps) = cond (test s.place) s.place (first_boundary test limit p.end ps)

-- it is the least one that passes
least_ge : (test : ℕ → Bool) (limit place : ℕ) (ps : List PlacedPiece) → Rises limit place ps → place ≤ least limit (filter test (ends ps))
least_ge test limit place [] r = r
least_ge test limit place (p ∷ ps) r =
    let rest = least_ge test limit (end_place p) ps r.2 in
    elim (test (end_place p)) as (λ b. place ≤ least limit (cond b (end_place p ∷ filter test (ends ps)) (filter test (ends ps)))) [
      | true ↦ omega (arith, r.0, r.1, min-eq_left rest)
      | false ↦ omega (arith, r.0, r.1, rest)
    ]

least_if : (test : ℕ → Bool) (limit : ℕ) (s : Spot) (rest : List ℕ) (found : ℕ) (b : Bool) → s.place ≤ least limit rest → least limit rest ≡ found → least limit (cond b (s.place ∷ rest) rest) ≡ cond b s.place found
least_if test limit s rest found true le is = min-eq_left le
least_if test limit s rest found false le is = is

pub least_is_first : (test : ℕ → Bool) (limit : ℕ) (s : Spot) (ps : List PlacedPiece) → Rises limit s.place ps → least limit (filter test (s.place ∷ ends ps)) ≡ first_boundary test limit s ps
least_is_first test limit s [] r = least_if test limit s [] limit (test s.place) r refl
least_is_first test limit s (p ∷ ps) r =
    let rest = filter test (end_place p ∷ ends ps) in
    let le : s.place ≤ least limit rest = least_ge test limit s.place (p ∷ ps) r in
    least_if test limit s rest (first_boundary test limit p.end ps) (test s.place) le (least_is_first test limit p.end ps r.2)

-- a place is a boundary if the last boundary up to it is that place
abbrev pub one_of : ℕ → List ℕ → Bool
one_of k xs = list_any (λ b. b == k) xs

pub none_there : (k limit place : ℕ) (ps : List PlacedPiece) → Rises limit place ps → k ≤ place → one_of k (ends ps) ≡ false
none_there k limit place [] r le = refl
none_there k limit place (p ∷ ps) r le = rw (ne_eqb (end_place p) k (λ e. omega (arith, r.0, r.1))) (none_there k limit (end_place p) ps r.2 (omega (arith, r.0, r.1)))

or_none : (a b : Bool) → b ≡ false → (a || b) ≡ a
or_none true b h = refl
or_none false b h = h

or_there : (a b : Bool) → a ≡ false → (a || b) ≡ b
or_there true b h = absurd (false≢true (sym h))
or_there false b h = refl

boundary_if : (k limit : ℕ) (s : Spot) (p : PlacedPiece) (ps : List PlacedPiece) (b : Bool) → nat_lt (end_place p) (k + 1) ≡ b → Rises limit s.place (p ∷ ps) → (end_place p ≤ k → one_of k (end_place p ∷ ends ps) ≡ ((last_end p.end (below (k + 1) ps)).place == k)) → one_of k (s.place ∷ end_place p ∷ ends ps) ≡ ((last_end s (cond b (p ∷ below (k + 1) ps) [])).place == k)
boundary_if k limit s p ps true is r step =
    let le : end_place p ≤ k = omega (arith, ltb-true (end_place p) (k + 1) is) in
    or_there (s.place == k) (one_of k (end_place p ∷ ends ps)) (ne_eqb s.place k (λ e. omega (arith, r.0, r.1))) ∙ step le
boundary_if k limit s p ps false is r step =
    let gt : k < end_place p = omega (arith, ltb-false (end_place p) (k + 1) is) in
    or_none (s.place == k) (one_of k (end_place p ∷ ends ps)) (or_there (end_place p == k) (one_of k (ends ps)) (ne_eqb (end_place p) k (λ e. omega arith)) ∙ none_there k limit (end_place p) ps r.2 (omega arith))

boundary_at : (k limit : ℕ) (s : Spot) (ps : List PlacedPiece) → Rises limit s.place ps → one_of k (s.place ∷ ends ps) ≡ ((last_end s (below (k + 1) ps)).place == k)
boundary_at k limit s [] r = or_none (s.place == k) false refl
boundary_at k limit s (p ∷ ps) r = boundary_if k limit s p ps (nat_lt (end_place p) (k + 1)) refl r (λ le. boundary_at k limit p.end ps r.2)

pub boundary_is_last : (k limit : ℕ) (ps : List PlacedPiece) → Rises limit 0 ps → is_boundary ps k ≡ ((last_end start (below (k + 1) ps)).place == k)
boundary_is_last k limit ps r = boundary_at k limit start ps r

-- the pieces that end below a place are the first i
pub below_is_take : (limit i : ℕ) (ps : List PlacedPiece) → i ≤ length ps → ((k : ℕ) (d : PlacedPiece) → k < i → end_place (get_or ps k d) < limit) → ((d : PlacedPiece) → i < length ps → limit ≤ end_place (get_or ps i d)) → below limit ps ≡ take i ps
below_is_take limit zero [] le front back = refl
below_is_take limit (suc i) [] le front back = absurd (omega arith)
below_is_take limit zero (p ∷ ps) le front back = rw (le-ltb (end_place p) limit (back p (omega arith))) refl
below_is_take limit (suc i) (p ∷ ps) le front back = rw (lt-ltb (end_place p) limit (front 0 p (omega arith))) (ap (λ l. p ∷ l) (below_is_take limit i ps (omega arith) (λ k d lt. front (suc k) d (omega arith)) (λ d lt. back d (omega arith))))

one_less : (q : PlacedPiece) (ps : List PlacedPiece) (n : ℕ) (p : PlacedPiece) → get_or (q ∷ ps) (suc (suc n) - 1) p ≡ get_or ps (suc n - 1) p
one_less q ps n p =
    let outer : suc (suc n) - 1 ≡ suc n = omega arith in
    let inner : n ≡ suc n - 1 = omega arith in
    ap (λ k. get_or (q ∷ ps) k p) outer ∙ ap (λ k. get_or ps k p) inner

-- the last boundary of the first `count` pieces
pub last_taken : (s : Spot) (ps : List PlacedPiece) (count : ℕ) (p : PlacedPiece) → 0 < count → count ≤ length ps → p ≡ get_or ps (count - 1) p → p.end ≡ last_end s (take count ps)
last_taken s [] count p pos le is = absurd (omega arith)
last_taken s (q ∷ ps) zero p pos le is = absurd (omega arith)
last_taken s (q ∷ ps) (suc zero) p pos le is = ap (λ (p : PlacedPiece). p.end) is
last_taken s (q ∷ ps) (suc (suc n)) p pos le is = last_taken q.end ps (suc n) p (omega arith) (omega arith) (is ∙ one_less q ps n p)
