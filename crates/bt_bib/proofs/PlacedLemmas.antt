-- The places of a text's pieces lie in it, and a piece is read as a text of its own.
use Rattle.std.specs.Prelude.{All}
use Rattle.std.specs.List.{AllByRecursion}
use Rattle.std.proofs.Common.{◌≡◌, ℕ, zero, suc, ◌+◌, ◌<◌, ◌^◌, List, [], ◌∷◌, ◌++◌, length, drop, map, Option, Some, None, Ok, sym, ap, subst, ◌∙◌, length-append, length-drop, arith}
use Rattle.std.proofs.lemmas.List.{drop-drop}
use Rattle.std.proofs.lemmas.List.Elements.{All-from_recursion}
use Rattle.std.proofs.lemmas.List.Sums.{count_by-le-length}
use Rattle.bt_bib.specs.declared.spot.Spot.{Spot}
use Rattle.bt_bib.specs.declared.item.Piece.{Piece}
use Rattle.bt_bib.specs.declared.placed_pieces.PlacedPiece.{PlacedPiece}
use Rattle.bt_text.specs.ByteTests.{is_line_feed}
use Rattle.bt_bib.specs.Spot.{Here, at, here, start, spot_from, here_from}
use Rattle.bt_bib.specs.inner.Spot.{IsIn, IsAhead}
use Rattle.bt_bib.specs.Scan.{first, after_run}
use Rattle.bt_bib.specs.Pieces.{piece, placed, next_piece}
use Rattle.bt_bib.specs.BibText.{pieces_of}
use Rattle.bt_bib.specs.inner.Cases.{pieces_from, is_text, next_piece_from}
use Rattle.bt_bib.specs.inner.PlacedPieces.{rebased_piece, FitsPiece}
use Rattle.bt_bib.proofs.ReachLemmas.{Reaches, reaches_then, past_reaches}
use Rattle.bt_bib.proofs.ManyLemmas.{IsLess}
use Rattle.bt_bib.proofs.PieceLemmas.{piece_ahead, placed_reaches, next_piece_less, next_piece_reaches}
use Rattle.bt_bib.proofs.BoundaryLemmas.{here_reached, pieces_by, pieces_step}

pub in_reached : (text : List ℕ) (s : Spot) (e : Here) → IsIn text s → Reaches (here text s) e → IsIn text e.spot
in_reached text s e i r = record {
  place = omega (arith, ap length r.parts, length-append r.front e.rest, length-drop s.place text, ap (λ (u : Spot). u.place) r.spot, i.place);
  line = omega (arith, count_by-le-length is_line_feed r.front, ap (λ (u : Spot). u.place) r.spot, ap (λ (u : Spot). u.line) r.spot, i.line);
}

-- all spots of a text's pieces lie in it
abbrev LiesIn : List ℕ → PlacedPiece → Type 0
LiesIn text p = IsIn text p.start × IsIn text p.end

abbrev LieBy : List ℕ → Option PlacedPiece × Here → Type 0
LieBy text (None, e) = Unit {0}
LieBy text (Some p, e) = LiesIn text p

lie_at : (text : List ℕ) (s : Spot) (g : Here) (o : Option ℕ) → IsIn text s → Reaches (here text s) g → LieBy text (next_piece_from g o)
lie_at text s g None i r = tt
lie_at text s g (Some b) i r = (in_reached text s g i r, in_reached text s (here_from g.spot (piece g.rest).1) i (reaches_then (here text s) g (here_from g.spot (piece g.rest).1) r (placed_reaches g (piece g.rest).1 (piece_ahead g.rest))))

lie_next : (text : List ℕ) (s : Spot) → IsIn text s → LieBy text (next_piece (here text s))
unfolding next_piece
lie_next text s i = (let g = after_run is_text (here text s) in lie_at text s g (first g.rest) i (past_reaches is_text (here text s)))

lie_step : (text : List ℕ) (s : Spot) (x : Option PlacedPiece × Here) → IsIn text s → Reaches (here text s) x.1 → IsLess (here text s) (Ok x) → LieBy text x → ((e : Spot) → IsIn text e → length (drop e.place text) < length (drop s.place text) → AllByRecursion (LiesIn text) (pieces_from (here text e))) → AllByRecursion (LiesIn text) (pieces_by x)
lie_step text s (None, e) i r less lie step = tt
lie_step text s (Some p, e) i r less lie step =
    let there = here_reached text s e r in
    (lie, subst (λ k. AllByRecursion (LiesIn text) (pieces_from k)) (sym there) (step e.spot (in_reached text s e i r) (subst (λ (k : Here). length k.rest < length (drop s.place text)) there less)))

lie_below : (n : ℕ) (text : List ℕ) (s : Spot) → IsIn text s → length (drop s.place text) < n → AllByRecursion (LiesIn text) (pieces_from (here text s))
lie_below zero text s i lt = absurd (omega arith)
lie_below (suc n) text s i lt =
    let h = here text s in
    subst (AllByRecursion (LiesIn text)) (sym (pieces_step h)) (lie_step text s (next_piece h) i (next_piece_reaches h) (next_piece_less h) (lie_next text s i) (λ e j less. lie_below n text e j (omega (arith, less, lt))))

pieces_lie : (text : List ℕ) → AllByRecursion (LiesIn text) (pieces_of text)
unfolding pieces_of
pieces_lie text = lie_below (suc (length text)) text start (record { place = omega arith; line = omega arith }) (omega arith)

-- so the places of a copy that is one of these pieces fit
all_last : {A : Type 0} (P : A → Type 0) (xs ys : List A) → AllByRecursion P (xs ++ ys) → AllByRecursion P ys
all_last P [] ys h = h
all_last P (x ∷ xs) ys h = all_last P xs ys h.1

fits : (text : List ℕ) (a b : Spot) (ps : List PlacedPiece) → length text + 1 < 2 ^ 64 → AllByRecursion (LiesIn text) (map (rebased_piece a b) ps) → AllByRecursion (FitsPiece a b) ps
fits text a b [] lt h = tt
fits text a b (p ∷ ps) lt h =
    let s = h.0.0 in
    let e = h.0.1 in
    (((omega (arith, lt, s.place), omega (arith, lt, s.place, s.line)), (omega (arith, lt, e.place), omega (arith, lt, e.place, e.line))), fits text a b ps lt h.1)

pub last_ones_fit : (text : List ℕ) (front back : List PlacedPiece) (a b : Spot) → length text + 1 < 2 ^ 64 → pieces_of text ≡ front ++ map (rebased_piece a b) back → All (FitsPiece a b) back
last_ones_fit text front back a b lt is = All-from_recursion (FitsPiece a b) back (fits text a b back lt (all_last (LiesIn text) front (map (rebased_piece a b) back) (subst (AllByRecursion (LiesIn text)) is (pieces_lie text))))

all_first : {A : Type 0} (P : A → Type 0) (xs ys : List A) → AllByRecursion P (xs ++ ys) → AllByRecursion P xs
all_first P [] ys h = tt
all_first P (x ∷ xs) ys h = (h.0, all_first P xs ys h.1)

pub first_ones_fit : (text : List ℕ) (front back : List PlacedPiece) (a b : Spot) → length text + 1 < 2 ^ 64 → map (rebased_piece a b) front ≡ front → pieces_of text ≡ front ++ back → All (FitsPiece a b) front
first_ones_fit text front back a b lt still is = All-from_recursion (FitsPiece a b) front (fits text a b front lt (subst (AllByRecursion (LiesIn text)) (sym still) (all_first (LiesIn text) front back (subst (AllByRecursion (LiesIn text)) is (pieces_lie text)))))

pub middle_ones_fit : (text : List ℕ) (front middle back : List PlacedPiece) (a b : Spot) → length text + 1 < 2 ^ 64 → map (rebased_piece a b) middle ≡ middle → pieces_of text ≡ (front ++ middle) ++ back → All (FitsPiece a b) middle
middle_ones_fit text front middle back a b lt still is =
    let all = all_first (LiesIn text) (front ++ middle) back (subst (AllByRecursion (LiesIn text)) is (pieces_lie text)) in
    All-from_recursion (FitsPiece a b) middle (fits text a b middle lt (subst (AllByRecursion (LiesIn text)) (sym still) (all_last (LiesIn text) front middle all)))

-- a piece that is read from its `@` on
pub record ReadApart (text : List ℕ) (s e : Spot) (p : Piece) : Type 0 where
  pub shown : placed s (piece (drop s.place text)) ≡ (record { start = s; end = spot_from s e; piece = p }, here text (spot_from s e))
  pub ahead : IsAhead text s (spot_from s e)

pub read_apart : (text : List ℕ) (s e : Spot) (p : Piece) → IsIn text s → piece (drop s.place text) ≡ (p, here (drop s.place text) e) → ReadApart text s e p
read_apart text s e p i is =
    let h = here text s in
    let there : here_from s (here (drop s.place text) e) ≡ here text (spot_from s e) = ap (at (spot_from s e)) (drop-drop e.place s.place text ∙ ap (λ n. drop n text) (omega arith)) in
    let reached : Reaches h (here text (spot_from s e)) = subst (Reaches h) (ap (λ (x : Piece × Here). here_from s x.1) is ∙ there) (placed_reaches h (piece h.rest).1 (piece_ahead h.rest)) in
    let inside = in_reached text s (here text (spot_from s e)) i reached in
    record {
      shown = ap (placed s) is ∙ ap (λ k. (let q : PlacedPiece = record { start = s; end = spot_from s e; piece = p } in (q, k))) there;
      ahead = record { order = omega arith; place = inside.place; line = inside.line };
    }
