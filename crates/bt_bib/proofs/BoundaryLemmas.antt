-- From a boundary on, the pieces of a text are those of its rest, moved.
use Rattle.std.specs.Prelude.{option_map}
use Rattle.std.proofs.Common.{◌≡◌, ℕ, zero, suc, ◌+◌, ◌<◌, Bool, List, [], ◌∷◌, ◌++◌, length, drop, map, Option, Some, None, Result, Ok, refl, sym, ap, ◌∙◌, arith}
use Rattle.std.proofs.lemmas.List.{drop_at, drop-drop}
use Rattle.bt_bib.specs.declared.spot.Spot.{Spot}
use Rattle.bt_bib.specs.declared.placed_pieces.PlacedPiece.{PlacedPiece}
use Rattle.bt_bib.specs.Spot.{Here, at, here, spot_from, here_from}
use Rattle.bt_bib.specs.Stop.{Stop}
use Rattle.bt_bib.specs.Scan.{first, after_run}
use Rattle.bt_bib.specs.Many.{all}
use Rattle.bt_bib.specs.Pieces.{piece, next_piece}
use Rattle.bt_bib.specs.inner.Cases.{next_one, pieces_from, many_by, is_text, next_piece_from}
use Rattle.bt_bib.specs.Boundaries.{last_end, moved_piece}
use Rattle.bt_bib.proofs.RunLemmas.{same_spot}
use Rattle.bt_bib.proofs.ReachLemmas.{Reaches}
use Rattle.bt_bib.proofs.ManyLemmas.{IsLess, all_is}
use Rattle.bt_bib.proofs.PieceLemmas.{next_piece_less, next_piece_reaches}

-- a piece records where it ends
abbrev pub EndsAt : Option PlacedPiece × Here → Type 0
EndsAt (None, e) = Unit {0}
EndsAt (Some p, e) = p.end ≡ e.spot

next_ends_from : (h : Here) (o : Option ℕ) → EndsAt (next_piece_from h o)
next_ends_from h None = tt
next_ends_from h (Some b) = refl

pub next_ends : (h : Here) → EndsAt (next_piece h)
unfolding next_piece
next_ends h = next_ends_from (after_run is_text h) (first (after_run is_text h).rest)

-- the pieces are the next one and those after it
abbrev pub pieces_by : Option PlacedPiece × Here → List PlacedPiece
pieces_by (None, e) = []
pieces_by (Some p, e) = p ∷ pieces_from e

pieces_by_is : (x : Option PlacedPiece × Here) → (many_by (all next_one) (Ok x)).0 ≡ pieces_by x
pieces_by_is (None, e) = refl
pieces_by_is (Some p, e) = refl

pub pieces_step : (h : Here) → pieces_from h ≡ pieces_by (next_piece h)
pieces_step h = ap (λ (x : List PlacedPiece × Result Here Stop). x.0) (all_is next_one next_piece_less h) ∙ pieces_by_is (next_piece h)

-- the place to which a text is read lies in the text
pub here_reached : (text : List ℕ) (s : Spot) (e : Here) → Reaches (here text s) e → e ≡ here text e.spot
here_reached text s e r =
    let place : e.spot.place ≡ s.place + length r.front = ap (λ (u : Spot). u.place) r.spot in
    let rest : drop e.spot.place text ≡ e.rest = ap (λ n. drop n text) place ∙ sym (drop-drop (length r.front) s.place text) ∙ ap (drop (length r.front)) r.parts ∙ drop_at r.front e.rest (length r.front) refl in
    ap (at e.spot) (sym rest)

-- from a boundary on, the pieces of a text are those of its rest
pub rest_by : (text : List ℕ) (s : Spot) (p : PlacedPiece) (ps back : List PlacedPiece) (x : Option PlacedPiece × Here) → EndsAt x → Reaches (here text s) x.1 → pieces_by x ≡ p ∷ (ps ++ back) → ps ++ back ≡ pieces_from (here text p.end)
rest_by text s p ps back (None, e) ends r is = absurd cc
rest_by text s p ps back (Some q, e) ends r is =
    let one : q ≡ p = cc is in
    let rest : pieces_from e ≡ ps ++ back = cc is in
    sym rest ∙ ap pieces_from (here_reached text s e r) ∙ ap (λ u. pieces_from (here text u)) (sym ends ∙ ap (λ (p : PlacedPiece). p.end) one)

pub rest_law : (text : List ℕ) (s : Spot) (front back : List PlacedPiece) → pieces_from (here text s) ≡ front ++ back → back ≡ pieces_from (here text (last_end s front))
rest_law text s [] back is = sym is
rest_law text s (p ∷ ps) back is = rest_law text p.end ps back (sym (rest_by text s p ps back (next_piece (here text s)) (next_ends (here text s)) (next_piece_reaches (here text s)) (sym (pieces_step (here text s)) ∙ is)))

-- the same bytes at another spot
run_moved : (test : ℕ → Bool) (m : Spot) (h : Here) → after_run test (here_from m h) ≡ here_from m (after_run test h)
run_moved test m h = ap (λ s. at s (after_run test h).rest) (same_spot _ _ _ _ (omega arith) (omega arith))

further : (m s t : Spot) → spot_from (spot_from m s) t ≡ spot_from m (spot_from s t)
further m s t = same_spot _ _ _ _ (omega arith) (omega arith)

next_moved_from : (m : Spot) (h : Here) (o : Option ℕ) → next_piece_from (here_from m h) o ≡ (option_map (moved_piece m) (next_piece_from h o).0, here_from m (next_piece_from h o).1)
next_moved_from m h None = refl
next_moved_from m h (Some b) = (let x = piece h.rest in ap (λ end. (Some (let q : PlacedPiece = record { start = spot_from m h.spot; end = end; piece = x.0 } in q), at end x.1.rest)) (further m h.spot x.1.spot))

next_moved : (m : Spot) (h : Here) → next_piece (here_from m h) ≡ (option_map (moved_piece m) (next_piece h).0, here_from m (next_piece h).1)
unfolding next_piece
next_moved m h = ap (λ (g : Here). next_piece_from g (first g.rest)) (run_moved is_text m h) ∙ next_moved_from m (after_run is_text h) (first (after_run is_text h).rest)

moved_by : (m : Spot) (h : Here) (x : Option PlacedPiece × Here) → IsLess h (Ok x) → ((e : Here) → length e.rest < length h.rest → pieces_from (here_from m e) ≡ map (moved_piece m) (pieces_from e)) → pieces_by (option_map (moved_piece m) x.0, here_from m x.1) ≡ map (moved_piece m) (pieces_by x)
moved_by m h (None, e) less step = refl
moved_by m h (Some p, e) less step = ap (λ l. moved_piece m p ∷ l) (step e less)

moved_below : (n : ℕ) (m : Spot) (h : Here) → length h.rest < n → pieces_from (here_from m h) ≡ map (moved_piece m) (pieces_from h)
moved_below zero m h lt = absurd (omega arith)
moved_below (suc n) m h lt = pieces_step (here_from m h) ∙ ap pieces_by (next_moved m h) ∙ moved_by m h (next_piece h) (next_piece_less h) (λ e less. moved_below n m e (omega arith)) ∙ ap (map (moved_piece m)) (sym (pieces_step h))

pub moved_law : (m s : Spot) (r : List ℕ) → pieces_from (at (spot_from m s) r) ≡ map (moved_piece m) (pieces_from (at s r))
moved_law m s r = moved_below (suc (length r)) m (at s r) (omega arith)
