-- The rest of a text is reached from its beginning.
use Rattle.std.proofs.Common.{◌≡◌, ℕ, List, [], ◌∷◌, ◌++◌, Option, Some, None, sym, ap, subst, ◌∙◌}
use Rattle.bt_bib.specs.declared.spot.Spot.{Spot}
use Rattle.bt_bib.specs.declared.placed_pieces.PlacedPiece.{PlacedPiece}
use Rattle.bt_bib.specs.Spot.{Here, here}
use Rattle.bt_bib.specs.Pieces.{next_piece}
use Rattle.bt_bib.specs.inner.Cases.{pieces_from}
use Rattle.bt_bib.specs.Boundaries.{last_end}
use Rattle.bt_bib.proofs.ReachLemmas.{Reaches, reaches_self, reaches_then}
use Rattle.bt_bib.proofs.PieceLemmas.{next_piece_reaches}
use Rattle.bt_bib.proofs.BoundaryLemmas.{EndsAt, here_reached, next_ends, pieces_by, pieces_step, rest_by}

-- what leads to a boundary
reaches_by : (text : List ℕ) (s : Spot) (p : PlacedPiece) (ps back : List PlacedPiece) (x : Option PlacedPiece × Here) → EndsAt x → Reaches (here text s) x.1 → pieces_by x ≡ p ∷ (ps ++ back) → Reaches (here text s) (here text p.end)
reaches_by text s p ps back (None, e) ends r is = absurd cc
reaches_by text s p ps back (Some q, e) ends r is =
    let one : q ≡ p = cc is in
    subst (λ e. Reaches (here text s) e) (here_reached text s e r ∙ ap (λ u. here text u) (sym ends ∙ ap (λ (p : PlacedPiece). p.end) one)) r

pub rest_reached : (text : List ℕ) (s : Spot) (front back : List PlacedPiece) → pieces_from (here text s) ≡ front ++ back → Reaches (here text s) (here text (last_end s front))
rest_reached text s [] back is = reaches_self (here text s)
rest_reached text s (p ∷ ps) back is =
    let x = next_piece (here text s) in
    let step = sym (pieces_step (here text s)) ∙ is in
    let one = reaches_by text s p ps back x (next_ends (here text s)) (next_piece_reaches (here text s)) step in
    let rest = sym (rest_by text s p ps back x (next_ends (here text s)) (next_piece_reaches (here text s)) step) in
    reaches_then (here text s) (here text p.end) (here text (last_end p.end ps)) one (rest_reached text p.end ps back rest)
