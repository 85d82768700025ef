use Rattle.std.proofs.Common.{◌≡◌, ◌∙◌, sym, subst, List, ℕ}
use Rattle.bt_bib.specs.Spot.{here}
use Rattle.bt_bib.specs.Pieces.{next_piece}
use Rattle.bt_bib.proofs.CursorLemmas.{is_next}
use Rattle.bt_bib.proofs.piece_cursor.PieceCursor.next.Goals as goal

pub returns : goal.returns
returns c =
    let text = c.self.inside.text.now in
    let at = c.self.inside.at in
    let piece = c.in_ok-piece.piece in
    let end = c.in_ok-piece.end in
    let read = subst (λ (t : List ℕ). next_piece (here t at) ≡ (piece, here t end)) (c.as_slice.ensures ∙ c.deref.ensures) c.in_ok-piece.ensures.0 in
    is_next c.args.self.now piece (here text at) (here text end) (sym c.self.view_is) read
