use Rattle.std.proofs.Common.{◌≡◌, ◌∙◌, ap, sym, subst}
use Rattle.std.proofs.lemmas.List.{take_rest}
use Rattle.bt_bib.specs.declared.placed_pieces.PlacedPiece.{PlacedPiece}
use Rattle.bt_bib.specs.Spot.{here, spot_from}
use Rattle.bt_bib.specs.Pieces.{piece}
use Rattle.bt_bib.proofs.PlacedLemmas.{read_apart}
use Rattle.bt_bib.proofs.reader.Reader.placed_piece.Goals as goal

pub returns : goal.returns
returns c =
    let text = c.args.self.now.text.now in
    let start = c.args.start in
    let own = subst (λ r. piece r ≡ (c.in_ok-piece.piece, here r c.in_ok-piece.reached)) (take_rest text start.place) c.in_ok-piece.ensures.0 in
    let apart = read_apart text start c.in_ok-piece.reached c.in_ok-piece.piece c.requires own in
    let end = spot_from start c.in_ok-piece.reached in
    (apart.shown ∙ ap (λ p. (let q : PlacedPiece = record { start = start; end = end; piece = p } in (q, here text end))) (sym c.in_ok-piece-2.ensures), apart.ahead)
