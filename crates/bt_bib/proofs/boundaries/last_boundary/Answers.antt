use Rattle.std.proofs.Common.{◌∙◌, ap, sym, arith}
use Rattle.bt_bib.specs.declared.placed_pieces.PlacedPiece.{PlacedPiece}
use Rattle.bt_bib.specs.Spot.{start}
use Rattle.bt_bib.proofs.RiseLemmas.{last_taken}
use Rattle.bt_bib.proofs.boundaries.last_boundary.Goals as goal

pub returns-else-count-eq0 : goal.returns-else-count-eq0
returns-else-count-eq0 c = ap (λ (p : PlacedPiece). p.end) (sym c.index-pieces-count.is) ∙ last_taken start c.args.pieces.now c.args.count c.index-pieces-count.result (omega (arith, c.if-count-eq0.false)) c.requires c.index-pieces-count.is
