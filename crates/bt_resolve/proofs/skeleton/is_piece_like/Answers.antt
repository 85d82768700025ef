use Rattle.std.proofs.Common.{sym, subst}
use Rattle.bt_bib.specs.declared.item.Piece.{Piece}
use Rattle.bt_bib.specs.declared.item.Piece.TheVariants as pieces
use Rattle.bt_resolve.specs.inner.Skeletons.{IsPieceLike}
use Rattle.bt_resolve.proofs.skeleton.is_piece_like.Goals as goal

pub returns-in-Item-Item : goal.returns-in-Item-Item
returns-in-Item-Item c = λ go.
    subst (λ (x : Piece). IsPieceLike x c.args.new.now) (sym c.in-Item-Item.is-0)
    (subst (λ (y : Piece). IsPieceLike (pieces.Item c.in-Item-Item.old) y) (sym c.in-Item-Item.is-1) (c.is_item_like.ensures go))
