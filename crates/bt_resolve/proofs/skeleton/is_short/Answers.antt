use Rattle.std.proofs.Common.{subst, List}
use Rattle.bt_bib.specs.declared.item.Piece.{Piece}
use Rattle.bt_bib.specs.declared.placed_pieces.PlacedPiece.{PlacedPiece}
use Rattle.bt_resolve.specs.inner.Kept.{IsShort, replaced}
use Rattle.bt_resolve.specs.inner.Skeletons.{IsPieceLike}
use Rattle.bt_resolve.proofs.PartLemmas.{none_pair, one_pairs}
use Rattle.bt_resolve.proofs.skeleton.is_short.Goals as goal

pub returns-then-new-eq0 : goal.returns-then-new-eq0
returns-then-new-eq0 c = λ go.
    let old = c.args.old.now in
    let e = c.args.edit.now in
    subst (λ (new : List PlacedPiece). IsShort old (record e { new = new })) c.pieces-new.ensures (record {
      few = c.if-new-gt1.false;
      even = c.if-span-new.false;
      pairs = none_pair (replaced old e) c.pieces-new.result.now c.if-span-new.false c.if-new-eq0.true;
    })

pub returns : goal.returns
returns c = λ go.
    let old = c.args.old.now in
    let e = c.args.edit.now in
    let like =
    subst (λ (x : Piece). IsPieceLike x c.index-new-0.result.piece) c.deref.ensures
    (subst (λ (y : Piece). IsPieceLike c.deref.result.now y) c.deref-2.ensures (c.is_piece_like.ensures go)) in
    subst (λ (new : List PlacedPiece). IsShort old (record e { new = new })) c.pieces-new.ensures (record {
      few = c.if-new-gt1.false;
      even = c.if-span-new.false;
      pairs = one_pairs (replaced old e) c.pieces-new.result.now c.index-span-0.result c.index-new-0.result c.if-span-new.false c.if-new-gt1.false c.if-new-eq0.false c.index-span-0.is c.index-new-0.is like;
    })
