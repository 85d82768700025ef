use Rattle.std.proofs.Common.{◌≡◌, ◌+◌, ◌∷◌, drop, sym, ap, ◌∙◌}
use Rattle.std.proofs.lemmas.List.{drop_more, drop_all}
use Rattle.bt_bib.specs.declared.placed_pieces.PlacedPiece.{PlacedPiece}
use Rattle.bt_resolve.proofs.ReadingLemmas.{pieces_begun, pieces_next, pieces_done}
use Rattle.bt_resolve.proofs.databases.DatabaseReader.pieces.Goals as goal

pub pieces-init : goal.pieces-init
pieces-init c = pieces_begun c.args.self.now.asked.now c.args.self.now.database _ c.args.pieces.now c.new-all.result c.new-all.ensures

pub pieces-preserved : goal.pieces-preserved
pieces-preserved c =
    let ps = c.args.pieces.now in
    let i = c.pieces.k in
    let p = c.index-pieces-k.result in
    let here : drop i ps ≡ p ∷ drop (i + 1) ps = drop_more ps i p c.pieces-test.true ∙ ap (λ (x : PlacedPiece). x ∷ drop (i + 1) ps) (sym c.index-pieces-k.is) in
    pieces_next c.args.self.now.asked.now c.args.self.now.database _ ps _ _ _ _ _ p (drop i ps) (drop (i + 1) ps) here c.so_far.ensures c.in_ok-push.ensures.ok c.in_ok-piece.ensures c.pieces.invariant

pub returns-clause-read : goal.returns-clause-read
returns-clause-read c =
    let ps = c.args.pieces.now in
    let i = c.pieces.k in
    (pieces_done c.args.self.now.asked.now c.args.self.now.database _ ps _ _ _ _ (drop i ps) (drop_all i ps c.pieces-test.false) c.so_far-2.ensures c.in_ok-push-2.ensures.ok c.pieces.invariant).0

pub returns-clause-reaches : goal.returns-clause-reaches
returns-clause-reaches c =
    let ps = c.args.pieces.now in
    let i = c.pieces.k in
    (pieces_done c.args.self.now.asked.now c.args.self.now.database _ ps _ _ _ _ (drop i ps) (drop_all i ps c.pieces-test.false) c.so_far-2.ensures c.in_ok-push-2.ensures.ok c.pieces.invariant).1
