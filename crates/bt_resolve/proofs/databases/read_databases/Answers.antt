use Rattle.std.proofs.Common.{refl, ◌∙◌, ◌+◌, ◌∷◌, List, ap, sym, drop}
use Rattle.std.proofs.lemmas.List.{drop_more, drop_all}
use Rattle.bt_bib.specs.Items.{items_of}
use Rattle.bt_bib.specs.declared.placed_pieces.PlacedPiece.{PlacedPiece}
use Rattle.bt_resolve.specs.inner.Databases.{after_items, state_of}
use Rattle.bt_resolve.specs.inner.Reaches.{reaches}
use Rattle.bt_resolve.proofs.ReadingLemmas.{databases_begun, databases_next, databases_done}
use Rattle.bt_resolve.proofs.databases.read_databases.Goals as goal

pub databases-init : goal.databases-init
databases-init c = databases_begun c.args.asked.now _ c.args.databases.now c.new-all.result c.new-all.ensures

pub databases-preserved : goal.databases-preserved
databases-preserved c =
    let a = c.args.asked.now in
    let ds = c.args.databases.now in
    let i = c.databases.i in
    let x = c.index-databases-i.result in
    let here = drop_more ds i x c.databases-test.true ∙ ap (λ y. y ∷ drop (i + 1) ds) (sym c.index-databases-i.is) in
    let pieces = c.pieces.ensures ∙ c.deref.ensures in
    databases_next a _ ds _ _ (i + 1) _ _ _ _ x _ _ here refl
    (c.in_ok-reaches.ensures.reaches ∙ ap (λ (ps : List PlacedPiece). reaches a (i + 1) (state_of c.databases.reading) ps) pieces)
    c.in_ok-push.ensures.ok
    (c.in_ok-reaches.ensures.read ∙ ap (λ (ps : List PlacedPiece). after_items a (i + 1) (state_of c.databases.reading) (items_of ps)) pieces)
    c.databases.invariant

pub returns-clause-read : goal.returns-clause-read
returns-clause-read c =
    (databases_done c.args.asked.now _ c.args.databases.now _ _ _ _ (drop_all c.databases.i c.args.databases.now c.databases-test.false) c.databases.invariant).0

pub returns-clause-reaches : goal.returns-clause-reaches
returns-clause-reaches c =
    (databases_done c.args.asked.now _ c.args.databases.now _ _ _ _ (drop_all c.databases.i c.args.databases.now c.databases-test.false) c.databases.invariant).1
