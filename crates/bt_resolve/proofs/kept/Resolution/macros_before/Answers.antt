use Rattle.std.proofs.Common.{◌∙◌, ◌+◌, ap, sym, subst, List, drop, map, arith}
use Rattle.std.proofs.lemmas.List.{length-take-le}
use Rattle.bt_text.specs.ByName.{known}
use Rattle.bt_text.proofs.NameLemmas.{if_ok}
use Rattle.bt_bib.specs.Items.{items_of}
use Rattle.bt_bib.specs.declared.placed_pieces.PlacedPiece.{PlacedPiece}
use Rattle.bt_resolve.specs.Resolved.{all_items}
use Rattle.bt_resolve.specs.inner.Databases.{DefineNothing}
use Rattle.bt_resolve.proofs.KeptLemmas.{before_kept, before_made, place_is}
use Rattle.bt_resolve.proofs.kept.Resolution.macros_before.Goals as goal

pub slice_bounds-databases-end : goal.slice_bounds-databases-end
slice_bounds-databases-end c =
    let at = place_is c.self.inside.question c.args.self.now c.args.number c.args.before c.as_slice-databases.result.now c.index-databases-number.result c.pieces-pieces.result.now c.requires c.self.view_is c.as_slice-databases.ensures c.index-databases-number.is (c.pieces-pieces.ensures ∙ c.deref.ensures) in
    sym (length-take-le c.args.number c.as_slice-databases.result.now at.1)

pub slice_bounds-pieces-end : goal.slice_bounds-pieces-end
slice_bounds-pieces-end c =
    let at = place_is c.self.inside.question c.args.self.now c.args.number c.args.before c.as_slice-databases.result.now c.index-databases-number.result c.pieces-pieces.result.now c.requires c.self.view_is c.as_slice-databases.ensures c.index-databases-number.is (c.pieces-pieces.ensures ∙ c.deref.ensures) in
    sym (length-take-le c.args.before c.pieces-pieces.result.now at.2)

pub returns-then-self-number : goal.returns-then-self-number
returns-then-self-number c =
    let at = place_is c.self.inside.question c.args.self.now c.args.number c.args.before c.as_slice-databases.result.now c.index-databases-number.result c.pieces-pieces.result.now c.requires c.self.view_is c.as_slice-databases.ensures c.index-databases-number.is (c.pieces-pieces.ensures ∙ c.deref.ensures) in
    if_ok _ _ c.share.result
    (λ macros is. before_kept c.self.inside.question c.args.self.now c.args.number c.args.before c.as_slice-databases.result.now c.pieces-pieces.result.now (known macros) c.self.view_is c.as_slice-databases.ensures at.0
    (ap known is ∙ c.self.invariant.0.macros_known) (c.strings_end.ensures c.args.before c.if-strings_end-before.true)
    (subst (λ (ds : List (List PlacedPiece)). DefineNothing (all_items (map items_of (drop (c.args.number + 1) ds)))) (sym c.as_slice-databases.ensures) (c.self.invariant.1 (c.args.number + 1) (omega (arith, c.if-self-number.true)))))
    c.share.ensures

pub returns : goal.returns
returns c =
    let at = place_is c.self.inside.question c.args.self.now c.args.number c.args.before c.as_slice-databases.result.now c.index-databases-number.result c.pieces-pieces.result.now c.requires c.self.view_is c.as_slice-databases.ensures c.index-databases-number.is (c.pieces-pieces.ensures ∙ c.deref.ensures) in
    if_ok _ _ c.new.result
    (λ macros is. before_made c.self.inside.question c.args.self.now c.args.number c.args.before c.as_slice-databases.result.now c.pieces-pieces.result.now c.as_slice-style.result.now (known macros) c.self.view_is c.as_slice-databases.ensures at.0 c.as_slice-style.ensures (ap known is ∙ c.in_ok-macros.ensures))
    c.new.ensures
