use Rattle.std.proofs.Common.{◌≡◌, ◌∙◌, ap, sym, subst, append_assoc, List, ◌++◌, take, drop, map, arith}
use Rattle.std.specs.Prelude.{All}
use Rattle.std.proofs.lemmas.List.{take_rest}
use Rattle.bt_bib.specs.declared.placed_pieces.PlacedPiece.{PlacedPiece}
use Rattle.bt_bib.specs.Spot.{item_start}
use Rattle.bt_bib.specs.BibText.{pieces_of}
use Rattle.bt_bib.specs.Boundaries.{moved_piece}
use Rattle.bt_bib.specs.Splice.{IsItemsEdit}
use Rattle.bt_bib.specs.inner.PlacedPieces.{rebased_piece, FitsPiece}
use Rattle.bt_bib.proofs.PlacedLemmas.{first_ones_fit, last_ones_fit, middle_ones_fit}
use Rattle.bt_bib.proofs.SpliceLemmas.{all_still, edited_is, edited_back}
use Rattle.bt_bib.proofs.items.Items.edited.Goals as goal

pub with_rebased-requires : goal.with_rebased-requires
with_rebased-requires c =
    let ps = c.pieces-old.result.now in
    let e = c.args.edit.now in
    let is : IsItemsEdit ps (pieces_of c.args.new_text.now) e = subst (λ (qs : List PlacedPiece). IsItemsEdit qs (pieces_of c.args.new_text.now) e) (sym c.pieces-old.ensures) c.requires in
    first_ones_fit c.args.new_text.now (take e.before ps) (e.new ++ map (moved_piece e.stand) is.behind) item_start item_start (omega arith) (all_still (take e.before ps)) (is.pieces ∙ append_assoc (take e.before ps) e.new (map (moved_piece e.stand) is.behind))

pub with_rebased-requires-2 : goal.with_rebased-requires-2
with_rebased-requires-2 c =
    let ps = c.pieces-old.result.now in
    let e = c.args.edit.now in
    let is : IsItemsEdit ps (pieces_of c.args.new_text.now) e = subst (λ (qs : List PlacedPiece). IsItemsEdit qs (pieces_of c.args.new_text.now) e) (sym c.pieces-old.ensures) c.requires in
    subst (λ (qs : List PlacedPiece). All (FitsPiece item_start item_start) qs) (sym c.pieces-new.ensures)
    (middle_ones_fit c.args.new_text.now (take e.before ps) e.new (map (moved_piece e.stand) is.behind) item_start item_start (omega arith) (all_still e.new) is.pieces)

pub with_rebased-requires-3 : goal.with_rebased-requires-3
with_rebased-requires-3 c =
    let ps = c.pieces-old.result.now in
    let e = c.args.edit.now in
    let is : IsItemsEdit ps (pieces_of c.args.new_text.now) e = subst (λ (qs : List PlacedPiece). IsItemsEdit qs (pieces_of c.args.new_text.now) e) (sym c.pieces-old.ensures) c.requires in
    subst (λ (qs : List PlacedPiece). All (FitsPiece e.stood e.stand) qs) (sym (take_rest ps e.upto))
    (last_ones_fit c.args.new_text.now (take e.before ps ++ e.new) (drop e.upto ps) e.stood e.stand (omega arith) (edited_back ps (pieces_of c.args.new_text.now) e is))

pub returns : goal.returns
returns c =
    let ps = c.pieces-old.result.now in
    let e = c.args.edit.now in
    let is : IsItemsEdit ps (pieces_of c.args.new_text.now) e = subst (λ (qs : List PlacedPiece). IsItemsEdit qs (pieces_of c.args.new_text.now) e) (sym c.pieces-old.ensures) c.requires in
    let first : c.in_ok-items.items ≡ take e.before ps =
    c.in_ok-items.ensures ∙ ap (λ (l : List PlacedPiece). l ++ map (rebased_piece item_start item_start) (take e.before ps)) c.new-front.ensures ∙ all_still (take e.before ps) in
    let new : map (rebased_piece item_start item_start) c.pieces-new.result.now ≡ e.new = all_still c.pieces-new.result.now ∙ c.pieces-new.ensures in
    edited_is ps (pieces_of c.args.new_text.now) c.in_ok-items-2.items c.in_ok-items-3.items e is
    (c.in_ok-items-2.ensures ∙ (λ j. first j ++ new j))
    (c.in_ok-items-3.ensures ∙ ap (λ (l : List PlacedPiece). c.in_ok-items-2.items ++ map (rebased_piece e.stood e.stand) l) (take_rest ps e.upto))
