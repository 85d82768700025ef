use Rattle.std.proofs.Common.{◌≡◌, ◌∙◌, ap, sym, subst, ◌+◌, ℕ, List, Some, arith, drop}
use Rattle.bt_bib.specs.Items.{items_of}
use Rattle.bt_bib.specs.declared.placed_pieces.PlacedPiece.{PlacedPiece}
use Rattle.bt_resolve.specs.inner.Databases.{DefineNothing}
use Rattle.bt_resolve.specs.inner.Earlier.{AreKeptPieces}
use Rattle.bt_resolve.proofs.EarlierLemmas.{entries_known, get_read}
use Rattle.bt_resolve.proofs.earlier.Earlier.pieces.Goals as goal

pub returns : goal.returns
returns c = λ a databases new is here.
    let q = c.args.self.now.question.now in
    let f = c.args.self.now.found.now in
    let number = c.args.number in
    let old = c.in_ok-items.items.now in
    let old_is = get_read c.as_slice-databases.result.now q.databases number old c.as_slice-databases.ensures c.in_ok-items.ensures.lookup.3.0 c.in_ok-items.ensures.lookup.1 in
    let rs_is =
    get_read c.as_slice.result.now f.reaches number c.in_ok-reaches.reaches.now c.as_slice.ensures c.in_ok-reaches.ensures.lookup.3.0 c.in_ok-reaches.ensures.lookup.1
    ∙ ap Some (sym c.as_slice-2.ensures) in
    record {
      old = old;
      pieces = subst (AreKeptPieces old new) (sym c.kept_pieces.ensures) (is.edited number new here old old_is);
      entries =
          entries_known q number old old_is a f c.as_slice-2.result.now c.strings_end.result is.found is.fields is.types rs_is
          (λ k far. subst (λ (ps : List PlacedPiece). DefineNothing (items_of (drop k ps))) (c.pieces.ensures ∙ c.deref.ensures) (c.strings_end.ensures k far))
          (is.strings (number + 1) (omega (arith, c.if-branch-self.false, c.in_ok-checked_add.ensures)));
    }
