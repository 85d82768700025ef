-- The items of a database before and after an edit of its pieces.
use Rattle.std.proofs.Common.{◌≡◌, ◌∙◌, ap, sym, refl, append_assoc, ℕ, ◌+◌, ◌-◌, List, [], ◌∷◌, ◌++◌, map, take, drop, arith}
use Rattle.std.proofs.lemmas.List.{take-append-drop, drop-drop}
use Rattle.bt_bib.specs.Boundaries.{moved_piece}
use Rattle.bt_bib.specs.Items.{PlacedItem, items_of}
use Rattle.bt_bib.specs.Splice.{IsItemsEdit}
use Rattle.bt_bib.specs.declared.item.Piece.{Piece}
use Rattle.bt_bib.specs.declared.item.Piece.TheVariants as pieces
use Rattle.bt_bib.specs.declared.placed_pieces.PlacedPiece.{PlacedPiece}
use Rattle.bt_bib.specs.declared.splice.ItemsEdit.{ItemsEdit}
use Rattle.bt_bib.specs.declared.spot.Spot.{Spot}
use Rattle.bt_resolve.specs.Skeletons.{placed_from}
use Rattle.bt_resolve.specs.inner.Kept.{replaced}
use Rattle.bt_resolve.specs.Edited.{Edit, databases_before, databases_after}

append_by : (from end : Spot) (x : Piece) (ps qs : List PlacedPiece) → items_of (ps ++ qs) ≡ items_of ps ++ items_of qs →
    items_of (record { start = from; end = end; piece = x } ∷ (ps ++ qs)) ≡ items_of (record { start = from; end = end; piece = x } ∷ ps) ++ items_of qs
append_by from end pieces.Comment ps qs is = is
append_by from end (pieces.Item item) ps qs is = ap (λ (items : List PlacedItem). record { start = from; end = end; item = item } ∷ items) is

pub items_append : (ps qs : List PlacedPiece) → items_of (ps ++ qs) ≡ items_of ps ++ items_of qs
items_append [] qs = refl
items_append (p ∷ ps) qs = append_by p.start p.end p.piece ps qs (items_append ps qs)

moved_by : (m : Spot) (from end : Spot) (x : Piece) (ps : List PlacedPiece) → items_of (map (moved_piece m) ps) ≡ map (placed_from m) (items_of ps) →
    items_of (map (moved_piece m) (record { start = from; end = end; piece = x } ∷ ps)) ≡ map (placed_from m) (items_of (record { start = from; end = end; piece = x } ∷ ps))
moved_by m from end pieces.Comment ps is = is
moved_by m from end (pieces.Item item) ps is = ap (λ (items : List PlacedItem). placed_from m (record { start = from; end = end; item = item }) ∷ items) is

pub items_moved : (m : Spot) (ps : List PlacedPiece) → items_of (map (moved_piece m) ps) ≡ map (placed_from m) (items_of ps)
items_moved m [] = refl
items_moved m (p ∷ ps) = moved_by m p.start p.end p.piece ps (items_moved m ps)

-- the edit of the databases, of which these come before and those after
abbrev pub edit_of : (fronts backs : List (List PlacedItem)) (old new : List PlacedPiece) (e : ItemsEdit) → IsItemsEdit old new e → Edit
edit_of fronts backs old new e is = record {
  databases = fronts;
  before = items_of (take e.before old);
  old = items_of (replaced old e);
  new = items_of e.new;
  behind = items_of is.behind;
  stood = e.stood;
  stand = e.stand;
  others = backs;
}

pub in_three : (before upto : ℕ) (old : List PlacedPiece) → before + (upto - before) ≡ upto → old ≡ take before old ++ take (upto - before) (drop before old) ++ drop upto old
in_three before upto old sum =
    sym (take-append-drop before old)
    ∙ ap (λ (l : List PlacedPiece). take before old ++ l) (sym (take-append-drop (upto - before) (drop before old)))
    ∙ ap (λ (l : List PlacedPiece). take before old ++ (take (upto - before) (drop before old) ++ l)) (drop-drop (upto - before) before old ∙ ap (λ (n : ℕ). drop n old) sum)
    ∙ sym (append_assoc (take before old) (take (upto - before) (drop before old)) (drop upto old))

three_items : (xs ys zs : List PlacedPiece) → items_of (xs ++ ys ++ zs) ≡ items_of xs ++ items_of ys ++ items_of zs
three_items xs ys zs = items_append (xs ++ ys) zs ∙ ap (λ (items : List PlacedItem). items ++ items_of zs) (items_append xs ys)

pub old_items : (old new : List PlacedPiece) (e : ItemsEdit) (is : IsItemsEdit old new e) → items_of old ≡ items_of (take e.before old) ++ items_of (replaced old e) ++ map (placed_from e.stood) (items_of is.behind)
old_items old new e is =
    ap items_of (in_three e.before e.upto old (omega (arith, is.order)))
    ∙ three_items (take e.before old) (replaced old e) (drop e.upto old)
    ∙ ap (λ (items : List PlacedItem). items_of (take e.before old) ++ items_of (replaced old e) ++ items) (ap items_of is.stood ∙ items_moved e.stood is.behind)

pub new_items : (old new : List PlacedPiece) (e : ItemsEdit) (is : IsItemsEdit old new e) → items_of new ≡ items_of (take e.before old) ++ items_of e.new ++ map (placed_from e.stand) (items_of is.behind)
new_items old new e is =
    ap items_of is.pieces
    ∙ three_items (take e.before old) e.new (map (moved_piece e.stand) is.behind)
    ∙ ap (λ (items : List PlacedItem). items_of (take e.before old) ++ items_of e.new ++ items) (items_moved e.stand is.behind)

-- before the edit the databases have the old items, and after it the new ones
pub databases_were : (fronts backs : List (List PlacedItem)) (old new : List PlacedPiece) (e : ItemsEdit) (is : IsItemsEdit old new e) → fronts ++ items_of old ∷ backs ≡ databases_before (edit_of fronts backs old new e is)
databases_were fronts backs old new e is = ap (λ (items : List PlacedItem). fronts ++ items ∷ backs) (old_items old new e is)

pub databases_are : (fronts backs : List (List PlacedItem)) (old new : List PlacedPiece) (e : ItemsEdit) (is : IsItemsEdit old new e) → fronts ++ items_of new ∷ backs ≡ databases_after (edit_of fronts backs old new e is)
databases_are fronts backs old new e is = ap (λ (items : List PlacedItem). fronts ++ items ∷ backs) (new_items old new e is)
