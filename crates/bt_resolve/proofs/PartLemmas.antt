-- Values of the same parts, and pieces that pair off.
use Rattle.std.proofs.Common.{◌≡◌, ◌≢◌, ◌∙◌, ap, sym, subst, ℕ, ◌+◌, ◌<◌, ◌≤◌, List, [], ◌∷◌, ◌++◌, length, take, get_or, append-nil, arith}
use Rattle.std.proofs.lemmas.List.{take_more}
use Rattle.std.proofs.lemmas.Grind.{flat_map-append}
use Rattle.bt_bib.specs.declared.item.Part.{Part}
use Rattle.bt_bib.specs.declared.item.Piece.{Piece}
use Rattle.bt_bib.specs.declared.item.Piece.TheVariants as pieces
use Rattle.bt_bib.specs.declared.placed_pieces.PlacedPiece.{PlacedPiece}
use Rattle.bt_bib.specs.declared.spot.Spot.{Spot}
use Rattle.bt_bib.specs.Items.{PlacedItem, items_of}
use Rattle.bt_resolve.specs.declared.declared.Macro.{Macro}
use Rattle.bt_resolve.specs.Macros.{macro_before}
use Rattle.bt_resolve.specs.Skeletons.{AreInPlace, PairOff}
use Rattle.bt_resolve.specs.inner.Skeletons.{IsPieceLike}
use Rattle.bt_resolve.specs.Values.{MacroTexts, joined_parts, within_limit, value, without_first_space, without_last_space, field_value}
use Rattle.bt_resolve.specs.inner.Cases.{part_text, joined_or_empty}
use Rattle.bt_resolve.proofs.MarkLemmas.{only_piece}

pub joined_more : (m : MacroTexts) (xs : List Part) (k : ℕ) (x : Part) → k < length xs → x ≡ get_or xs k x → joined_parts m (take (k + 1) xs) ≡ joined_parts m (take k xs) ++ part_text m x
joined_more m xs k x less is =
    ap (joined_parts m) (take_more xs k x less)
    ∙ flat_map-append (part_text m) (take k xs) (get_or xs k x ∷ [])
    ∙ ap (λ (t : List ℕ). joined_parts m (take k xs) ++ t) (append-nil (part_text m (get_or xs k x)))
    ∙ ap (λ (y : Part). joined_parts m (take k xs) ++ part_text m y) (sym is)

pub value_by : (m : MacroTexts) (xs ys : List Part) → joined_parts m xs ≡ joined_parts m ys → field_value m xs ≡ field_value m ys
unfolding field_value value
value_by m xs ys is = ap (λ (t : List ℕ). without_last_space (without_first_space (joined_or_empty (within_limit t)))) is

-- one pair more before others
pair_by : (ms : List Macro) (before : List PlacedItem) (a b c d : Spot) (x y : Piece) (ps qs : List PlacedPiece) → IsPieceLike x y → PairOff ps qs →
    AreInPlace ms before (items_of (record { start = a; end = b; piece = x } ∷ ps)) (items_of (record { start = c; end = d; piece = y } ∷ qs))
pair_by ms before a b c d pieces.Comment pieces.Comment ps qs like pair = pair ms before
pair_by ms before a b c d pieces.Comment (pieces.Item y) ps qs like pair = absurd like
pair_by ms before a b c d (pieces.Item x) pieces.Comment ps qs like pair = absurd like
pair_by ms before a b c d (pieces.Item x) (pieces.Item y) ps qs like pair =
    let one = like (macro_before ms before) in
    (one.0, one.1, pair ms (record { start = a; end = b; item = x } ∷ before))

pub none_pair : (old new : List PlacedPiece) → length old ≡ length new → length new ≡ 0 → PairOff old new
none_pair [] [] same none ms before = tt
none_pair [] (q ∷ qs) same none ms before = absurd (omega (arith, none))
none_pair (p ∷ ps) new same none ms before = absurd (omega (arith, same, none))

pub one_pairs : (old new : List PlacedPiece) (p q : PlacedPiece) → length old ≡ length new → length new ≤ 1 → length new ≢ 0 → p ≡ get_or old 0 p → q ≡ get_or new 0 q → IsPieceLike p.piece q.piece → PairOff old new
one_pairs old new p q same few some p_is q_is like ms before =
    let was = only_piece old p (omega (arith, same, few)) (λ none. some (sym same ∙ none)) p_is in
    let is = only_piece new q few some q_is in
    subst (λ (ps : List PlacedPiece). AreInPlace ms before (items_of ps) (items_of new)) (sym was)
    (subst (λ (qs : List PlacedPiece). AreInPlace ms before (items_of (p ∷ [])) (items_of qs)) (sym is)
    (pair_by ms before p.start p.end q.start q.end p.piece q.piece [] [] like (λ all after. tt)))
