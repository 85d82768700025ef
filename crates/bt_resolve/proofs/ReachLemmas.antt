-- How far a reading is before each piece, and that an edit of values leaves it as it was.
use Rattle.std.proofs.Common.{◌≡◌, ◌∙◌, ap, sym, refl, subst, ℕ, zero, suc, ◌+◌, ◌-◌, ◌≤◌, List, [], ◌∷◌, ◌++◌, length, length-append, map, take, reverse, Option, Some, None, arith}
use Rattle.std.proofs.lemmas.List.{length-map, map-append}
use Rattle.std.specs.Prelude.{slice_get}
use Rattle.bt_bib.specs.Boundaries.{moved_piece}
use Rattle.bt_bib.specs.Items.{PlacedItem, items_of}
use Rattle.bt_bib.specs.declared.item.Item.{Item}
use Rattle.bt_bib.specs.declared.item.Piece.{Piece}
use Rattle.bt_bib.specs.declared.item.Piece.TheVariants as pieces
use Rattle.bt_bib.specs.declared.placed_pieces.PlacedPiece.{PlacedPiece}
use Rattle.bt_bib.specs.declared.spot.Spot.{Spot}
use Rattle.bt_log.specs.declared.message.Message.{Message}
use Rattle.bt_resolve.specs.declared.asked.Asked.{Asked}
use Rattle.bt_resolve.specs.declared.declared.Macro.{Macro}
use Rattle.bt_resolve.specs.declared.reading.Reach.{Reach}
use Rattle.bt_resolve.specs.declared.stored.Stored.{Stored}
use Rattle.bt_resolve.specs.Macros.{macro_before}
use Rattle.bt_resolve.specs.Messages.{for_each}
use Rattle.bt_resolve.specs.inner.Cases.{messages_at}
use Rattle.bt_resolve.specs.inner.Databases.{State, after_placed, after_items, after_databases}
use Rattle.bt_resolve.specs.inner.Reaches.{reach, passed, reaches, database_reaches}
use Rattle.bt_resolve.specs.Skeletons.{skeleton, AreAlike, AreInPlace, AreOneBefore, placed_from, moved_message}
use Rattle.bt_resolve.proofs.HeirLemmas.{alike_length}
use Rattle.bt_resolve.proofs.ItemsEditLemmas.{items_append}
use Rattle.bt_resolve.proofs.MovedItemLemmas.{item_moved}
use Rattle.bt_resolve.proofs.PlacingLemmas.{StandsBehind, stands_next, messages_next, items_add, items_more}
use Rattle.bt_resolve.proofs.SpanLemmas.{itself, item_told, one_next, later_the_same}

-- ---- parts of lists

pub after_both : (a : Asked) (n : ℕ) (s : State) (xs ys : List PlacedItem) → after_items a n s (xs ++ ys) ≡ after_items a n (after_items a n s xs) ys
after_both a n s [] ys = refl
after_both a n s (x ∷ xs) ys = after_both a n (after_placed a n x s) xs ys

pub after_pieces : (a : Asked) (n : ℕ) (s : State) (ps qs : List PlacedPiece) → after_items a n s (items_of (ps ++ qs)) ≡ after_items a n (after_items a n s (items_of ps)) (items_of qs)
after_pieces a n s ps qs = ap (after_items a n s) (items_append ps qs) ∙ after_both a n s (items_of ps) (items_of qs)

pub after_all : (a : Asked) (n : ℕ) (s : State) (ds es : List (List PlacedItem)) → after_databases a n s (ds ++ es) ≡ after_databases a (n + length ds) (after_databases a n s ds) es
after_all a n s [] es = ap (λ (k : ℕ). after_databases a k s es) (omega arith)
after_all a n s (d ∷ ds) es =
    let count : (n + 1) + length ds ≡ n + length (d ∷ ds) = omega arith in
    after_all a (n + 1) (after_items a n s d) ds es
    ∙ ap (λ (k : ℕ). after_databases a k (after_databases a (n + 1) (after_items a n s d) ds) es) count

passed_both : (a : Asked) (n : ℕ) (s : State) (ps qs : List PlacedPiece) → passed a n s (ps ++ qs) ≡ passed a n s ps ++ passed a n (after_items a n s (items_of ps)) qs
passed_both a n s [] qs = refl
passed_both a n s (p ∷ ps) qs =
    ap (λ (rs : List Reach). reach s ∷ rs) (passed_both a n (after_items a n s (items_of (p ∷ []))) ps qs)
    ∙ ap (λ (t : State). reach s ∷ (passed a n (after_items a n s (items_of (p ∷ []))) ps ++ passed a n t qs)) (items_more a n s p ps)

reaches_all : (a : Asked) (n : ℕ) (s : State) (ds es : List (List PlacedPiece)) → database_reaches a n s (ds ++ es) ≡ database_reaches a n s ds ++ database_reaches a (n + length ds) (after_databases a n s (map items_of ds)) es
reaches_all a n s [] es = ap (λ (k : ℕ). database_reaches a k s es) (omega arith)
reaches_all a n s (d ∷ ds) es =
    let count : (n + 1) + length ds ≡ n + length (d ∷ ds) = omega arith in
    let next = after_items a n s (items_of d) in
    ap (λ (rs : List (List Reach)). reaches a n s d ∷ rs) (reaches_all a (n + 1) next ds es)
    ∙ ap (λ (k : ℕ). reaches a n s d ∷ (database_reaches a (n + 1) next ds ++ database_reaches a k (after_databases a (n + 1) next (map items_of ds)) es)) count

-- ---- at a place

passed_count : (a : Asked) (n : ℕ) (s : State) (ps : List PlacedPiece) → length (passed a n s ps) ≡ length ps
passed_count a n s [] = refl
passed_count a n s (p ∷ ps) = ap (λ (k : ℕ). suc k) (passed_count a n (after_items a n s (items_of (p ∷ []))) ps)

pub reach_count : (a : Asked) (n : ℕ) (s : State) (ps : List PlacedPiece) → length (reaches a n s ps) - 1 ≡ length ps
reach_count a n s ps =
    let end = reach (after_items a n s (items_of ps)) ∷ [] in
    omega (arith, length-append (passed a n s ps) end, passed_count a n s ps)

-- the first pieces are read there
pub reach_at : (a : Asked) (n : ℕ) (s : State) (ps : List PlacedPiece) (k : ℕ) → k ≤ length ps → slice_get (reaches a n s ps) k ≡ Some (reach (after_items a n s (items_of (take k ps))))
reach_at a n s [] zero less = refl
reach_at a n s [] (suc k) less = absurd (omega (arith, less))
reach_at a n s (p ∷ ps) zero less = refl
reach_at a n s (p ∷ ps) (suc k) less =
    let next = after_items a n s (items_of (p ∷ [])) in
    ap (λ (t : State). slice_get (passed a n next ps ++ reach t ∷ []) k) (sym (items_more a n s p ps))
    ∙ reach_at a n next ps k (omega (arith, less))
    ∙ ap (λ (t : State). Some (reach t)) (items_more a n s p (take k ps))

pub reaches_at : (a : Asked) (n : ℕ) (s : State) (ds : List (List PlacedPiece)) (k : ℕ) (ps : List PlacedPiece) → slice_get ds k ≡ Some ps → slice_get (database_reaches a n s ds) k ≡ Some (reaches a (n + k) (after_databases a n s (map items_of (take k ds))) ps)
reaches_at a n s [] k ps is = let none : Option (List PlacedPiece) = None in let wrong : none ≡ Some ps = is in cc
reaches_at a n s (d ∷ ds) zero ps is =
    let same : d ≡ ps = ap (λ (o : Option (List PlacedPiece)). elim o [ None ↦ d | Some x ↦ x ]) is in
    let count : n ≡ n + 0 = omega arith in
    λ j. Some (reaches a (count j) s (same j))
reaches_at a n s (d ∷ ds) (suc k) ps is =
    let count : (n + 1) + k ≡ n + suc k = omega arith in
    let next = after_items a n s (items_of d) in
    reaches_at a (n + 1) next ds k ps is
    ∙ ap (λ (m : ℕ). Some (reaches a m (after_databases a (n + 1) next (map items_of (take k ds))) ps)) count

-- ---- two readings side by side

-- they stand behind items that no later item can tell apart, and have given equally many messages
pub record Beside (a : Asked) (ms : List Macro) (s t : State) : Type 0 where
  pub before : List PlacedItem
  pub others : List PlacedItem
  pub stands : StandsBehind a ms before s
  pub stand : StandsBehind a ms others t
  pub one : AreOneBefore a ms before others
  pub told : length s.messages ≡ length t.messages

pub itself_beside : (a : Asked) (ms : List Macro) (before : List PlacedItem) (s : State) → StandsBehind a ms before s → Beside a ms s s
itself_beside a ms before s at = record { before = before; others = before; stands = at; stand = at; one = record { defined = refl; stored = refl }; told = refl }

pub macros_beside : (a : Asked) (ms : List Macro) (s t : State) → Beside a ms s t → s.macros ≡ t.macros
macros_beside a ms s t b = b.stands.macros ∙ b.one.defined ∙ sym b.stand.macros

pub stored_beside : (a : Asked) (ms : List Macro) (s t : State) → Beside a ms s t → AreAlike s.stored t.stored
stored_beside a ms s t b = ap (λ (ss : List Stored). map skeleton ss) b.stands.stored ∙ b.one.stored ∙ sym (ap (λ (ss : List Stored). map skeleton ss) b.stand.stored)

reach_beside : (a : Asked) (ms : List Macro) (s t : State) → Beside a ms s t → reach s ≡ reach t
reach_beside a ms s t b =
    let count = alike_length s.stored t.stored (stored_beside a ms s t b) in
    λ j. record { stored = count j; told = b.told j }

-- after one item more, which gives equally many messages
item_beside : (a : Asked) (ms : List Macro) (n : ℕ) (s t : State) (from end start stop : Spot) (item : Item) (b : Beside a ms s t) →
    length (messages_at a ms n b.before (record { start = from; end = end; item = item })) ≡ length (messages_at a ms n b.others (record { start = start; end = stop; item = item })) →
    Beside a ms (after_placed a n (record { start = from; end = end; item = item }) s) (after_placed a n (record { start = start; end = stop; item = item }) t)
item_beside a ms n s t from end start stop item b count =
    let x : PlacedItem = record { start = from; end = end; item = item } in
    let y : PlacedItem = record { start = start; end = stop; item = item } in
    record {
      before = x ∷ b.before;
      others = y ∷ b.others;
      stands = stands_next a ms n b.before s x b.stands;
      stand = stands_next a ms n b.others t y b.stand;
      one = one_next a ms b.before b.others x y b.one (itself (macro_before ms b.before) item.content) (λ other. refl);
      told =
          ap (λ (told : List Message). length told) (messages_next a ms n b.before s x b.stands)
          ∙ length-append s.messages (messages_at a ms n b.before x)
          ∙ (λ j. b.told j + count j)
          ∙ sym (length-append t.messages (messages_at a ms n b.others y))
          ∙ ap (λ (told : List Message). length told) (sym (messages_next a ms n b.others t y b.stand));
    }

-- an item that stood and stands elsewhere gives equally many
moved_count : (a : Asked) (ms : List Macro) (n : ℕ) (stood stand : Spot) (before others : List PlacedItem) (x : PlacedItem) → AreOneBefore a ms before others → length (messages_at a ms n before (placed_from stood x)) ≡ length (messages_at a ms n others (placed_from stand x))
moved_count a ms n stood stand before others x one =
    ap (λ (told : List Message). length told) (item_moved a ms stood n before x)
    ∙ length-map (messages_at a ms n before x) (moved_message stood)
    ∙ ap (λ (told : List Message). length told) (item_told a ms before others n x one)
    ∙ sym (length-map (messages_at a ms n others x) (moved_message stand))
    ∙ ap (λ (told : List Message). length told) (sym (item_moved a ms stand n others x))

piece_moved : (a : Asked) (ms : List Macro) (n : ℕ) (stood stand : Spot) (s t : State) (from end : Spot) (x : Piece) → Beside a ms s t →
    Beside a ms (after_items a n s (items_of (moved_piece stood (record { start = from; end = end; piece = x }) ∷ []))) (after_items a n t (items_of (moved_piece stand (record { start = from; end = end; piece = x }) ∷ [])))
piece_moved a ms n stood stand s t from end pieces.Comment b = b
piece_moved a ms n stood stand s t from end (pieces.Item item) b =
    let x : PlacedItem = record { start = from; end = end; item = item } in
    let was = placed_from stood x in
    let is = placed_from stand x in
    item_beside a ms n s t was.start was.end is.start is.end item b (moved_count a ms n stood stand b.before b.others x b.one)

piece_same : (a : Asked) (ms : List Macro) (n : ℕ) (s t : State) (from end : Spot) (x : Piece) → Beside a ms s t →
    Beside a ms (after_items a n s (items_of (record { start = from; end = end; piece = x } ∷ []))) (after_items a n t (items_of (record { start = from; end = end; piece = x } ∷ [])))
piece_same a ms n s t from end pieces.Comment b = b
piece_same a ms n s t from end (pieces.Item item) b =
    let x : PlacedItem = record { start = from; end = end; item = item } in
    item_beside a ms n s t from end from end item b (ap (λ (told : List Message). length told) (item_told a ms b.before b.others n x b.one))

-- the readings get equally far, and go on side by side
pub record GoOn (a : Asked) (ms : List Macro) (n : ℕ) (s t : State) (ps qs : List PlacedPiece) : Type 0 where
  pub passed_same : passed a n s ps ≡ passed a n t qs
  pub beside : Beside a ms (after_items a n s (items_of ps)) (after_items a n t (items_of qs))

go_on_next : (a : Asked) (ms : List Macro) (n : ℕ) (s t : State) (p q : PlacedPiece) (ps qs : List PlacedPiece) → Beside a ms s t → GoOn a ms n (after_items a n s (items_of (p ∷ []))) (after_items a n t (items_of (q ∷ []))) ps qs → GoOn a ms n s t (p ∷ ps) (q ∷ qs)
go_on_next a ms n s t p q ps qs b more = record {
  passed_same = λ j. reach_beside a ms s t b j ∷ more.passed_same j;
  beside =
      subst (λ (u : State). Beside a ms u (after_items a n t (items_of (q ∷ qs)))) (items_more a n s p ps)
      (subst (λ (u : State). Beside a ms (after_items a n (after_items a n s (items_of (p ∷ []))) (items_of ps)) u) (items_more a n t q qs) more.beside);
}

pub pieces_moved : (a : Asked) (ms : List Macro) (n : ℕ) (stood stand : Spot) (s t : State) (ps : List PlacedPiece) → Beside a ms s t → GoOn a ms n s t (map (moved_piece stood) ps) (map (moved_piece stand) ps)
pieces_moved a ms n stood stand s t [] b = record { passed_same = refl; beside = b }
pieces_moved a ms n stood stand s t (p ∷ ps) b =
    go_on_next a ms n s t (moved_piece stood p) (moved_piece stand p) (map (moved_piece stood) ps) (map (moved_piece stand) ps) b
    (pieces_moved a ms n stood stand (after_items a n s (items_of (moved_piece stood p ∷ []))) (after_items a n t (items_of (moved_piece stand p ∷ []))) ps
    (piece_moved a ms n stood stand s t p.start p.end p.piece b))

pub pieces_same : (a : Asked) (ms : List Macro) (n : ℕ) (s t : State) (ps : List PlacedPiece) → Beside a ms s t → GoOn a ms n s t ps ps
pieces_same a ms n s t [] b = record { passed_same = refl; beside = b }
pieces_same a ms n s t (p ∷ ps) b =
    go_on_next a ms n s t p p ps ps b
    (pieces_same a ms n (after_items a n s (items_of (p ∷ []))) (after_items a n t (items_of (p ∷ []))) ps (piece_same a ms n s t p.start p.end p.piece b))

-- one after the other
pub go_on_both : (a : Asked) (ms : List Macro) (n : ℕ) (s t : State) (ps qs xs ys : List PlacedPiece) → GoOn a ms n s t ps qs → GoOn a ms n (after_items a n s (items_of ps)) (after_items a n t (items_of qs)) xs ys → GoOn a ms n s t (ps ++ xs) (qs ++ ys)
go_on_both a ms n s t ps qs xs ys first more = record {
  passed_same = passed_both a n s ps xs ∙ (λ j. first.passed_same j ++ more.passed_same j) ∙ sym (passed_both a n t qs ys);
  beside =
      subst (λ (u : State). Beside a ms u (after_items a n t (items_of (qs ++ ys)))) (sym (after_pieces a n s ps xs))
      (subst (λ (u : State). Beside a ms (after_items a n (after_items a n s (items_of ps)) (items_of xs)) u) (sym (after_pieces a n t qs ys)) more.beside);
}

-- at most one piece in the place of another after the same items, which gives equally many messages
pub span_beside : (a : Asked) (ms : List Macro) (n : ℕ) (before : List PlacedItem) (s : State) (ps qs : List PlacedPiece) → StandsBehind a ms before s → AreInPlace ms before (items_of ps) (items_of qs) → length ps ≡ length qs → length qs ≤ 1 →
    length (for_each (messages_at a ms n) before (items_of ps)) ≡ length (for_each (messages_at a ms n) before (items_of qs)) → GoOn a ms n s s ps qs
span_beside a ms n before s ps qs at in_place even few count =
    let was = items_add a ms n before s (items_of ps) at in
    let is = items_add a ms n before s (items_of qs) at in
    let like = later_the_same a ms before (items_of ps) (items_of qs) [] in_place in
    record {
      passed_same = passed_few ps qs even few;
      beside = record {
        before = reverse (items_of ps) ++ before;
        others = reverse (items_of qs) ++ before;
        stands = was.stands;
        stand = is.stands;
        one = like.1;
        told =
            ap (λ (told : List Message). length told) was.messages
            ∙ length-append s.messages (for_each (messages_at a ms n) before (items_of ps))
            ∙ ap (λ (k : ℕ). length s.messages + k) count
            ∙ sym (length-append s.messages (for_each (messages_at a ms n) before (items_of qs)))
            ∙ ap (λ (told : List Message). length told) (sym is.messages);
      };
    }
  where
    passed_few : (xs ys : List PlacedPiece) → length xs ≡ length ys → length ys ≤ 1 → passed a n s xs ≡ passed a n s ys
    passed_few [] [] even few = refl
    passed_few [] (y ∷ ys) even few = absurd (omega (arith, even))
    passed_few (x ∷ xs) [] even few = absurd (omega (arith, even))
    passed_few (x ∷ []) (y ∷ []) even few = refl
    passed_few (x ∷ []) (y ∷ z ∷ ys) even few = absurd (omega (arith, even))
    passed_few (x ∷ w ∷ xs) ys even few = absurd (omega (arith, even, few))

-- ---- databases

pub database_same : (a : Asked) (ms : List Macro) (n : ℕ) (s t : State) (ps qs : List PlacedPiece) → GoOn a ms n s t ps qs → reaches a n s ps ≡ reaches a n t qs
database_same a ms n s t ps qs go = λ j. go.passed_same j ++ reach_beside a ms (after_items a n s (items_of ps)) (after_items a n t (items_of qs)) go.beside j ∷ []

-- the databases behind
pub record AllGoOn (a : Asked) (ms : List Macro) (n : ℕ) (s t : State) (ds es : List (List PlacedPiece)) : Type 0 where
  pub reaches_same : database_reaches a n s ds ≡ database_reaches a n t es
  pub beside : Beside a ms (after_databases a n s (map items_of ds)) (after_databases a n t (map items_of es))

pub databases_same : (a : Asked) (ms : List Macro) (n : ℕ) (s t : State) (ds : List (List PlacedPiece)) → Beside a ms s t → AllGoOn a ms n s t ds ds
databases_same a ms n s t [] b = record { reaches_same = refl; beside = b }
databases_same a ms n s t (d ∷ ds) b =
    let go = pieces_same a ms n s t d b in
    let more = databases_same a ms (n + 1) (after_items a n s (items_of d)) (after_items a n t (items_of d)) ds go.beside in
    record {
      reaches_same = λ j. database_same a ms n s t d d go j ∷ more.reaches_same j;
      beside = more.beside;
    }

-- a database in the place of another, with the same ones before and behind
pub one_database : (a : Asked) (ms : List Macro) (n : ℕ) (s : State) (fronts backs : List (List PlacedPiece)) (ps qs : List PlacedPiece) →
    GoOn a ms (n + length fronts) (after_databases a n s (map items_of fronts)) (after_databases a n s (map items_of fronts)) ps qs → AllGoOn a ms n s s (fronts ++ ps ∷ backs) (fronts ++ qs ∷ backs)
one_database a ms n s fronts backs ps qs go =
    let m = n + length fronts in
    let r = after_databases a n s (map items_of fronts) in
    let more = databases_same a ms (m + 1) (after_items a m r (items_of ps)) (after_items a m r (items_of qs)) backs go.beside in
    record {
      reaches_same =
          reaches_all a n s fronts (ps ∷ backs)
          ∙ (λ j. database_reaches a n s fronts ++ (database_same a ms m r r ps qs go j ∷ more.reaches_same j))
          ∙ sym (reaches_all a n s fronts (qs ∷ backs));
      beside =
          subst (λ (u : State). Beside a ms u (after_databases a n s (map items_of (fronts ++ qs ∷ backs)))) (sym (parts ps))
          (subst (λ (u : State). Beside a ms (after_databases a m r (map items_of (ps ∷ backs))) u) (sym (parts qs)) more.beside);
    }
  where
    parts : (xs : List PlacedPiece) → after_databases a n s (map items_of (fronts ++ xs ∷ backs)) ≡ after_databases a (n + length fronts) (after_databases a n s (map items_of fronts)) (map items_of (xs ∷ backs))
    parts xs =
        ap (after_databases a n s) (map-append items_of fronts (xs ∷ backs))
        ∙ after_all a n s (map items_of fronts) (map items_of (xs ∷ backs))
        ∙ ap (λ (k : ℕ). after_databases a (n + k) (after_databases a n s (map items_of fronts)) (map items_of (xs ∷ backs))) (length-map fronts items_of)
