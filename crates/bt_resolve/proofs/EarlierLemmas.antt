-- What a resolution knows of the entries of its databases, and which pieces an edit keeps.
use Rattle.std.proofs.Common.{◌≡◌, ◌≢◌, ◌∙◌, ap, sym, refl, subst, append-nil, append_assoc, ℕ, zero, suc, ◌+◌, ◌-◌, ◌<◌, ◌≤◌, Bool, true, false, List, [], ◌∷◌, ◌++◌, length, length-append, map, take, drop, reverse, get_or, take-append-drop, Option, Some, None, arith}
use Rattle.std.specs.Prelude.{if◌then◌else◌, not, ◌&&◌, ◌==◌, option_map, slice_get, slice_set}
use Rattle.std.proofs.lemmas.Bool.Decides.{Decides-eqb}
use Rattle.std.proofs.lemmas.List.{length-take-le, map-append}
use Rattle.std.proofs.lemmas.Option.{slice_get_read, slice_get_within}
use Rattle.bt_bib.specs.Boundaries.{moved_piece}
use Rattle.bt_bib.specs.Splice.{IsItemsEdit}
use Rattle.bt_bib.specs.declared.splice.ItemsEdit.{ItemsEdit}
use Rattle.bt_bib.specs.Items.{PlacedItem, items_of}
use Rattle.bt_bib.specs.declared.item.Content.{Content}
use Rattle.bt_bib.specs.declared.item.Content.TheVariants as contents
use Rattle.bt_bib.specs.declared.item.Entry.{Entry}
use Rattle.bt_bib.specs.declared.item.Item.{Item}
use Rattle.bt_bib.specs.declared.item.Piece.{Piece}
use Rattle.bt_bib.specs.declared.item.Piece.TheVariants as pieces
use Rattle.bt_bib.specs.declared.fault.ItemFault.{ItemFault}
use Rattle.bt_bib.specs.declared.placed_pieces.PlacedPiece.{PlacedPiece}
use Rattle.bt_bib.specs.declared.spot.Spot.{Spot}
use Rattle.bt_log.specs.declared.message.Message.{Message}
use Rattle.bt_text.specs.ByName.{known}
use Rattle.bt_resolve.specs.declared.asked.Asked.{Asked}
use Rattle.bt_resolve.specs.declared.declared.Macro.{Macro}
use Rattle.bt_resolve.specs.declared.earlier.KeptPieces.{KeptPieces}
use Rattle.bt_resolve.specs.declared.earlier.KnownPieces.{KnownPieces}
use Rattle.bt_resolve.specs.declared.kept.Found.{Found}
use Rattle.bt_resolve.specs.declared.place.Origin.{Origin}
use Rattle.bt_resolve.specs.declared.question.Question.{Question}
use Rattle.bt_resolve.specs.declared.reading.Reach.{Reach}
use Rattle.bt_resolve.specs.declared.stored.Stored.{Stored}
use Rattle.bt_resolve.specs.Faults.{repeated}
use Rattle.bt_resolve.specs.Fields.{fields_messages, given_value}
use Rattle.bt_resolve.specs.Messages.{for_each, stored_messages}
use Rattle.bt_resolve.specs.Names.{crossref, place_of_name}
use Rattle.bt_resolve.specs.Resolved.{all_items, stored_entries}
use Rattle.bt_resolve.specs.Skeletons.{AreAlike, added_at, moved_message, skeleton}
use Rattle.bt_resolve.specs.Stored.{is_stored, is_wanted, kind_of, stored_among, stored_of}
use Rattle.bt_resolve.specs.Values.{MacroTexts}
use Rattle.bt_resolve.specs.Warnings.{line_at}
use Rattle.bt_text.specs.CaseFolding.{is_same_folded}
use Rattle.bt_resolve.specs.inner.Cases.{content_messages, fault_messages, key_messages, origin_of, type_messages, with_entry, with_item}
use Rattle.bt_resolve.specs.inner.Databases.{DefineNothing, State, after_databases, after_items, after_placed, nothing_read}
use Rattle.bt_resolve.specs.inner.Earlier.{AreEdited, AreKeptPieces, IsKnowing, all_pieces, piece_at}
use Rattle.bt_resolve.specs.inner.Inheritance.{values_read}
use Rattle.bt_resolve.specs.inner.Kept.{IsFound, asked_by, stored_for}
use Rattle.bt_resolve.specs.inner.KnownEntries.{Gives, IsKnownContent, IsKnownPiece}
use Rattle.bt_resolve.specs.inner.Reaches.{reach, reaches}
use Rattle.bt_resolve.proofs.BeforeLemmas.{macros_kept}
use Rattle.bt_resolve.proofs.EditedLemmas.{items_split}
use Rattle.bt_resolve.proofs.ItemsEditLemmas.{items_append}
use Rattle.bt_resolve.proofs.KeptParts.{parts_of}
use Rattle.bt_resolve.proofs.ListLemmas.{same_some, set_other, set_same}
use Rattle.bt_resolve.proofs.MovedItemLemmas.{entry_told}
use Rattle.bt_resolve.proofs.PlacingLemmas.{StandsBehind, all_add, behind_both, items_add}
use Rattle.bt_resolve.proofs.ReachLemmas.{after_pieces, reach_at, reaches_at}
use Rattle.bt_resolve.proofs.SkeletonLemmas.{first_of}
use Rattle.bt_resolve.proofs.SpanLemmas.{messages_are, stored_in_parts}

-- ---- lists

none_of : {A B : Type 0} (f : A → B) (xs : List A) → map f xs ≡ [] → xs ≡ []
none_of f [] is = refl
none_of f (x ∷ xs) is = absurd cc

none_more : {A : Type 0} (xs ys : List A) → length xs ≡ length (xs ++ ys) → ys ≡ []
none_more xs [] is = refl
none_more xs (y ∷ ys) is = absurd (omega (arith, is, length-append xs (y ∷ ys)))

none_first : {A : Type 0} (xs ys : List A) → xs ++ ys ≡ [] → xs ≡ []
none_first [] ys is = refl
none_first (x ∷ xs) ys is = absurd cc

get_behind : {A : Type 0} (xs ys : List A) (y : A) → slice_get (xs ++ y ∷ ys) (length xs) ≡ Some y
get_behind [] ys y = refl
get_behind (x ∷ xs) ys y = get_behind xs ys y

get_front : {A : Type 0} (xs ys : List A) (k : ℕ) → k < length xs → slice_get (xs ++ ys) k ≡ slice_get xs k
get_front [] ys k less = absurd (omega (arith, less))
get_front (x ∷ xs) ys zero less = refl
get_front (x ∷ xs) ys (suc k) less = get_front xs ys k (omega (arith, less))

take_one : (k : ℕ) (ps : List PlacedPiece) (p : PlacedPiece) → slice_get ps k ≡ Some p → take (suc k) ps ≡ take k ps ++ p ∷ []
take_one k [] p is = let none : Option PlacedPiece = None in let wrong : none ≡ Some p = is in cc
take_one zero (x ∷ ps) p is = ap (λ (y : PlacedPiece). y ∷ []) (same_some x p is)
take_one (suc k) (x ∷ ps) p is = ap (λ (qs : List PlacedPiece). x ∷ qs) (take_one k ps p is)

alike_at : (ss ts : List Stored) (vs : List (List (Option (List ℕ)))) (k : ℕ) (s : Stored) (v : List (Option (List ℕ))) → AreAlike ss ts → vs ≡ values_read ts → slice_get ss k ≡ Some s → slice_get vs k ≡ Some v →
    slice_get ts k ≡ Some (record s { values = v })
alike_at [] ts vs k s v alike values is read = let none : Option Stored = None in let wrong : none ≡ Some s = is in cc
alike_at (x ∷ ss) [] vs k s v alike values is read = absurd cc
alike_at (x ∷ ss) (t ∷ ts) [] k s v alike values is read = absurd cc
alike_at (x ∷ ss) (t ∷ ts) (w ∷ vs) zero s v alike values is read =
    let bare : skeleton t ≡ skeleton s = ap (first_of t) (sym alike) ∙ ap skeleton (same_some x s is) in
    let own : t.values ≡ v = ap (λ (l : List (List (Option (List ℕ)))). get_or l 0 []) (sym values) ∙ same_some w v read in
    λ j. Some (record { key = (bare j).key; kind = (bare j).kind; function = (bare j).function; crossref = (bare j).crossref; values = own j })
alike_at (x ∷ ss) (t ∷ ts) (w ∷ vs) (suc k) s v alike values is read = alike_at ss ts vs k s v (ap (drop 1) alike) (ap (drop 1) values) is read

-- ---- an entry that is stored without a message

told_on : (a : Asked) (macros : MacroTexts) (database line at : ℕ) (e : Entry) (key : List ℕ) →
    stored_messages a macros (record { database = database; line = line }) at e key ≡ map (moved_message (record { place = 0; line = line })) (stored_messages a macros (record { database = database; line = 0 }) at e key)
told_on a macros database line at e key =
    let sum : line ≡ 0 + line = omega arith in
    ap (λ (n : ℕ). stored_messages a macros (record { database = database; line = n }) at e key) sum
    ∙ entry_told a macros (record { place = 0; line = line }) (record { database = database; line = 0 }) at e key

-- It gives no message anywhere.
told_nowhere : (a : Asked) (macros : MacroTexts) (database from line at : ℕ) (e : Entry) (key : List ℕ) → stored_messages a macros (record { database = database; line = from }) at e key ≡ [] →
    stored_messages a macros (record { database = database; line = line }) at e key ≡ []
told_nowhere a macros database from line at e key none =
    let first : stored_messages a macros (record { database = database; line = 0 }) at e key ≡ [] =
    none_of (moved_message (record { place = 0; line = from })) _ (sym (told_on a macros database from at e key) ∙ none) in
    told_on a macros database line at e key ∙ ap (map (moved_message (record { place = 0; line = line }))) first

-- What is stored depends only on the declared fields and types.
same_entry : (a b : Asked) (macros : MacroTexts) (e : Entry) (key : List ℕ) → a.fields ≡ b.fields → a.types ≡ b.types → stored_of a macros e key ≡ stored_of b macros e key
unfolding stored_of
same_entry a b macros e key fields types = λ j. record {
  key = key;
  kind = (stored_of a macros e key).kind;
  function = place_of_name (types j) (kind_of e);
  crossref = given_value macros e.fields crossref;
  values = map (λ name. if is_same_folded name crossref then None else given_value macros e.fields name) (fields j);
}

same_messages : (a b : Asked) (macros : MacroTexts) (o : Origin) (at : ℕ) (e : Entry) (key : List ℕ) → a.fields ≡ b.fields → a.types ≡ b.types → stored_messages a macros o at e key ≡ stored_messages b macros o at e key
unfolding stored_messages
same_messages a b macros o at e key fields types = λ j. type_messages (place_of_name (types j) (kind_of e)) (line_at o at) key ++ fields_messages (fields j) macros o key [] e.fields

-- one entry more, without a message
one_more : (wanted again : Bool) (stored : List Stored) (x t : Stored) (again_told : Message) (told : List Message) →
    length stored < length (if wanted && not again then stored ++ x ∷ [] else stored) → slice_get (if wanted && not again then stored ++ x ∷ [] else stored) (length stored) ≡ Some t →
    (if wanted then (if again then again_told ∷ [] else told) else []) ≡ [] → (t ≡ x) × (told ≡ [])
one_more true false stored x t m told less is none = (sym (same_some x t (sym (get_behind stored [] x) ∙ is)), none)
one_more true true stored x t m told less is none = absurd (omega (arith, less))
one_more false again stored x t m told less is none = absurd (omega (arith, less))

module _ (a b : Asked) (fields : a.fields ≡ b.fields) (types : a.types ≡ b.types) where
  entry_gives : (macros : MacroTexts) (database from at : ℕ) (stored : List Stored) (t : Stored) (e : Entry) (key : Option (List ℕ)) →
      length stored < length (with_entry b macros e key stored) → slice_get (with_entry b macros e key stored) (length stored) ≡ Some t →
      key_messages b macros stored (record { database = database; line = from }) at e key ≡ [] → (k : List ℕ) → key ≡ Some k → Gives a macros database at e k t
  entry_gives macros database from at stored t e None less is none k key_is = absurd (omega (arith, less))
  entry_gives macros database from at stored t e (Some key) less is none k key_is =
      let o : Origin = record { database = database; line = from } in
      let one = one_more (is_wanted b stored key) (is_stored stored key) stored (stored_of b macros e key) t (repeated (line_at o at) key) (stored_messages b macros o at e key) less is none in
      subst (λ (l : List ℕ). Gives a macros database at e l t) (same_some key k key_is)
      (record {
        stored = one.0 ∙ sym (same_entry a b macros e key fields types);
        told = λ line. same_messages a b macros (record { database = database; line = line }) at e key fields types ∙ told_nowhere b macros database from line at e key one.1;
      })

  content_gives : (macros : MacroTexts) (database from at : ℕ) (stored : List Stored) (t : Stored) (fault : Option ItemFault) (c : Content) →
      length stored < length (with_item b macros c stored) → slice_get (with_item b macros c stored) (length stored) ≡ Some t →
      content_messages b macros stored (record { database = database; line = from }) at fault c ≡ [] → IsKnownContent a macros database t at c
  content_gives macros database from at stored t fault (contents.Entry e) less is none = entry_gives macros database from at stored t e e.key less is none
  content_gives macros database from at stored t fault (contents.Define d) less is none = tt
  content_gives macros database from at stored t fault (contents.Preamble parts) less is none = tt

  item_gives : (n : ℕ) (s : State) (x : PlacedItem) (t : Stored) → length s.stored < length (after_placed b n x s).stored → length s.messages ≡ length (after_placed b n x s).messages →
      slice_get (after_placed b n x s).stored (length s.stored) ≡ Some t → IsKnownContent a s.macros n t x.item.line x.item.content
  item_gives n s x t less told is =
      let o = origin_of n x in
      let given = content_messages b s.macros s.stored o x.item.line x.item.fault x.item.content in
      let none = none_more s.messages _ told in
      content_gives s.macros n x.start.line x.item.line s.stored t x.item.fault x.item.content less is
      (none_first given (fault_messages n x.end x.item.content x.item.close x.item.fault) (sym (messages_are b s.macros s.stored o x.end x.item) ∙ none))

  piece_gives : (n : ℕ) (s : State) (from end : Spot) (x : Piece) (t : Stored) →
      length s.stored < length (after_items b n s (items_of (record { start = from; end = end; piece = x } ∷ []))).stored →
      length s.messages ≡ length (after_items b n s (items_of (record { start = from; end = end; piece = x } ∷ []))).messages →
      slice_get (after_items b n s (items_of (record { start = from; end = end; piece = x } ∷ []))).stored (length s.stored) ≡ Some t → IsKnownPiece a s.macros n t x
  piece_gives n s from end pieces.Comment t less told is = tt
  piece_gives n s from end (pieces.Item item) t less told is = item_gives n s (record { start = from; end = end; item = item }) t less told is

-- ---- what is stored of the pieces of a database

module _ (q : Question) (number : ℕ) (old : List PlacedPiece) (here : slice_get q.databases number ≡ Some old) where
  abbrev asks : Asked
  asks = asked_by q

  abbrev ms : List Macro
  ms = q.declared.macros

  abbrev fronts : List PlacedItem
  fronts = all_items (map items_of (take number q.databases))

  abbrev at_start : State
  at_start = after_databases asks 1 (nothing_read ms) (map items_of (take number q.databases))

  abbrev at : ℕ → State
  at k = after_items asks (1 + number) at_start (items_of (take k old))

  abbrev later : ℕ → List Stored
  later k = for_each (added_at asks ms) (reverse (items_of (take k old)) ++ reverse fronts) (items_of (drop k old) ++ all_items (map items_of (drop (suc number) q.databases)))

  stands : (k : ℕ) → StandsBehind asks ms (reverse (items_of (take k old)) ++ reverse fronts) (at k)
  stands k = (items_add asks ms (1 + number) (reverse fronts) at_start (items_of (take k old)) (all_add asks ms (map items_of (take number q.databases))).stands).stands

  -- all that is stored begins with what is stored by then
  stored_more : (k : ℕ) → stored_for q ≡ (at k).stored ++ later k
  unfolding stored_entries
  stored_more k =
      let first = items_of (take k old) in
      let last = items_of (drop k old) in
      let backs = all_items (map items_of (drop (suc number) q.databases)) in
      let before = reverse first ++ reverse fronts in
      let parts : items_of old ≡ first ++ last = ap items_of (sym (take-append-drop k old)) ∙ items_append (take k old) (drop k old) in
      let whole : all_items (map items_of q.databases) ≡ (fronts ++ first) ++ (last ++ backs) =
      ap (λ (l : List (List PlacedPiece)). all_items (map items_of l)) (parts_of q.databases number old here)
      ∙ ap all_items (map-append items_of (take number q.databases) (old ∷ drop (suc number) q.databases))
      ∙ items_split (map items_of (take number q.databases)) (map items_of (drop (suc number) q.databases)) (items_of old)
      ∙ ap (λ (xs : List PlacedItem). fronts ++ (xs ++ backs)) parts
      ∙ ap (λ (xs : List PlacedItem). fronts ++ xs) (append_assoc first last backs)
      ∙ sym (append_assoc fronts first (last ++ backs)) in
      ap (λ (xs : List PlacedItem). stored_among asks ms (reverse xs)) whole
      ∙ ap (stored_among asks ms) (sym (append-nil (reverse ((fronts ++ first) ++ (last ++ backs)))))
      ∙ ap (stored_among asks ms) (sym (behind_both (fronts ++ first) (last ++ backs) []))
      ∙ ap (λ (xs : List PlacedItem). stored_among asks ms (reverse (last ++ backs) ++ xs)) (sym (behind_both fronts first []) ∙ ap (λ (xs : List PlacedItem). reverse first ++ xs) (append-nil (reverse fronts)))
      ∙ stored_in_parts asks ms before (last ++ backs)
      ∙ ap (λ (ss : List Stored). ss ++ for_each (added_at asks ms) before (last ++ backs)) (sym (stands k).stored)

  read_to : (rs : List Reach) → rs ≡ reaches asks (1 + number) at_start old → (k : ℕ) (r : Reach) → k ≤ length old → slice_get rs k ≡ Some r → r ≡ reach (at k)
  read_to rs rs_is k r less is =
      same_some r (reach (at k)) (sym is ∙ ap (λ (l : List Reach). slice_get l k) rs_is ∙ reach_at asks (1 + number) at_start old k less)

  pub entries_known : (a : Asked) (f : Found) (rs : List Reach) (free : ℕ) → IsFound q f → a.fields ≡ q.declared.fields → a.types ≡ q.declared.types → slice_get f.reaches number ≡ Some rs →
      ((k : ℕ) → free ≤ k → DefineNothing (items_of (drop k old))) → DefineNothing (all_items (map items_of (drop (number + 1) q.databases))) →
      (j : ℕ) (p : PlacedPiece) → slice_get old j ≡ Some p → free ≤ j → (first past : Reach) → slice_get rs j ≡ Some first → slice_get rs (j + 1) ≡ Some past → first.stored < past.stored → first.told ≡ past.told →
      (s : Stored) (values : List (Option (List ℕ))) → slice_get f.store first.stored ≡ Some s → slice_get f.values first.stored ≡ Some values →
      IsKnownPiece a (known f.macros) (number + 1) (record s { values = values }) p.piece
  entries_known a f rs free found fields types rs_is none free_later j p is behind first past first_is past_is less told s values s_is values_is =
      let n = 1 + number in
      let next : j + 1 ≡ suc j = omega arith in
      let within = slice_get_within old j p is in
      let rs_are : rs ≡ reaches asks n at_start old =
      same_some rs _ (sym rs_is ∙ ap (λ (l : List (List Reach)). slice_get l number) found.reached ∙ reaches_at asks 1 (nothing_read ms) q.databases number old here) in
      let one : first ≡ reach (at j) = read_to rs rs_are j first (omega (arith, within)) first_is in
      let two : past ≡ reach (at (suc j)) = read_to rs rs_are (suc j) past (omega (arith, within)) (ap (slice_get rs) (sym next) ∙ past_is) in
      let more : at (suc j) ≡ after_items asks n (at j) (items_of (p ∷ [])) =
      ap (λ (ps : List PlacedPiece). after_items asks n at_start (items_of ps)) (take_one j old p is) ∙ after_pieces asks n at_start (take j old) (p ∷ []) in
      let after = after_items asks n (at j) (items_of (p ∷ [])) in
      let count : first.stored ≡ length (at j).stored = ap (λ (r : Reach). r.stored) one in
      let count_past : past.stored ≡ length after.stored = ap (λ (r : Reach). r.stored) two ∙ ap (λ (u : State). length u.stored) more in
      let told_one : first.told ≡ length (at j).messages = ap (λ (r : Reach). r.told) one in
      let told_past : past.told ≡ length after.messages = ap (λ (r : Reach). r.told) two ∙ ap (λ (u : State). length u.messages) more in
      let grows : length (at j).stored < length after.stored = omega (arith, less, count, count_past) in
      let t : Stored = record s { values = values } in
      let there : slice_get (stored_for q) first.stored ≡ Some t = alike_at f.store (stored_for q) f.values first.stored s values found.stored_alike found.values_read s_is values_is in
      let whole : stored_for q ≡ after.stored ++ later (suc j) = stored_more (suc j) ∙ ap (λ (u : State). u.stored ++ later (suc j)) more in
      let given : slice_get after.stored (length (at j).stored) ≡ Some t =
      sym (get_front after.stored (later (suc j)) (length (at j).stored) grows)
      ∙ ap (λ (ss : List Stored). slice_get ss (length (at j).stored)) (sym whole)
      ∙ ap (slice_get (stored_for q)) (sym count)
      ∙ there in
      let macros_are : (at j).macros ≡ known f.macros =
      (stands j).macros ∙ sym (macros_kept ms q.databases number j old here (none j behind) free_later) ∙ sym found.macros_known in
      let n_is : n ≡ number + 1 = omega arith in
      subst (λ (m : ℕ). IsKnownPiece a (known f.macros) m t p.piece) n_is
      (subst (λ (m : MacroTexts). IsKnownPiece a m n t p.piece) macros_are
      (piece_gives a asks fields types n (at j) p.start p.end p.piece t grows (sym told_one ∙ told ∙ told_past) given))

-- ---- pieces that an edit keeps

get_past : {A : Type 0} (xs ys : List A) (p k : ℕ) → p ≡ length xs + k → slice_get (xs ++ ys) p ≡ slice_get ys k
get_past [] ys p k is = ap (slice_get ys) (omega (arith, is))
get_past (x ∷ xs) ys zero k is = absurd (omega (arith, is))
get_past (x ∷ xs) ys (suc p) k is = get_past xs ys p k (omega (arith, is))

get_drop : {A : Type 0} (xs : List A) (n p k : ℕ) → p ≡ n + k → slice_get xs p ≡ slice_get (drop n xs) k
get_drop xs zero p k is = ap (slice_get xs) (omega (arith, is))
get_drop [] (suc n) p k is = refl
get_drop (x ∷ xs) (suc n) zero k is = absurd (omega (arith, is))
get_drop (x ∷ xs) (suc n) (suc p) k is = get_drop xs n p k (omega (arith, is))

piece_moved : (m : Spot) (ps : List PlacedPiece) (k : ℕ) → piece_at (map (moved_piece m) ps) k ≡ piece_at ps k
piece_moved m [] k = refl
piece_moved m (p ∷ ps) zero = refl
piece_moved m (p ∷ ps) (suc k) = piece_moved m ps k

pub edit_keeps : (old new : List PlacedPiece) (e : ItemsEdit) (kept : KeptPieces) → IsItemsEdit old new e → kept ≡ record { before = e.before; added = length e.new; upto = e.upto } → AreKeptPieces old new kept
edit_keeps old new e kept is kept_is =
    let first = take e.before old in
    let front = first ++ e.new in
    let rest = map (moved_piece e.stand) is.behind in
    let inside : e.before ≤ length old = omega (arith, is.order, is.inside) in
    let count : length first ≡ e.before = length-take-le e.before old inside in
    subst (AreKeptPieces old new) (sym kept_is)
    (record {
      front = λ k less.
          let here : k < length first = omega (arith, count, less) in
          ap (λ (ps : List PlacedPiece). piece_at ps k) (is.pieces ∙ append_assoc first e.new rest)
          ∙ ap (option_map (λ (p : PlacedPiece). p.piece)) (get_front first (e.new ++ rest) k here ∙ sym (get_front first (drop e.before old) k here))
          ∙ ap (λ (ps : List PlacedPiece). piece_at ps k) (take-append-drop e.before old);
      back = λ k.
          let sum : e.before + length e.new + k ≡ length front + k = omega (arith, count, length-append first e.new) in
          ap (λ (ps : List PlacedPiece). piece_at ps (e.before + length e.new + k)) is.pieces
          ∙ ap (piece_at (front ++ rest)) sum
          ∙ ap (option_map (λ (p : PlacedPiece). p.piece)) (get_past front rest (length front + k) k refl)
          ∙ piece_moved e.stand is.behind k
          ∙ sym (piece_moved e.stood is.behind k)
          ∙ ap (λ (ps : List PlacedPiece). piece_at ps k) (sym is.stood)
          ∙ ap (option_map (λ (p : PlacedPiece). p.piece)) (sym (get_drop old e.upto (e.upto + k) k refl));
    })

-- ---- one of the pieces that both have

pub get_read : {A : Type 0} (xs ys : List A) (k : ℕ) (x : A) → xs ≡ ys → k < length xs → x ≡ get_or xs k x → slice_get ys k ≡ Some x
get_read {A} xs ys k x same less is = ap (λ (zs : List A). slice_get zs k) (sym same) ∙ slice_get_read xs (length xs) k x refl less is

by_piece : (P : Piece → Type 0) (x : Piece) (o : Option PlacedPiece) → option_map (λ (p : PlacedPiece). p.piece) o ≡ Some x → ((p : PlacedPiece) → o ≡ Some p → P p.piece) → P x
by_piece P x None is knows = absurd cc
by_piece P x (Some p) is knows = subst P (same_some p.piece x is) (knows p refl)

pub entry_known : (a : Asked) (database : ℕ) (new : List PlacedPiece) (k : KnownPieces) (index place : ℕ) (p : PlacedPiece) (first past : Reach) (s : Stored) (values : List (Option (List ℕ))) (macros : MacroTexts) → (knows : IsKnowing a database new k) →
    piece_at new index ≡ piece_at knows.old place → slice_get new index ≡ Some p → k.strings_end ≤ place → slice_get k.reaches.now place ≡ Some first → slice_get k.reaches.now (place + 1) ≡ Some past → first.stored < past.stored → first.told ≡ past.told →
    slice_get k.found.now.store first.stored ≡ Some s → slice_get k.found.now.values first.stored ≡ Some values → macros ≡ known k.found.now.macros → IsKnownPiece a macros database (record s { values = values }) p.piece
entry_known a database new k index place p first past s values macros knows same here behind first_is past_is less told s_is values_is macros_are =
    subst (λ (m : MacroTexts). IsKnownPiece a m database (record s { values = values }) p.piece) (sym macros_are)
    (by_piece (λ (x : Piece). IsKnownPiece a (known k.found.now.macros) database (record s { values = values }) x) p.piece (slice_get knows.old place)
    (sym same ∙ ap (option_map (λ (q : PlacedPiece). q.piece)) here)
    (λ old old_is. knows.entries place old old_is behind first past first_is past_is less told s values s_is values_is))

-- ---- databases of which one may be edited

all_kept : (old new : List PlacedPiece) → new ≡ old → AreKeptPieces old new all_pieces
all_kept old new same =
    record {
      front = λ k less. ap (λ (ps : List PlacedPiece). piece_at ps k) same;
      back = λ k.
          let sum : 0 + 0 + k ≡ 0 + k = omega arith in
          ap (λ (ps : List PlacedPiece). piece_at ps (0 + 0 + k)) same ∙ ap (piece_at old) sum;
    }

all_either : (b : Bool) → all_pieces ≡ (if b then all_pieces else all_pieces)
all_either true = refl
all_either false = refl

pub nothing_edited : (q : Question) (number : ℕ) (databases : List (List PlacedPiece)) → databases ≡ q.databases → AreEdited q (record { number = number; kept = all_pieces }) databases
nothing_edited q number databases is = λ n new here old was.
    subst (AreKeptPieces old new) (all_either (number == n)) (all_kept old new (same_some new old (sym here ∙ ap (λ (ds : List (List PlacedPiece)). slice_get ds n) is ∙ was)))

pub one_edited : (q : Question) (number : ℕ) (items : List PlacedPiece) (kept : KeptPieces) (databases : List (List PlacedPiece)) → databases ≡ slice_set q.databases number items →
    ((old : List PlacedPiece) → slice_get q.databases number ≡ Some old → AreKeptPieces old items kept) → AreEdited q (record { number = number; kept = kept }) databases
one_edited q number items kept databases is keeps = λ n new here old was. by_test n new old was (sym here ∙ ap (λ (ds : List (List PlacedPiece)). slice_get ds n) is) (number == n) refl
  where
    by_test : (n : ℕ) (new old : List PlacedPiece) → slice_get q.databases n ≡ Some old → Some new ≡ slice_get (slice_set q.databases number items) n → (b : Bool) → (number == n) ≡ b →
        AreKeptPieces old new (if b then kept else all_pieces)
    by_test n new old was here true test =
        let same : number ≡ n = (Decides-eqb number n).0 test in
        let there = ap (slice_get q.databases) same ∙ was in
        let now : new ≡ items = same_some new items (here ∙ ap (slice_get (slice_set q.databases number items)) (sym same) ∙ set_same q.databases number old items there) in
        subst (λ (ps : List PlacedPiece). AreKeptPieces old ps kept) (sym now) (keeps old there)
    by_test n new old was here false test =
        let other : number ≢ n = λ (same : number ≡ n). (let yes_is : (number == n) ≡ true = (Decides-eqb number n).1 same in let wrong : true ≡ false = sym yes_is ∙ test in cc) in
        all_kept old new (same_some new old (here ∙ set_other q.databases number n items other ∙ was))
