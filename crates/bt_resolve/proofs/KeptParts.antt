-- The parts of an edit of one database, and how far the reading is at their ends.
use Rattle.std.proofs.Common.{◌≡◌, ◌∙◌, ap, sym, refl, ℕ, zero, suc, ◌+◌, ◌-◌, ◌≤◌, List, [], ◌∷◌, ◌++◌, length, length-append, map, take, drop, reverse, Option, Some, None, arith}
use Rattle.std.specs.Prelude.{nat_lt, slice_get, slice_set}
use Rattle.std.proofs.lemmas.List.{length-map, length-take-le, map-append, set_split, take_all}
use Rattle.std.proofs.lemmas.Option.{slice_get_within}
use Rattle.std.proofs.Math.Seq.{take-add}
use Rattle.bt_bib.specs.Items.{PlacedItem, items_of}
use Rattle.bt_bib.specs.Splice.{IsItemsEdit}
use Rattle.bt_bib.specs.declared.placed_pieces.PlacedPiece.{PlacedPiece}
use Rattle.bt_bib.specs.declared.splice.ItemsEdit.{ItemsEdit}
use Rattle.bt_log.specs.declared.message.Message.{Message}
use Rattle.bt_resolve.specs.declared.asked.Asked.{Asked}
use Rattle.bt_resolve.specs.declared.declared.Macro.{Macro}
use Rattle.bt_resolve.specs.declared.kept.Around.{Around}
use Rattle.bt_resolve.specs.declared.question.Question.{Question}
use Rattle.bt_resolve.specs.declared.reading.Reach.{Reach}
use Rattle.bt_resolve.specs.declared.stored.Stored.{Stored}
use Rattle.bt_resolve.specs.Edited.{Edit, databases_before, databases_after, items_before, number_of, stored_first, told_by, told_first, told_next}
use Rattle.bt_resolve.specs.Messages.{for_each}
use Rattle.bt_resolve.specs.Resolved.{all_items, stored_entries}
use Rattle.bt_resolve.specs.Skeletons.{added_at, placed_from, moved_message}
use Rattle.bt_resolve.specs.Stored.{stored_among}
use Rattle.bt_resolve.specs.inner.Cases.{messages_at}
use Rattle.bt_resolve.specs.inner.Databases.{State, after_items, after_databases, nothing_read}
use Rattle.bt_resolve.specs.inner.Kept.{IsAround, asked_by, items_in, mark_of, reaches_for, replaced, with_database}
use Rattle.bt_resolve.specs.inner.Reaches.{reach, reaches}
use Rattle.bt_resolve.proofs.EditedLemmas.{stored_each}
use Rattle.bt_resolve.proofs.ItemsEditLemmas.{edit_of, old_items, databases_were, databases_are}
use Rattle.bt_resolve.proofs.MovedItemLemmas.{moved_the_same}
use Rattle.bt_resolve.proofs.PlacingLemmas.{StandsBehind, all_add, items_add}
use Rattle.bt_resolve.proofs.ReachLemmas.{after_both, after_pieces, reach_count, reach_at, reaches_at}
use Rattle.bt_resolve.proofs.SpanLemmas.{stored_in_parts}
use Rattle.bt_resolve.proofs.ListLemmas.{same_some}

-- ---- one database among others

pub parts_of : (ds : List (List PlacedPiece)) (k : ℕ) (d : List PlacedPiece) → slice_get ds k ≡ Some d → ds ≡ take k ds ++ d ∷ drop (suc k) ds
parts_of [] k d is = let none : Option (List PlacedPiece) = None in let wrong : none ≡ Some d = is in cc
parts_of (x ∷ ds) zero d is = λ j. same_some x d is j ∷ ds
parts_of (x ∷ ds) (suc k) d is = ap (λ (es : List (List PlacedPiece)). x ∷ es) (parts_of ds k d is)

pub set_parts : (ds : List (List PlacedPiece)) (k : ℕ) (d e : List PlacedPiece) → slice_get ds k ≡ Some d → slice_set ds k e ≡ take k ds ++ e ∷ drop (suc k) ds
set_parts ds k d e is = set_split ds k e (slice_get_within ds k d is)

stored_front : (a : Asked) (ms : List Macro) (ds : List (List PlacedItem)) → stored_among a ms (reverse (all_items ds)) ≡ for_each (added_at a ms) [] (all_items ds)
unfolding stored_entries
stored_front a ms ds = stored_each a ms ds

same_reach : (r s : Reach) (o : Option Reach) → o ≡ Some r → o ≡ Some s → r ≡ s
same_reach r s o is_r is_s = same_some r s (sym is_r ∙ is_s)

module _ (q : Question) (number : ℕ) (items old : List PlacedPiece) (e : ItemsEdit) (here : slice_get q.databases number ≡ Some old) (is : IsItemsEdit old items e) where
  abbrev pub ask : Asked
  ask = asked_by q

  abbrev pub macros : List Macro
  macros = q.declared.macros

  abbrev pub fronts : List (List PlacedPiece)
  fronts = take number q.databases

  abbrev pub backs : List (List PlacedPiece)
  backs = drop (suc number) q.databases

  -- the edit as one of items
  abbrev pub edit : Edit
  edit = edit_of (map items_of fronts) (map items_of backs) old items e is

  abbrev pub behind_fronts : List PlacedItem
  behind_fronts = reverse (all_items (map items_of fronts))

  pub items_were : items_in q ≡ databases_before edit
  items_were =
      ap (map items_of) (parts_of q.databases number old here)
      ∙ map-append items_of fronts (old ∷ backs)
      ∙ databases_were (map items_of fronts) (map items_of backs) old items e is

  pub items_are : items_in (with_database number items q) ≡ databases_after edit
  items_are =
      ap (map items_of) (set_parts q.databases number old items here)
      ∙ map-append items_of fronts (items ∷ backs)
      ∙ databases_are (map items_of fronts) (map items_of backs) old items e is

  front_count : length fronts ≡ number
  front_count = let less = slice_get_within q.databases number old here in length-take-le number q.databases (omega (arith, less))

  pub number_is : 1 + number ≡ number_of edit
  number_is = ap (λ (n : ℕ). 1 + n) (sym front_count ∙ sym (length-map fronts items_of))

  -- ---- how far the reading is: before the database, before the span, behind it, and behind the database

  abbrev pub at_start : State
  at_start = after_databases ask 1 (nothing_read macros) (map items_of fronts)

  abbrev pub at_first : State
  at_first = after_items ask (number_of edit) at_start edit.before

  abbrev pub at_past : State
  at_past = after_items ask (number_of edit) at_first edit.old

  abbrev pub at_last : State
  at_last = after_items ask (number_of edit) at_past (map (placed_from edit.stood) edit.behind)

  pub start_stands : StandsBehind ask macros behind_fronts at_start
  start_stands = (all_add ask macros (map items_of fronts)).stands

  pub first_stands : StandsBehind ask macros (items_before edit) at_first
  first_stands = (items_add ask macros (number_of edit) behind_fronts at_start edit.before start_stands).stands

  pub past_stands : StandsBehind ask macros (reverse edit.old ++ items_before edit) at_past
  past_stands = (items_add ask macros (number_of edit) (items_before edit) at_first edit.old first_stands).stands

  first_told : length at_first.messages ≡ length (told_first ask macros edit)
  first_told =
      ap (λ (ts : List Message). length ts)
      ((items_add ask macros (number_of edit) behind_fronts at_start edit.before start_stands).messages
      ∙ ap (λ (ts : List Message). ts ++ for_each (messages_at ask macros (number_of edit)) behind_fronts edit.before) (all_add ask macros (map items_of fronts)).messages)

  past_told : length at_past.messages ≡ length (told_first ask macros edit) + length (told_by ask macros edit edit.old)
  past_told =
      ap (λ (ts : List Message). length ts) (items_add ask macros (number_of edit) (items_before edit) at_first edit.old first_stands).messages
      ∙ length-append at_first.messages (told_by ask macros edit edit.old)
      ∙ ap (λ (n : ℕ). n + length (told_by ask macros edit edit.old)) first_told

  last_told : length at_last.messages ≡ length (told_first ask macros edit) + length (told_by ask macros edit edit.old) + length (told_next ask macros edit)
  last_told =
      let moved = map (placed_from edit.stood) edit.behind in
      let before = reverse edit.old ++ items_before edit in
      let told = for_each (messages_at ask macros (number_of edit)) before moved in
      let next = told_next ask macros edit in
      let telling = (moved_the_same ask macros edit.stood before before edit.behind (record { defined = refl; stored = refl })).telling (number_of edit) in
      ap (λ (ts : List Message). length ts) (items_add ask macros (number_of edit) before at_past moved past_stands).messages
      ∙ length-append at_past.messages told
      ∙ (λ j. past_told j + (ap (λ (ts : List Message). length ts) telling ∙ length-map next (moved_message edit.stood)) j)

  first_stored : length at_first.stored ≡ length (stored_first ask macros edit)
  first_stored =
      ap (λ (ss : List Stored). length ss)
      (first_stands.stored
      ∙ stored_in_parts ask macros behind_fronts edit.before
      ∙ ap (λ (ss : List Stored). ss ++ for_each (added_at ask macros) behind_fronts edit.before) (stored_front ask macros (map items_of fronts)))

  -- ---- what is kept of it

  module _ (rs : List Reach) (r : Around) (rs_is : slice_get (reaches_for q) number ≡ Some rs) (around : IsAround rs e.before e.upto r) where
    reaches_are : rs ≡ reaches ask (number_of edit) at_start old
    reaches_are =
        same_some rs _ (sym rs_is ∙ reaches_at ask 1 (nothing_read macros) q.databases number old here)
        ∙ ap (λ (n : ℕ). reaches ask n at_start old) number_is

    read_to : (k : ℕ) → k ≤ length old → slice_get rs k ≡ Some (reach (after_items ask (number_of edit) at_start (items_of (take k old))))
    read_to k less = ap (λ (l : List Reach). slice_get l k) reaches_are ∙ reach_at ask (number_of edit) at_start old k less

    pub first_is : r.first ≡ reach at_first
    first_is = same_reach r.first (reach at_first) (slice_get rs e.before) around.at_first (read_to e.before (omega (arith, is.order, is.inside)))

    past_taken : take e.upto old ≡ take e.before old ++ replaced old e
    past_taken =
        let sum : e.upto ≡ e.before + (e.upto - e.before) = omega (arith, is.order) in
        ap (λ (n : ℕ). take n old) sum ∙ take-add e.before (e.upto - e.before) old

    pub past_is : r.past ≡ reach at_past
    past_is =
        same_reach r.past (reach at_past) (slice_get rs e.upto) around.at_past
        (read_to e.upto is.inside
        ∙ ap (λ (ps : List PlacedPiece). Some (reach (after_items ask (number_of edit) at_start (items_of ps)))) past_taken
        ∙ ap (λ (s : State). Some (reach s)) (after_pieces ask (number_of edit) at_start (take e.before old) (replaced old e)))

    all_read : after_items ask (number_of edit) at_start (items_of old) ≡ at_last
    all_read =
        ap (after_items ask (number_of edit) at_start) (old_items old items e is)
        ∙ after_both ask (number_of edit) at_start (edit.before ++ edit.old) (map (placed_from edit.stood) edit.behind)
        ∙ ap (λ (s : State). after_items ask (number_of edit) s (map (placed_from edit.stood) edit.behind)) (after_both ask (number_of edit) at_start edit.before edit.old)

    pub last_is : r.last ≡ reach at_last
    last_is =
        let count : length rs - 1 ≡ length old = ap (λ (l : List Reach). length l - 1) reaches_are ∙ reach_count ask (number_of edit) at_start old in
        same_reach r.last (reach at_last) (slice_get rs (length rs - 1)) around.at_last
        (ap (slice_get rs) count
        ∙ read_to (length old) (omega arith)
        ∙ ap (λ (ps : List PlacedPiece). Some (reach (after_items ask (number_of edit) at_start (items_of ps)))) (take_all (length old) old (omega arith))
        ∙ ap (λ (s : State). Some (reach s)) all_read)

    -- how many messages were given by then, and what the items of the span gave
    pub told_before : r.first.told ≡ length (told_first ask macros edit)
    told_before = ap (λ (x : Reach). x.told) first_is ∙ first_told

    pub told_past : r.past.told ≡ length (told_first ask macros edit) + length (told_by ask macros edit edit.old)
    told_past = ap (λ (x : Reach). x.told) past_is ∙ past_told

    pub told_to_last : r.last.told ≡ length (told_first ask macros edit) + length (told_by ask macros edit edit.old) + length (told_next ask macros edit)
    told_to_last = ap (λ (x : Reach). x.told) last_is ∙ last_told

    pub stored_before : r.first.stored ≡ length (stored_first ask macros edit)
    stored_before = ap (λ (x : Reach). x.stored) first_is ∙ first_stored

    pub mark_stored : (mark_of r).stored ≡ nat_lt (length (stored_among ask macros (items_before edit))) (length (stored_among ask macros (reverse edit.old ++ items_before edit)))
    mark_stored =
        let was : r.first.stored ≡ length (stored_among ask macros (items_before edit)) = ap (λ (x : Reach). x.stored) first_is ∙ ap (λ (ss : List Stored). length ss) first_stands.stored in
        let is_then : r.past.stored ≡ length (stored_among ask macros (reverse edit.old ++ items_before edit)) = ap (λ (x : Reach). x.stored) past_is ∙ ap (λ (ss : List Stored). length ss) past_stands.stored in
        λ j. nat_lt (was j) (is_then j)

    pub mark_told : (mark_of r).told ≡ length (told_by ask macros edit edit.old)
    mark_told = omega (arith, told_before, told_past)
