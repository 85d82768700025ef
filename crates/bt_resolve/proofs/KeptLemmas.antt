-- What an edit of one entry makes of a kept resolution.
use Rattle.std.proofs.Common.{◌≡◌, ◌∙◌, ap, sym, refl, subst, append_assoc, ℕ, zero, suc, ◌+◌, ◌-◌, ◌<◌, ◌≤◌, IsTrue, List, [], ◌∷◌, ◌++◌, length, map, take, drop, reverse, get_or, Option, Some, None, arith}
use Rattle.std.specs.Prelude.{Bool, IfSome, slice_get, slice_set}
use Rattle.std.proofs.lemmas.List.{length-map}
use Rattle.std.proofs.lemmas.Option.{slice_get_read, slice_get_within}
use Rattle.bt_bib.specs.Boundaries.{moved_piece}
use Rattle.bt_bib.specs.Items.{PlacedItem, items_of}
use Rattle.bt_bib.specs.Splice.{IsItemsEdit}
use Rattle.bt_bib.specs.declared.item.Piece.{Piece}
use Rattle.bt_bib.specs.declared.item.Piece.TheVariants as pieces
use Rattle.bt_bib.specs.declared.placed_pieces.PlacedPiece.{PlacedPiece}
use Rattle.bt_bib.specs.declared.splice.ItemsEdit.{ItemsEdit}
use Rattle.bt_bib.specs.declared.spot.Spot.{Spot}
use Rattle.bt_text.specs.ByName.{known}
use Rattle.bt_text.specs.NameList.{are_apart}
use Rattle.bt_resolve.specs.declared.asked.Asked.{Asked}
use Rattle.bt_resolve.specs.declared.declared.Macro.{Macro}
use Rattle.bt_resolve.specs.declared.entry.Entry.{Entry}
use Rattle.bt_resolve.specs.declared.entry.Resolved.{Resolved}
use Rattle.bt_resolve.specs.declared.kept.Around.{Around}
use Rattle.bt_resolve.specs.declared.kept.Found.{Found}
use Rattle.bt_resolve.specs.declared.kept.ResolvedEdit.{ResolvedEdit}
use Rattle.bt_resolve.specs.declared.question.Question.{Question}
use Rattle.bt_resolve.specs.declared.reading.Reach.{Reach}
use Rattle.bt_resolve.specs.declared.heirs.NewValues.{NewValues}
use Rattle.bt_resolve.specs.declared.seen_edit.OtherEntries.{OtherEntries}
use Rattle.bt_resolve.specs.declared.seen_edit.SeenEdit.{SeenEdit}
use Rattle.bt_resolve.specs.declared.seen_edit.SeenEdit.TheVariants.{Same, Others}
use Rattle.bt_resolve.specs.declared.span.Span.{Span}
use Rattle.bt_resolve.specs.declared.stored.Stored.{Stored}
use Rattle.bt_resolve.specs.Edited.{Edit, databases_before, databases_after, items_before, number_of, stored_by, stored_first, told_by}
use Rattle.bt_resolve.specs.Inherited.{entries_seen}
use Rattle.bt_resolve.specs.Macros.{macro_before}
use Rattle.bt_resolve.specs.Resolved.{all_items, messages, preamble, resolved, stored_entries}
use Rattle.bt_resolve.specs.Skeletons.{skeleton, AreAlike, AreInPlace, shown}
use Rattle.bt_resolve.specs.Listed.{listed}
use Rattle.bt_resolve.specs.inner.Inheritance.{values_read}
use Rattle.bt_resolve.specs.inner.Databases.{DefineNothing, State, after_items, after_databases, nothing_read, resolved_after}
use Rattle.bt_resolve.specs.inner.Heirs.{with_made}
use Rattle.bt_resolve.specs.inner.Kept.{AreBefore, AreKept, AreOthers, IsAround, IsEditOf, IsFound, IsNewSpan, IsPlace, IsResolvedEdit, IsSeenEdit, IsShort, IsStoredEdit, IsSpanEdit, IsSpared, IsWithin, asked_by, items_in, macros_before, macros_behind, mark_of, new_values, reaches_for, replaced, resolved_for, stored_for, with_database, with_own, with_seen}
use Rattle.bt_resolve.specs.inner.Patches.{patched}
use Rattle.bt_resolve.specs.Values.{MacroTexts}
use Rattle.bt_resolve.specs.inner.Reaches.{database_reaches}
use Rattle.bt_resolve.specs.inner.Spans.{span_of}
use Rattle.bt_resolve.proofs.BeforeLemmas.{macros_kept}
use Rattle.bt_resolve.proofs.EditedLemmas.{edit_is_patched}
use Rattle.bt_resolve.proofs.HeirEditLemmas.{OnePatched, entries_now as others_now, entry_patched, nothing_patched, stays_now}
use Rattle.bt_resolve.proofs.ItemsEditLemmas.{in_three}
use Rattle.bt_resolve.proofs.KeptParts.{parts_of, set_parts, ask, macros, fronts, backs, edit, behind_fronts, items_were, items_are, number_is, at_start, at_first, start_stands, first_stands, told_before, told_past, told_to_last, stored_before, mark_stored, mark_told}
use Rattle.bt_resolve.proofs.MarkLemmas.{span_is}
use Rattle.bt_resolve.proofs.PatchLemmas.{messages_patched}
use Rattle.bt_resolve.proofs.PlacingLemmas.{all_add, resolved_is, stored_is}
use Rattle.bt_resolve.proofs.ReachLemmas.{GoOn, AllGoOn, itself_beside, macros_beside, stored_beside, pieces_moved, pieces_same, go_on_both, span_beside, one_database}
use Rattle.bt_resolve.proofs.SkeletonLemmas.{one_list, stored_of_values}
use Rattle.bt_resolve.proofs.ListLemmas.{same_some, set_itself}

-- ---- what the style sees

seen_entries : (q : Question) → (resolved_for q).entries ≡ entries_seen (asked_by q) q.min (stored_for q)
unfolding resolved
seen_entries q = refl

seen_messages : (q : Question) → (resolved_for q).messages ≡ messages (asked_by q) q.declared.macros (items_in q)
unfolding resolved
seen_messages q = refl

seen_preamble : (q : Question) → (resolved_for q).preamble ≡ preamble q.declared.macros (items_in q)
unfolding resolved
seen_preamble q = refl

-- ---- the edit

items_few : (ps : List PlacedPiece) → length ps ≤ 1 → length (items_of ps) ≤ 1
items_few [] few = omega arith
items_few (p ∷ []) few = few_by p.start p.end p.piece
  where
    few_by : (from end : Spot) (x : Piece) → length (items_of (record { start = from; end = end; piece = x } ∷ [])) ≤ 1
    few_by from end pieces.Comment = omega arith
    few_by from end (pieces.Item item) = omega arith
items_few (p ∷ x ∷ ps) few = absurd (omega (arith, few))

module _ (q : Question) (number : ℕ) (items old : List PlacedPiece) (e : ItemsEdit) (here : slice_get q.databases number ≡ Some old) (is : IsItemsEdit old items e) (short : IsShort old e) where
  abbrev a : Asked
  a = ask q number items old e here is

  abbrev ms : List Macro
  ms = macros q number items old e here is

  abbrev ed : Edit
  ed = edit q number items old e here is

  abbrev front : State
  front = at_start q number items old e here is

  abbrev first : State
  first = at_first q number items old e here is

  in_place : AreInPlace ms (items_before ed) ed.old ed.new
  in_place = short.pairs ms (items_before ed)

  -- ---- side by side

  module _ (count : length (told_by a ms ed ed.old) ≡ length (told_by a ms ed ed.new)) where
    old_parts : old ≡ take e.before old ++ (replaced old e ++ map (moved_piece e.stood) is.behind)
    old_parts =
        in_three e.before e.upto old (omega (arith, is.order))
        ∙ append_assoc (take e.before old) (replaced old e) (drop e.upto old)
        ∙ ap (λ (ps : List PlacedPiece). take e.before old ++ (replaced old e ++ ps)) is.stood

    new_parts : items ≡ take e.before old ++ (e.new ++ map (moved_piece e.stand) is.behind)
    new_parts = is.pieces ∙ append_assoc (take e.before old) e.new (map (moved_piece e.stand) is.behind)

    database_goes_on : GoOn a ms (number_of ed) front front old items
    database_goes_on =
        let n = number_of ed in
        let span = span_beside a ms n (items_before ed) first (replaced old e) e.new (first_stands q number items old e here is) in_place short.even short.few count in
        let behind = pieces_moved a ms n e.stood e.stand (after_items a n first ed.old) (after_items a n first ed.new) is.behind span.beside in
        let rest = go_on_both a ms n first first (replaced old e) e.new (map (moved_piece e.stood) is.behind) (map (moved_piece e.stand) is.behind) span behind in
        let begin = pieces_same a ms n front front (take e.before old) (itself_beside a ms (behind_fronts q number items old e here is) front (start_stands q number items old e here is)) in
        let all = go_on_both a ms n front front (take e.before old) (take e.before old) (replaced old e ++ map (moved_piece e.stood) is.behind) (e.new ++ map (moved_piece e.stand) is.behind) begin rest in
        subst (λ (ps : List PlacedPiece). GoOn a ms n front front ps items) (sym old_parts)
        (subst (λ (ps : List PlacedPiece). GoOn a ms n front front (take e.before old ++ (replaced old e ++ map (moved_piece e.stood) is.behind)) ps) (sym new_parts) all)

    abbrev nothing : State
    nothing = nothing_read ms

    all_go_on : AllGoOn a ms 1 nothing nothing q.databases (with_database number items q).databases
    all_go_on =
        let fs = fronts q number items old e here is in
        let bs = backs q number items old e here is in
        let one = one_database a ms 1 nothing fs bs old items
        (subst (λ (n : ℕ). GoOn a ms n front front old items) (ap (λ (n : ℕ). 1 + n) (length-map fs items_of)) database_goes_on) in
        subst (λ (ds : List (List PlacedPiece)). AllGoOn a ms 1 nothing nothing ds (with_database number items q).databases) (sym (parts_of q.databases number old here))
        (subst (λ (ds : List (List PlacedPiece)). AllGoOn a ms 1 nothing nothing (fs ++ old ∷ bs) ds) (sym (set_parts q.databases number old items here)) one)

    all_kept : AreKept q (with_database number items q)
    all_kept =
        let r = with_database number items q in
        let s = after_databases a 1 nothing (items_in q) in
        let t = after_databases a 1 nothing (items_in r) in
        let whole = edit_is_patched a ms q.min ed in_place in
        let was = items_were q number items old e here is in
        let now = items_are q number items old e here is in
        let like : AreAlike (stored_for q) (stored_for r) =
        ap (λ (ss : List Stored). map skeleton ss) (sym (stored_is a ms (items_in q)))
        ∙ stored_beside a ms s t all_go_on.beside
        ∙ ap (λ (ss : List Stored). map skeleton ss) (stored_is a ms (items_in r)) in
        record {
          macros = sym (all_add a ms (items_in q)).stands.macros ∙ macros_beside a ms s t all_go_on.beside ∙ (all_add a ms (items_in r)).stands.macros;
          alike = like;
          list = (one_list a q.min (stored_for q) (stored_for r) like).list;
          reaches = all_go_on.reaches_same;
          places =
              ap (λ (ds : List (List PlacedItem)). shown a q.min (stored_entries a ms ds)) was
              ∙ whole.places
              ∙ ap (λ (ds : List (List PlacedItem)). shown a q.min (stored_entries a ms ds)) (sym now);
          preamble =
              seen_preamble q
              ∙ ap (preamble ms) was
              ∙ whole.said
              ∙ ap (preamble ms) (sym now)
              ∙ sym (seen_preamble r);
        }

  -- ---- what the span gives

  module _ (f : Found) (found : IsFound q f) (rs : List Reach) (rs_is : slice_get f.reaches number ≡ Some rs) (r : Around) (around : IsAround rs e.before e.upto r) (known : MacroTexts) (known_is : known ≡ macro_before ms (items_before ed)) (span : Span) (new : IsNewSpan a known number e r span) (made : ResolvedEdit) (by : IsSpanEdit a q.min f span e r made) where
    there : slice_get (reaches_for q) number ≡ Some rs
    there = ap (λ (l : List (List Reach)). slice_get l number) (sym found.reached) ∙ rs_is

    abbrev given : Span
    given = record { stored = stored_by a ms ed ed.new; messages = told_by a ms ed ed.new }

    span_given : span ≡ given
    span_given =
        let n_is : number + 1 ≡ number_of ed = omega (arith, number_is q number items old e here is) in
        new.is
        ∙ ap (λ (n : ℕ). span_of a known n (mark_of r) (items_of e.new)) n_is
        ∙ span_is a ms (number_of ed) (items_before ed) ed.old ed.new known (mark_of r) in_place (items_few e.new short.few)
        (mark_stored q number items old e here is rs r there around) (mark_told q number items old e here is rs r there around) new.known_of known_is

    count_same : length (told_by a ms ed ed.old) ≡ length (told_by a ms ed ed.new)
    count_same =
        sym (mark_told q number items old e here is rs r there around)
        ∙ sym new.count
        ∙ ap (λ (s : Span). length s.messages) span_given

    told_is : (resolved_for (with_database number items q)).messages ≡ made.messages
    told_is =
        let next = with_database number items q in
        let all : f.all.messages ≡ messages a ms (databases_before ed) =
        ap (λ (x : Resolved). x.messages) found.resolved_so ∙ seen_messages q ∙ ap (messages a ms) (items_were q number items old e here is) in
        seen_messages next
        ∙ ap (messages a ms) (items_are q number items old e here is)
        ∙ messages_patched a ms ed r.first.told r.past.told r.last.told in_place
        (told_before q number items old e here is rs r there around) (told_past q number items old e here is rs r there around) (told_to_last q number items old e here is rs r there around)
        ∙ (λ j. patched (sym all j) r.first.told r.past.told r.last.told (sym span_given j).messages e.stood e.stand)
        ∙ sym by.told

    -- ---- the entries

    abbrev was_stored : List Stored
    was_stored = stored_entries a ms (databases_before ed)

    abbrev is_stored_now : List Stored
    is_stored_now = stored_entries a ms (databases_after ed)

    stored_now : stored_for q ≡ was_stored
    stored_now = ap (stored_entries a ms) (items_were q number items old e here is)

    stored_then : stored_for (with_database number items q) ≡ is_stored_now
    stored_then = ap (stored_entries a ms) (items_are q number items old e here is)

    entries_now : f.all.entries ≡ entries_seen a q.min was_stored
    entries_now = ap (λ (x : Resolved). x.entries) found.resolved_so ∙ seen_entries q ∙ ap (entries_seen a q.min) stored_now

    -- what an edit gives of the entries that are seen
    record Gives (m : SeenEdit) : Type 0 where
      place : IsWithin m (length was_stored)
      entries : entries_seen a q.min is_stored_now ≡ with_seen m (entries_seen a q.min was_stored)
      spared : (k : ℕ) → IsSpared m k → slice_get (entries_seen a q.min was_stored) k ≡ slice_get (entries_seen a q.min is_stored_now) k
      values : values_read is_stored_now ≡ with_own m (values_read was_stored)

    gives_others : (t : Stored) (o : OtherEntries) (place : ℕ) → OnePatched (length (stored_first a ms ed)) t.values was_stored is_stored_now → place ≡ length (stored_first a ms ed) → AreOthers a q.min f (new_values place t) o → Gives (Others o)
    gives_others t o place one place_is are =
        let p = length (stored_first a ms ed) in
        let like : AreAlike f.store was_stored = found.stored_alike ∙ ap (λ (ss : List Stored). map skeleton ss) stored_now in
        let values_is : f.values ≡ values_read was_stored = found.values_read ∙ ap values_read stored_now in
        let list_is : f.listed ≡ listed a was_stored = found.list ∙ ap (listed a) stored_now in
        let places_is : f.places ≡ shown a q.min was_stored = found.placed ∙ ap (shown a q.min) stored_now in
        let others : AreOthers a q.min f (new_values p t) o = subst (λ (k : ℕ). AreOthers a q.min f (new_values k t) o) place_is are in
        record {
          place = subst (λ (n : NewValues). n.place < length was_stored) (sym others.is_own) one.inside;
          entries = sym (ap (with_made o.made) (sym entries_now) ∙ others.entries
              ∙ others_now a q.min p t.values f.store was_stored is_stored_now f.values f.listed f.places f.all.entries like one values_is list_is places_is entries_now);
          spared = λ k stays. ap (λ (es : List Entry). slice_get es k) (sym entries_now)
              ∙ stays_now a q.min p t.values f.store was_stored is_stored_now f.values f.listed f.places f.all.entries like one values_is list_is places_is entries_now k
              (ap (λ (bs : List Bool). slice_get bs k) (sym others.stays) ∙ stays);
          values = sym one.values ∙ ap (λ (n : NewValues). slice_set (values_read was_stored) n.place n.values) (sym others.is_own);
        }

    -- where nothing of what is stored changes
    gives_same : is_stored_now ≡ was_stored → Gives Same
    gives_same same = record {
      place = tt;
      entries = ap (entries_seen a q.min) same;
      spared = λ k all. ap (λ (ss : List Stored). slice_get (entries_seen a q.min ss) k) (sym same);
      values = ap values_read same;
    }

    stored_so : (t : Stored) (m : SeenEdit) → OnePatched (length (stored_first a ms ed)) t.values was_stored is_stored_now → (place : ℕ) → place ≡ length (stored_first a ms ed) → IsStoredEdit a q.min place f t m → Gives m
    stored_so t Same one place place_is own =
        let values_is : f.values ≡ values_read was_stored = found.values_read ∙ ap values_read stored_now in
        let here : slice_get (values_read was_stored) (length (stored_first a ms ed)) ≡ Some t.values =
        (λ j. slice_get (sym values_is j) (sym place_is j)) ∙ own
        in
        gives_same (stored_of_values is_stored_now was_stored (sym one.alike) (sym one.values ∙ set_itself (values_read was_stored) (length (stored_first a ms ed)) t.values here))
    stored_so t (Others o) one place place_is are = gives_others t o place one place_is are

    by_stored : (ts : List Stored) → stored_by a ms ed ed.new ≡ ts → IsSeenEdit a q.min r.first.stored f ts made.seen → Gives made.seen
    by_stored [] none is_same = subst Gives (sym is_same) (gives_same (nothing_patched a ms ed in_place none))
    by_stored (t ∷ []) one is_edit =
        stored_so t made.seen (entry_patched a ms ed t in_place one) r.first.stored (stored_before q number items old e here is rs r there around) is_edit
    by_stored (t ∷ u ∷ ts) more is_edit = absurd is_edit

    gives : Gives made.seen
    gives = by_stored (stored_by a ms ed ed.new) refl (subst (λ (ts : List Stored). IsSeenEdit a q.min r.first.stored f ts made.seen) (ap (λ (s : Span). s.stored) span_given) by.seen)

    -- all that the edit says holds
    pub edit_is_resolved : IsResolvedEdit q number items made
    edit_is_resolved =
        let next = with_database number items q in
        let were : (resolved_for q).entries ≡ entries_seen a q.min was_stored = seen_entries q ∙ ap (entries_seen a q.min) stored_now in
        let are : (resolved_for next).entries ≡ entries_seen a q.min is_stored_now =
        seen_entries next ∙ ap (entries_seen a q.min) stored_then in
        record {
          database = slice_get_within q.databases number old here;
          place = subst (λ (ss : List Stored). IsWithin made.seen (length ss)) (sym stored_now) gives.place;
          entries = are ∙ gives.entries ∙ ap (with_seen made.seen) (sym were);
          spared = λ k stays.
              ap (λ (es : List Entry). slice_get es k) were
              ∙ gives.spared k stays
              ∙ ap (λ (es : List Entry). slice_get es k) (sym are);
          values = ap values_read stored_then ∙ gives.values ∙ ap (λ (ss : List Stored). with_own made.seen (values_read ss)) (sym stored_now);
          messages = told_is;
          kept = all_kept count_same;
        }

-- ---- for the code

-- what is read at an index
pub got_at : {X : Type 0} (ds qs : List X) (number : ℕ) (x p : X) → ds ≡ qs → number < length ds → x ≡ get_or ds number x → p ≡ x → slice_get qs number ≡ Some p
got_at {X = X} ds qs number x p same less is p_is =
    ap (λ (l : List X). slice_get l number) (sym same)
    ∙ slice_get_read ds (length ds) number x refl less is
    ∙ ap (λ (y : X). Some y) (sym p_is)

-- its edit
pub edit_there : (q : Question) (number : ℕ) (items : List PlacedPiece) (e : ItemsEdit) (old : List PlacedPiece) → IsEditOf q number items e → slice_get q.databases number ≡ Some old → IsItemsEdit old items e
edit_there q number items e old of here = subst (λ (ps : List PlacedPiece). IsItemsEdit ps items e) (same_some of.old old (sym of.here ∙ here)) of.edit

-- what `Resolution::edit` found gives what it promises
edited : (q : Question) (number : ℕ) (items : List PlacedPiece) (e : ItemsEdit) (f : Found) (old : List PlacedPiece) (a : Asked) (rs : List Reach) (r : Around) (known : MacroTexts) (span : Span) (made : Option ResolvedEdit) → IsEditOf q number items e → IsFound q f →
    slice_get q.databases number ≡ Some old → slice_get f.reaches number ≡ Some rs → a ≡ asked_by q → IsShort old e → IsAround rs e.before e.upto r → known ≡ macros_before q number e.before old → IsNewSpan a known number e r span →
    IfSome made (λ m. IsSpanEdit a q.min f span e r m) → IfSome made (λ m. IsResolvedEdit q number items m)
edited q number items e f old a rs r known span None of found here rs_is a_is short around known_is new by = tt
edited q number items e f old a rs r known span (Some made) of found here rs_is a_is short around known_is new by =
    edit_is_resolved q number items old e here (edit_there q number items e old of here) short f found rs rs_is r around known known_is span (subst (λ (b : Asked). IsNewSpan b known number e r span) a_is new) made (subst (λ (b : Asked). IsSpanEdit b q.min f span e r made) a_is by)

-- the same, by what the code has in hand
pub edited_there : (q now : Question) (number : ℕ) (items : List PlacedPiece) (e : ItemsEdit) (f : Found) (ds : List (List PlacedPiece)) (x old : List PlacedPiece) (all : List (List Reach)) (y rs : List Reach) (a : Asked) (r : Around) (known : MacroTexts) (span : Span) (made : Option ResolvedEdit) → IsEditOf now number items e → q ≡ now → IsFound q f →
    ds ≡ q.databases → number < length ds → x ≡ get_or ds number x → old ≡ x → all ≡ f.reaches → number < length all → y ≡ get_or all number y → rs ≡ y → a ≡ asked_by q →
    IsShort old e → IsAround rs e.before e.upto r → AreBefore now number e.before known → IsNewSpan a known number e r span →
    IfSome made (λ m. IsSpanEdit a q.min f span e r m) → IfSome made (λ m. IsResolvedEdit now number items m)
edited_there q now number items e f ds x old all y rs a r known span made of same found ds_is less x_is old_is all_is less_all y_is rs_is a_is short around known_is new by =
    let here : slice_get q.databases number ≡ Some old = got_at ds q.databases number x old ds_is less x_is old_is in
    let ahead : known ≡ macros_before q number e.before old = subst (λ (k : Question). AreBefore k number e.before known) (sym same) known_is old here in
    subst (λ (k : Question). IfSome made (λ m. IsResolvedEdit k number items m)) same
    (edited q number items e f old a rs r known span made (subst (λ (k : Question). IsEditOf k number items e) (sym same) of) found here (got_at all f.reaches number y rs all_is less_all y_is rs_is) a_is short around ahead new by)

-- the edit's numbers fit the pieces that are read
pub edit_fits : (q now : Question) (number : ℕ) (items : List PlacedPiece) (e : ItemsEdit) (ds : List (List PlacedPiece)) (x old : List PlacedPiece) → IsEditOf now number items e → q ≡ now → ds ≡ q.databases → number < length ds → x ≡ get_or ds number x → old ≡ x →
    (e.before ≤ e.upto) × (e.upto ≤ length old)
edit_fits q now number items e ds x old of same ds_is less x_is old_is =
    let is = edit_there now number items e old of (got_at ds now.databases number x old (ds_is ∙ ap (λ (k : Question). k.databases) same) less x_is old_is) in
    (is.order, is.inside)

-- what the code finds at a place among the pieces of a database
pub place_is : (q now : Question) (number before : ℕ) (ds : List (List PlacedPiece)) (x p : List PlacedPiece) → IsPlace now number before → q ≡ now → ds ≡ q.databases → x ≡ get_or ds number x → p ≡ x →
    (slice_get now.databases number ≡ Some p) × (number ≤ length ds) × (before ≤ length p)
place_is q now number before ds x p place same ds_is x_is p_is =
    let there : ds ≡ now.databases = ds_is ∙ ap (λ (k : Question). k.databases) same in
    let less = subst (λ (l : List (List PlacedPiece)). number < length l) (sym there) (slice_get_within now.databases number place.pieces place.here) in
    let here = got_at ds now.databases number x p there less x_is p_is in
    (here, omega (arith, less), subst (λ (ps : List PlacedPiece). before ≤ length ps) (same_some place.pieces p (sym place.here ∙ here)) place.inside)

-- the macros there, if no string follows
pub before_kept : (q now : Question) (number before : ℕ) (ds : List (List PlacedPiece)) (p : List PlacedPiece) (known : MacroTexts) → q ≡ now → ds ≡ q.databases → slice_get now.databases number ≡ Some p → known ≡ macros_behind q →
    DefineNothing (items_of (drop before p)) → DefineNothing (all_items (map items_of (drop (number + 1) ds))) → AreBefore now number before known
before_kept q now number before ds p known same ds_is here known_is none later ps there =
    let one : p ≡ ps = same_some p ps (sym here ∙ there) in
    let rest = subst (λ (l : List PlacedPiece). DefineNothing (items_of (drop before l))) one none in
    let behind = subst (λ (l : List (List PlacedPiece)). DefineNothing (all_items (map items_of (drop (number + 1) l)))) (ds_is ∙ ap (λ (k : Question). k.databases) same) later in
    known_is ∙ ap macros_behind same ∙ macros_kept now.declared.macros now.databases number before ps there rest behind

-- the macros there, as they are defined again
pub before_made : (q now : Question) (number before : ℕ) (ds : List (List PlacedPiece)) (p : List PlacedPiece) (style : List Macro) (known : MacroTexts) → q ≡ now → ds ≡ q.databases → slice_get now.databases number ≡ Some p → style ≡ q.declared.macros →
    known ≡ macro_before style (reverse (items_of (take before p)) ++ reverse (all_items (map items_of (take number ds)))) → AreBefore now number before known
before_made q now number before ds p style known same ds_is here style_is known_is ps there =
    let one : p ≡ ps = same_some p ps (sym here ∙ there) in
    known_is ∙ (λ j. macro_before ((style_is ∙ ap (λ (k : Question). k.declared.macros) same) j)
    (reverse (items_of (take before (one j))) ++ reverse (all_items (map items_of (take number ((ds_is ∙ ap (λ (k : Question). k.databases) same) j))))))

-- what is kept for a question, once all is read
pub found_is : (q : Question) (a : Asked) (before s : State) (ds : List (List PlacedPiece)) (f : Found) → IsTrue (are_apart q.declared.fields) → a ≡ asked_by q → before ≡ nothing_read q.declared.macros → ds ≡ q.databases →
    s ≡ after_databases a 1 before (map items_of ds) → f.reaches ≡ database_reaches a 1 before ds → known f.macros ≡ s.macros → f.store ≡ s.stored → f.values ≡ values_read s.stored → f.listed ≡ listed a s.stored → f.places ≡ shown a q.min s.stored → f.all ≡ resolved_after a q.min s → IsFound q f
found_is q a before s ds f apart a_is before_is ds_is s_is reaches_is macros_are store_is values_are list_is places_are all_is =
    let ms = q.declared.macros in
    let whole : s ≡ after_databases (asked_by q) 1 (nothing_read ms) (items_in q) = s_is ∙ (λ j. after_databases (a_is j) 1 (before_is j) (map items_of (ds_is j))) in
    let stored : s.stored ≡ stored_for q = ap (λ (t : State). t.stored) whole ∙ stored_is (asked_by q) ms (items_in q) in
    record {
      fields_apart = apart;
      macros_known = macros_are ∙ ap (λ (t : State). t.macros) whole ∙ (all_add (asked_by q) ms (items_in q)).stands.macros;
      stored_alike = ap (λ (ss : List Stored). map skeleton ss) (store_is ∙ stored);
      values_read = values_are ∙ ap values_read stored;
      list = list_is ∙ (λ j. listed (a_is j) (stored j));
      reached = reaches_is ∙ (λ j. database_reaches (a_is j) 1 (before_is j) (ds_is j));
      placed = places_are ∙ (λ j. shown (a_is j) q.min (stored j));
      resolved_so = resolved_is q.declared q.cites q.min (items_in q) a before s f.all a_is before_is (s_is ∙ ap (λ (l : List (List PlacedPiece)). after_databases a 1 before (map items_of l)) ds_is) all_is;
    }

-- what is kept after an edit was put in place
pub put_is : (q : Question) (number : ℕ) (items : List PlacedPiece) (made : ResolvedEdit) (f g : Found) → IsFound q f → IsResolvedEdit q number items made →
    g ≡ record f { values = with_own made.seen f.values; all = record f.all { entries = with_seen made.seen f.all.entries; messages = made.messages } } → IsFound (with_database number items q) g
put_is q number items made f g found is g_is =
    let r = with_database number items q in
    let all : (record f.all { entries = with_seen made.seen f.all.entries; messages = made.messages }) ≡ resolved_for r = λ j. record {
      entries = (ap (λ (x : Resolved). with_seen made.seen x.entries) found.resolved_so ∙ sym is.entries) j;
      preamble = (ap (λ (x : Resolved). x.preamble) found.resolved_so ∙ is.kept.preamble) j;
      messages = sym is.messages j;
    } in
    subst (IsFound r) (sym g_is) (record {
      fields_apart = found.fields_apart;
      macros_known = found.macros_known ∙ is.kept.macros;
      stored_alike = found.stored_alike ∙ is.kept.alike;
      values_read = ap (with_own made.seen) found.values_read ∙ sym is.values;
      list = found.list ∙ is.kept.list;
      reached = found.reached ∙ is.kept.reaches;
      placed = found.placed ∙ is.kept.places;
      resolved_so = all;
    })
