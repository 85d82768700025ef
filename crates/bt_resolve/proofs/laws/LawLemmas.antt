-- Proofs of the laws.
use Rattle.std.proofs.Common.{◌≡◌, ◌∙◌, ap, sym, refl, append_assoc, append-nil, ℕ, zero, suc, Bool, true, false, List, [], ◌∷◌, ◌++◌, reverse, Option, Some, None}
use Rattle.std.specs.Prelude.{◌==◌, ◌&&◌, not, slice_get, option_and_then, if◌then◌else◌}
use Rattle.std.specs.List.{AllByRecursion}
use Rattle.bt_bib.specs.Items.{PlacedItem}
use Rattle.bt_bib.specs.declared.item.Content.{Content}
use Rattle.bt_bib.specs.declared.item.Content.TheVariants as contents
use Rattle.bt_bib.specs.declared.item.Entry.{Entry}
use Rattle.bt_resolve.specs.declared.asked.Asked.{Asked}
use Rattle.bt_resolve.specs.declared.declared.Macro.{Macro}
use Rattle.bt_resolve.specs.declared.stored.Stored.{Stored}
use Rattle.bt_resolve.specs.Macros.{macro_before}
use Rattle.bt_resolve.specs.Values.{MacroTexts}
use Rattle.bt_resolve.specs.Stored.{stored_of, is_wanted, is_stored, stored_among}
use Rattle.bt_resolve.specs.Listed.{place_of_key, parent_of}
use Rattle.bt_resolve.specs.Inherited.{values_after}
use Rattle.bt_resolve.specs.inner.Cases.{inherits, with_entry, with_item}
use Rattle.bt_resolve.specs.Resolved.{resolved, stored_entries, all_items}
use Rattle.bt_resolve.specs.laws.Laws.{MessagesForEachMin, WantedInTurn, StoredAreWanted, NothingInherited}

pub same_messages : MessagesForEachMin
unfolding resolved
same_messages d c databases m n = refl

-- ---- each stored entry is wanted

turn_last : (a : Asked) (before ss : List Stored) (t : Stored) → WantedInTurn a before ss → is_wanted a (before ++ ss) t.key ≡ true → WantedInTurn a before (ss ++ t ∷ [])
turn_last a before [] t h is = (ap (λ (all : List Stored). is_wanted a all t.key) (sym (append-nil before)) ∙ is, tt)
turn_last a before (s ∷ ss) t h is = (h.0, turn_last a (before ++ s ∷ []) ss t h.1 (ap (λ (all : List Stored). is_wanted a all t.key) (append_assoc before (s ∷ []) ss) ∙ is))

wanted_test : (a : Asked) (b again : Bool) (ss : List Stored) (t : Stored) → is_wanted a ss t.key ≡ b → WantedInTurn a [] ss → WantedInTurn a [] (if b && not again then ss ++ t ∷ [] else ss)
wanted_test a true true ss t is h = h
wanted_test a true false ss t is h = turn_last a [] ss t h is
wanted_test a false again ss t is h = h

wanted_entry : (a : Asked) (macros : MacroTexts) (e : Entry) (key : Option (List ℕ)) (ss : List Stored) → WantedInTurn a [] ss → WantedInTurn a [] (with_entry a macros e key ss)
unfolding stored_of
wanted_entry a macros e None ss h = h
wanted_entry a macros e (Some key) ss h = wanted_test a (is_wanted a ss key) (is_stored ss key) ss (stored_of a macros e key) refl h

wanted_item : (a : Asked) (macros : MacroTexts) (content : Content) (ss : List Stored) → WantedInTurn a [] ss → WantedInTurn a [] (with_item a macros content ss)
wanted_item a macros (contents.Entry e) ss h = wanted_entry a macros e e.key ss h
wanted_item a macros (contents.Define s) ss h = h
wanted_item a macros (contents.Preamble p) ss h = h

wanted_among : (a : Asked) (ms : List Macro) (before : List PlacedItem) → WantedInTurn a [] (stored_among a ms before)
unfolding stored_among
wanted_among a ms [] = tt
wanted_among a ms (placed ∷ before) = wanted_item a (macro_before ms before) placed.item.content (stored_among a ms before) (wanted_among a ms before)

pub stored_wanted : StoredAreWanted
unfolding stored_entries
stored_wanted a ms databases = wanted_among a ms (reverse (all_items databases))

-- ---- nothing is inherited

abbrev Alone : List Stored → Type 0
Alone ss = AllByRecursion (λ (s : Stored). s.crossref ≡ None) ss

alone_of : (all : List Stored) (s : Stored) → s.crossref ≡ None → parent_of all s ≡ None
alone_of all s h = ap (λ (c : Option (List ℕ)). option_and_then (place_of_key all) c) h

alone_at : (all ss : List Stored) → Alone ss → (p : ℕ) → option_and_then (parent_of all) (slice_get ss p) ≡ None
alone_at all [] h p = refl
alone_at all (s ∷ ss) h zero = alone_of all s h.0
alone_at all (s ∷ ss) h (suc p) = alone_at all ss h.1 p

without_parent : (b : Bool) (now : ℕ → List (Option (List ℕ))) (p : ℕ) → inherits b None now p ≡ now p
without_parent true now p = refl
without_parent false now p = refl

pub values_stay : NothingInherited
unfolding values_after
values_stay stored alone [] p = refl
values_stay stored alone (q ∷ before) p =
    ap (λ (parent : Option ℕ). inherits (q == p) parent (values_after stored before) p) (alone_at stored stored alone p)
    ∙ without_parent (q == p) (values_after stored before) p
    ∙ values_stay stored alone before p
