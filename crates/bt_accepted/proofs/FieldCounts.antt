-- Each entry that READ finds has a value for each of the style's fields.
use Rattle.std.specs.Prelude.{◌==◌, ◌&&◌, not, drop, slice_get, slice_set, filter_map, option_map, option_and_then, if◌then◌else◌}
use Rattle.std.specs.List.{cons_option}
use Rattle.std.proofs.Common.{◌≡◌, refl, ap, ◌∙◌, subst, ℕ, zero, suc, Bool, true, false, List, [], ◌∷◌, ◌++◌, length, All, Option, Some, None}
use Rattle.std.specs.Prelude.{reverse}
use Rattle.std.proofs.lemmas.Option.{same_Some}
use Rattle.std.proofs.lemmas.List.{length-map, length-set}
use Rattle.std.proofs.lemmas.List.Elements.{All-nil, All-cons, All-push, All-tail, All-head}
use Rattle.bt_bib.specs.Items.{PlacedItem}
use Rattle.bt_bib.specs.declared.item.Content.{Content}
use Rattle.bt_bib.specs.declared.item.Content.TheVariants as contents
use Rattle.bt_bib.specs.declared.item.Entry.{Entry as Item}
use Rattle.bt_resolve.specs.declared.asked.Asked.{Asked}
use Rattle.bt_resolve.specs.declared.declared.Cites.{Cites}
use Rattle.bt_resolve.specs.declared.declared.Declared.{Declared}
use Rattle.bt_resolve.specs.declared.declared.Macro.{Macro}
use Rattle.bt_resolve.specs.declared.entry.Entry.{Entry}
use Rattle.bt_resolve.specs.declared.stored.Stored.{Stored}
use Rattle.bt_resolve.specs.Macros.{macro_before}
use Rattle.bt_resolve.specs.Names.{crossref, place_of_name}
use Rattle.bt_resolve.specs.Values.{MacroTexts}
use Rattle.bt_resolve.specs.Stored.{stored_of, is_wanted, is_stored, stored_among}
use Rattle.bt_resolve.specs.Listed.{parent_of, listed}
use Rattle.bt_resolve.specs.Inherited.{inherited, values_after, final_crossref, entry_seen, entries_seen}
use Rattle.bt_resolve.specs.inner.Cases.{inherits, with_entry, with_item}
use Rattle.bt_resolve.specs.Resolved.{resolved, stored_entries, all_items}

module _ (a : Asked) where
  abbrev HasAll : Stored → Type 0
  HasAll s = length s.values ≡ length a.fields

  -- stored entries

  stored_test : (wanted again : Bool) (ss : List Stored) (t : Stored) → All HasAll ss → HasAll t → All HasAll (if wanted && not again then ss ++ t ∷ [] else ss)
  stored_test true true ss t h i = h
  stored_test true false ss t h i = All-push HasAll ss t h i
  stored_test false again ss t h i = h

  stored_entry : (macros : MacroTexts) (e : Item) (key : Option (List ℕ)) (ss : List Stored) → All HasAll ss → All HasAll (with_entry a macros e key ss)
  unfolding stored_of
  stored_entry macros e None ss h = h
  stored_entry macros e (Some key) ss h =
      stored_test (is_wanted a ss key) (is_stored ss key) ss (stored_of a macros e key) h (length-map a.fields _)

  stored_item : (macros : MacroTexts) (content : Content) (ss : List Stored) → All HasAll ss → All HasAll (with_item a macros content ss)
  stored_item macros (contents.Entry e) ss h = stored_entry macros e e.key ss h
  stored_item macros (contents.Define s) ss h = h
  stored_item macros (contents.Preamble p) ss h = h

  all_stored : (ms : List Macro) (before : List PlacedItem) → All HasAll (stored_among a ms before)
  unfolding stored_among
  all_stored ms [] = All-nil HasAll
  all_stored ms (placed ∷ before) =
      stored_item (macro_before ms before) placed.item.content (stored_among a ms before) (all_stored ms before)

  -- what they inherit

  length-inherited : (mine theirs : List (Option (List ℕ))) → length (inherited mine theirs) ≡ length mine
  length-inherited [] theirs = refl
  length-inherited (m ∷ ms) theirs = ap suc (length-inherited ms (drop 1 theirs))

  length-inherits : (itself : Bool) (parent : Option ℕ) (now : ℕ → List (Option (List ℕ))) (p : ℕ) → length (inherits itself parent now p) ≡ length (now p)
  length-inherits false parent now p = refl
  length-inherits true None now p = refl
  length-inherits true (Some q) now p = length-inherited (now p) (now q)

  abbrev values_of : Option Stored → List (Option (List ℕ))
  values_of None = []
  values_of (Some s) = s.values

  length-values : (stored : List Stored) (order : List ℕ) (p : ℕ) (s : Stored) → slice_get stored p ≡ Some s → length (values_after stored order p) ≡ length s.values
  unfolding values_after
  length-values stored [] p s e = ap (λ o. length (values_of o)) e
  length-values stored (q ∷ before) p s e =
      length-inherits (q == p) (option_and_then (parent_of stored) (slice_get stored p)) (values_after stored before) p
      ∙ length-values stored before p s e

  -- what the style sees of them

  abbrev SeesAll : Entry → Type 0
  SeesAll e = length e.fields ≡ length a.fields

  abbrev IfSeen : Option Entry → Type 0
  IfSeen None = Unit {0}
  IfSeen (Some e) = SeesAll e

  stored_at : (ss : List Stored) (p : ℕ) (s : Stored) → All HasAll ss → slice_get ss p ≡ Some s → HasAll s
  stored_at [] p s h e = cc
  stored_at (t ∷ ss) zero s h e = subst HasAll (same_Some t s e) (All-head HasAll t ss h)
  stored_at (t ∷ ss) (suc p) s h e = stored_at ss p s (All-tail HasAll t ss h) e

  abbrev put_at : Option ℕ → List (Option (List ℕ)) → Option (List ℕ) → List (Option (List ℕ))
  put_at place values last = elim place [ None ↦ values | Some p ↦ slice_set values p last ]

  with_crossref : (place : Option ℕ) (values : List (Option (List ℕ))) (last : Option (List ℕ)) → length (put_at place values last) ≡ length values
  with_crossref None values last = refl
  with_crossref (Some p) values last = length-set values p last

  seen_at : (min : ℕ) (stored : List Stored) (order : List ℕ) (p : ℕ) (o : Option Stored) → All HasAll stored → slice_get stored p ≡ o → IfSeen (option_map (entry_seen a min stored (values_after stored order p)) o)
  seen_at min stored order p None h q = tt
  seen_at min stored order p (Some s) h q =
      with_crossref (place_of_name a.fields crossref) (values_after stored order p) (final_crossref a min stored s)
      ∙ length-values stored order p s q
      ∙ stored_at stored p s h q

  cons_seen : (o : Option Entry) (es : List Entry) → IfSeen o → All SeesAll es → All SeesAll (cons_option o es)
  cons_seen None es i h = h
  cons_seen (Some e) es i h = All-cons SeesAll e es i h

  each_seen : (f : ℕ → Option Entry) (ps : List ℕ) → ((p : ℕ) → IfSeen (f p)) → All SeesAll (filter_map f ps)
  each_seen f [] i = All-nil SeesAll
  each_seen f (p ∷ ps) i = cons_seen (f p) (filter_map f ps) (i p) (each_seen f ps i)

  all_seen : (min : ℕ) (stored : List Stored) → All HasAll stored → All SeesAll (entries_seen a min stored)
  unfolding entries_seen
  all_seen min stored h =
      each_seen _ _ (λ p. seen_at min stored (reverse (listed a stored)) p (slice_get stored p) h refl)

-- each entry has as many fields as were asked for
pub found_fields : (d : Declared) (c : Cites) (databases : List (List PlacedItem)) (min : ℕ) → All (λ (e : Entry). length e.fields ≡ length d.fields) (resolved d c databases min).entries
unfolding resolved stored_entries
found_fields d c databases min =
    let a : Asked = record { fields = d.fields; types = d.types; keys = c.keys; star = c.star } in
    all_seen a min (stored_entries a d.macros databases) (all_stored a d.macros (reverse (all_items databases)))
