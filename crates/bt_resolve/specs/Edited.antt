-- How an edit of values changes what a style sees of the databases.
use Rattle.std.specs.Prelude.{◌≡◌, ℕ, ◌+◌, false, List, [], ◌∷◌, ◌++◌, length, map, reverse, Some, slice_get}
use Rattle.bt_bib.specs.declared.spot.Spot.{Spot}
use Rattle.bt_bib.specs.Items.{PlacedItem}
use Rattle.bt_log.specs.declared.message.Message.{Message}
use Rattle.bt_resolve.specs.declared.asked.Asked.{Asked}
use Rattle.bt_resolve.specs.declared.declared.Macro.{Macro}
use Rattle.bt_resolve.specs.declared.stored.Stored.{Stored}
use Rattle.bt_resolve.specs.Messages.{for_each, database_messages}
use Rattle.bt_resolve.specs.References.{list_messages}
use Rattle.bt_resolve.specs.Listed.{listed}
use Rattle.bt_resolve.specs.Inherited.{entries_seen}
use Rattle.bt_resolve.specs.Resolved.{all_items, stored_entries, preamble, messages}
use Rattle.bt_resolve.specs.inner.Cases.{messages_at}
use Rattle.bt_resolve.specs.Skeletons.{AreAlike, AreInPlace, added_at, placed_from, moved_message, is_heir, is_within, shown}

-- An edit of a database: the databases and items before, the old and the new items of the re-read part, the items after
-- them with their old and new spot, and the later databases.
pub record Edit : Type 0 where
  pub databases : List (List PlacedItem)
  pub before : List PlacedItem
  pub old : List PlacedItem
  pub new : List PlacedItem
  pub behind : List PlacedItem
  pub stood : Spot
  pub stand : Spot
  pub others : List (List PlacedItem)

-- all databases with these items in the re-read part, and the items after them moved to this spot
abbrev pub databases_with : Edit → List PlacedItem → Spot → List (List PlacedItem)
databases_with e items m =
    e.databases ++ (e.before ++ items ++ map (placed_from m) e.behind) ∷ e.others

abbrev pub databases_before : Edit → List (List PlacedItem)
databases_before e = databases_with e e.old e.stood

abbrev pub databases_after : Edit → List (List PlacedItem)
databases_after e = databases_with e e.new e.stand

-- all items before the re-read part, from the last one back
abbrev pub items_before : Edit → List PlacedItem
items_before e = reverse e.before ++ reverse (all_items e.databases)

-- the number of the database
abbrev pub number_of : Edit → ℕ
number_of e = 1 + length e.databases

-- the entries that some items in the re-read part store, and their messages
abbrev pub stored_by : Asked → List Macro → Edit → List PlacedItem → List Stored
stored_by a macros e items = for_each (added_at a macros) (items_before e) items

abbrev pub told_by : Asked → List Macro → Edit → List PlacedItem → List Message
told_by a macros e items = for_each (messages_at a macros (number_of e)) (items_before e) items

-- all items before the later databases, from the last one back
abbrev pub before_others : Edit → List PlacedItem
before_others e = reverse e.behind ++ (reverse e.old ++ items_before e)

-- the entries that the items before the re-read part store, and those that the items after it store
abbrev pub stored_first : Asked → List Macro → Edit → List Stored
stored_first a macros e =
    for_each (added_at a macros) [] (all_items e.databases)
    ++ for_each (added_at a macros) (reverse (all_items e.databases)) e.before

abbrev pub stored_last : Asked → List Macro → Edit → List Stored
stored_last a macros e =
    for_each (added_at a macros) (reverse e.old ++ items_before e) e.behind
    ++ for_each (added_at a macros) (before_others e) (all_items e.others)

-- the messages of the items before, of the items after in the same database, and all others
abbrev pub told_first : Asked → List Macro → Edit → List Message
told_first a macros e =
    database_messages a macros 1 [] e.databases
    ++ for_each (messages_at a macros (number_of e)) (reverse (all_items e.databases)) e.before

abbrev pub told_next : Asked → List Macro → Edit → List Message
told_next a macros e = for_each (messages_at a macros (number_of e)) (reverse e.old ++ items_before e) e.behind

abbrev pub told_last : Asked → List Macro → Edit → List Message
told_last a macros e =
    database_messages a macros (number_of e + 1) (before_others e) e.others
    ++ list_messages a (stored_entries a macros (databases_before e))

-- Before and after an edit of values, the same is stored, reported and seen, apart from the re-read items and the heirs of
-- what they store.
pub record IsPatched (a : Asked) (macros : List Macro) (min : ℕ) (e : Edit) : Type 0 where
  pub stored_before : stored_entries a macros (databases_before e)
      ≡ stored_first a macros e ++ stored_by a macros e e.old ++ stored_last a macros e
  pub stored_after : stored_entries a macros (databases_after e)
      ≡ stored_first a macros e ++ stored_by a macros e e.new ++ stored_last a macros e
  pub alike : AreAlike (stored_by a macros e e.old) (stored_by a macros e e.new)
  pub said : preamble macros (databases_before e) ≡ preamble macros (databases_after e)
  pub told_before : messages a macros (databases_before e)
      ≡ told_first a macros e ++ told_by a macros e e.old ++ map (moved_message e.stood) (told_next a macros e)
      ++ told_last a macros e
  pub told_after : messages a macros (databases_after e)
      ≡ told_first a macros e ++ told_by a macros e e.new ++ map (moved_message e.stand) (told_next a macros e)
      ++ told_last a macros e
  -- the places that are shown, and at which of them the same entry is seen
  pub places : shown a min (stored_entries a macros (databases_before e))
      ≡ shown a min (stored_entries a macros (databases_after e))
  pub seen : (k p : ℕ) → slice_get (shown a min (stored_entries a macros (databases_before e))) k ≡ Some p →
      is_heir (stored_entries a macros (databases_before e))
      (is_within (length (stored_first a macros e)) (length (stored_by a macros e e.old)))
      (reverse (listed a (stored_entries a macros (databases_before e)))) p ≡ false →
      slice_get (entries_seen a min (stored_entries a macros (databases_before e))) k
      ≡ slice_get (entries_seen a min (stored_entries a macros (databases_after e))) k

-- An edit that replaces items by others of the same skeletons patches what is resolved.
abbrev pub EditIsPatched : Type 0
EditIsPatched = (a : Asked) (macros : List Macro) (min : ℕ) (e : Edit) → AreInPlace macros (items_before e) e.old e.new →
    IsPatched a macros min e
