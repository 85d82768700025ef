-- What an item gives that replaces another. Of an entry, it must be known whether it is stored.
use Rattle.std.specs.Prelude.{ℕ, ◌==◌, Bool, true, ◌||◌, not, List, [], ◌∷◌, ◌++◌, Option, Some, None, if◌then◌else◌}
use Rattle.bt_bib.specs.Items.{PlacedItem}
use Rattle.bt_bib.specs.declared.item.Content.TheVariants as contents
use Rattle.bt_bib.specs.declared.item.Entry.{Entry}
use Rattle.bt_bib.specs.declared.item.Item.{Item}
use Rattle.bt_bib.specs.declared.spot.Spot.{Spot}
use Rattle.bt_log.specs.declared.message.Message.{Message}
use Rattle.bt_resolve.specs.declared.asked.Asked.{Asked}
use Rattle.bt_resolve.specs.declared.place.Origin.{Origin}
use Rattle.bt_resolve.specs.declared.span.Mark.{Mark}
use Rattle.bt_resolve.specs.declared.span.Span.{Span}
use Rattle.bt_resolve.specs.declared.stored.Stored.{Stored}
use Rattle.bt_resolve.specs.Values.{MacroTexts}
use Rattle.bt_resolve.specs.Stored.{stored_of}
use Rattle.bt_resolve.specs.Messages.{stored_messages}
use Rattle.bt_resolve.specs.Macros.{faultless}
use Rattle.bt_resolve.specs.Skeletons.{is_entry}
use Rattle.bt_resolve.specs.inner.Cases.{origin_of, fault_messages, preamble_messages, string_messages}

-- A mark tells whether its entry is wanted: an entry that isn't stored is unwanted if it gave no message.
abbrev pub tells : Mark → Bool
tells m = m.stored || m.told == 0

abbrev pub stored_if : Asked → MacroTexts → Bool → Entry → Option (List ℕ) → List Stored
stored_if a macros stored e None = []
stored_if a macros stored e (Some key) = if stored then stored_of a macros e key ∷ [] else []

abbrev pub told_if : Asked → MacroTexts → Bool → Origin → ℕ → Entry → Option (List ℕ) → List Message
told_if a macros stored origin line e None = []
told_if a macros stored origin line e (Some key) = if stored then stored_messages a macros origin line e key else []

abbrev pub nothing : Span
nothing = record { stored = []; messages = [] }

-- with what an entry gives
abbrev pub with_entry_by : Asked → MacroTexts → Mark → Origin → ℕ → Entry → Span → Span
with_entry_by a macros m origin line e s = record {
  stored = s.stored ++ stored_if a macros m.stored e e.key;
  messages = s.messages ++ told_if a macros m.stored origin line e e.key;
}

-- with what an item's content gives
abbrev pub with_content_by : Asked → MacroTexts → Mark → Origin → Item → Span → Span
with_content_by a macros m origin item s = elim item.content [
  | contents.Entry e ↦ with_entry_by a macros m origin item.line e s
  | contents.Define d ↦ record s { messages = s.messages ++ string_messages macros origin item.line d.name (faultless item.fault d.value) }
  | contents.Preamble parts ↦ record s { messages = s.messages ++ preamble_messages macros origin item.line (faultless item.fault parts) }
]

-- and then its fault
abbrev pub with_item_by : Asked → MacroTexts → Mark → Origin → Spot → Item → Span → Span
with_item_by a macros m origin end item s =
    let given = with_content_by a macros m origin item s in
    record given { messages = given.messages ++ fault_messages origin.database end item.content item.close item.fault }

-- what an item of a database gives, by the mark of the one that it replaces
abbrev pub span_of : Asked → MacroTexts → ℕ → Mark → List PlacedItem → Span
span_of a macros number m [] = nothing
span_of a macros number m (x ∷ items) = with_item_by a macros m (origin_of number x) x.end x.item nothing

-- if it is an entry, the mark tells whether it is wanted
abbrev pub tells_of : Mark → List PlacedItem → Bool
tells_of m [] = true
tells_of m (x ∷ items) = not (is_entry x.item.content) || tells m
