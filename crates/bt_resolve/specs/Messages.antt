-- The messages of the items, in their order.
use Rattle.std.specs.Prelude.{ℕ, ◌+◌, List, [], ◌∷◌, ◌++◌, reverse, codes, Some, None, if◌then◌else◌}
use Rattle.bt_bib.specs.declared.spot.Spot.{Spot}
use Rattle.bt_bib.specs.declared.item.Item.{Item}
use Rattle.bt_bib.specs.declared.item.Content.TheVariants as contents
use Rattle.bt_bib.specs.declared.item.Entry.{Entry}
use Rattle.bt_bib.specs.Items.{PlacedItem}
use Rattle.bt_resolve.specs.declared.asked.Asked.{Asked}
use Rattle.bt_resolve.specs.declared.declared.Macro.{Macro}
use Rattle.bt_log.specs.declared.message.Message.{Message}
use Rattle.bt_resolve.specs.declared.stored.Stored.{Stored}
use Rattle.bt_resolve.specs.declared.place.Origin.{Origin}
use Rattle.bt_resolve.specs.Names.{place_of_name}
use Rattle.bt_resolve.specs.Values.{MacroTexts, value_warnings}
use Rattle.bt_resolve.specs.Macros.{faultless, macro_before}
use Rattle.bt_resolve.specs.Warnings.{line_at, no_function}
use Rattle.bt_resolve.specs.Faults.{repeated, fault_error}
use Rattle.bt_resolve.specs.Fields.{fields_messages}
use Rattle.bt_resolve.specs.Stored.{kind_of, is_wanted, is_stored, stored_among}

-- the messages of an entry that is stored: the one that its type has no function, then those of its fields
unfoldable pub stored_messages : Asked → MacroTexts → Origin → ℕ → Entry → List ℕ → List Message
stored_messages a macros origin line e key =
    (elim (place_of_name a.types (kind_of e)) [ None ↦ no_function (line_at origin line) key ∷ [] | Some function ↦ [] ])
    ++ fields_messages a.fields macros origin key [] e.fields

-- the messages of an item that extends from its place up to another, given the macros before it and the entries that
-- are stored before it; the message about its fault comes last
unfoldable pub item_messages : Asked → MacroTexts → List Stored → Origin → Spot → Item → List Message
item_messages a macros stored origin end item =
    (elim item.content [
      | contents.Entry e ↦ elim e.key [
        | None ↦ []
        | Some key ↦
            if is_wanted a stored key
            then (if is_stored stored key then repeated (line_at origin item.line) key ∷ [] else stored_messages a macros origin item.line e key)
            else []
      ]
      | contents.Define d ↦ elim d.name [
        | None ↦ []
        | Some name ↦ elim (faultless item.fault d.value) [
          | None ↦ []
          | Some parts ↦ value_warnings (Some name) macros origin item.line name parts
        ]
      ]
      | contents.Preamble parts ↦ elim (faultless item.fault parts) [
        | None ↦ []
        | Some these ↦ value_warnings None macros origin item.line (codes "preamble") these
      ]
    ])
    ++ elim item.fault [
      | None ↦ []
      | Some fault ↦ fault_error origin.database end item.content item.close fault ∷ []
    ]

-- for each item, the result of f for it and the items before it, given from the last one back
abbrev pub for_each : {A : Type 0} → (List PlacedItem → PlacedItem → List A) → List PlacedItem → List PlacedItem → List A
for_each f before [] = []
for_each f before (item ∷ rest) = f before item ++ for_each f (item ∷ before) rest

-- the messages of the databases from this number on
abbrev pub database_messages : Asked → List Macro → ℕ → List PlacedItem → List (List PlacedItem) → List Message
database_messages a macros number before [] = []
database_messages a macros number before (these ∷ databases) =
    for_each (λ earlier placed. item_messages a (macro_before macros earlier) (stored_among a macros earlier)
    (record { database = number; line = placed.start.line }) placed.end placed.item) before these
    ++ database_messages a macros (number + 1) (reverse these ++ before) databases
