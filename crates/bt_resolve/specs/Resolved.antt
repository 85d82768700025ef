-- What a style sees of the databases.
use Rattle.std.specs.Prelude.{ℕ, List, [], ◌++◌, reverse, Some, None}
use Rattle.std.specs.List.{flat_map}
use Rattle.bt_bib.specs.declared.item.Content.TheVariants as contents
use Rattle.bt_bib.specs.Items.{PlacedItem}
use Rattle.bt_resolve.specs.declared.asked.Asked.{Asked}
use Rattle.bt_resolve.specs.declared.declared.Cites.{Cites}
use Rattle.bt_resolve.specs.declared.declared.Declared.{Declared}
use Rattle.bt_resolve.specs.declared.declared.Macro.{Macro}
use Rattle.bt_resolve.specs.declared.entry.Resolved.{Resolved}
use Rattle.bt_log.specs.declared.message.Message.{Message}
use Rattle.bt_resolve.specs.declared.stored.Stored.{Stored}
use Rattle.bt_resolve.specs.Values.{value}
use Rattle.bt_resolve.specs.Macros.{faultless, macro_before}
use Rattle.bt_resolve.specs.Stored.{stored_among}
use Rattle.bt_resolve.specs.Messages.{for_each, database_messages}
use Rattle.bt_resolve.specs.Inherited.{entries_seen}
use Rattle.bt_resolve.specs.References.{list_messages}

-- all items, in the order of the databases
abbrev pub all_items : List (List PlacedItem) → List PlacedItem
all_items databases = flat_map (λ these. these) databases

unfoldable pub stored_entries : Asked → List Macro → List (List PlacedItem) → List Stored
stored_entries a macros databases = stored_among a macros (reverse (all_items databases))

-- the values of all faultless preambles, joined
unfoldable pub preamble : List Macro → List (List PlacedItem) → List ℕ
preamble macros databases =
    for_each (λ before placed. elim placed.item.content [
      | contents.Preamble parts ↦ elim (faultless placed.item.fault parts) [
        | None ↦ []
        | Some these ↦ value (macro_before macros before) these
      ]
      | _ ↦ []
    ]) [] (all_items databases)

-- the messages of the databases in turn, then those of the list
unfoldable pub messages : Asked → List Macro → List (List PlacedItem) → List Message
messages a macros databases =
    database_messages a macros 1 [] databases ++ list_messages a (stored_entries a macros databases)

-- the list of entries, the preamble, and all messages
unfoldable pub resolved : Declared → Cites → List (List PlacedItem) → ℕ → Resolved
resolved d c databases min =
    let a : Asked = record { fields = d.fields; types = d.types; keys = c.keys; star = c.star } in record {
      entries = entries_seen a min (stored_entries a d.macros databases);
      preamble = preamble d.macros databases;
      messages = messages a d.macros databases;
    }
