-- How reading one more item changes what was read so far.
use Rattle.std.specs.Prelude.{◌≡◌, ℕ, ◌+◌, List, [], ◌∷◌, ◌++◌}
use Rattle.bt_bib.specs.declared.item.Item.{Item}
use Rattle.bt_bib.specs.declared.spot.Spot.{Spot}
use Rattle.bt_bib.specs.Items.{PlacedItem}
use Rattle.bt_resolve.specs.declared.place.Origin.{Origin}
use Rattle.bt_resolve.specs.declared.asked.Asked.{Asked}
use Rattle.bt_resolve.specs.declared.declared.Macro.{Macro}
use Rattle.bt_log.specs.declared.message.Message.{Message}
use Rattle.bt_resolve.specs.declared.entry.Resolved.{Resolved}
use Rattle.bt_resolve.specs.declared.stored.Stored.{Stored}
use Rattle.bt_resolve.specs.declared.reading.Reading.{Reading}
use Rattle.bt_text.specs.ByName.{known}
use Rattle.bt_resolve.specs.Inherited.{entries_seen}
use Rattle.bt_resolve.specs.References.{list_messages}
use Rattle.bt_resolve.specs.Values.{MacroTexts}
use Rattle.bt_resolve.specs.Macros.{style_macro}
use Rattle.bt_resolve.specs.inner.Cases.{with_content, preamble_of, content_messages, with_item, origin_of}
use Rattle.bt_resolve.specs.Messages.{item_messages}

-- what was read, with the macros as a function
pub record State : Type 0 where
  pub macros : MacroTexts
  pub stored : List Stored
  pub preamble : List ℕ
  pub messages : List Message

abbrev pub state_of : Reading → State
state_of r = record { macros = known r.macros; stored = r.store; preamble = r.preamble; messages = r.messages }

abbrev pub after_content : Asked → Origin → Item → State → State
after_content a origin item s = record {
  macros = with_content item.fault item.content s.macros;
  stored = with_item a s.macros item.content s.stored;
  preamble = s.preamble ++ preamble_of s.macros item.fault item.content;
  messages = s.messages ++ content_messages a s.macros s.stored origin item.line item.fault item.content;
}

abbrev pub after_item : Asked → Origin → Spot → Item → State → State
after_item a origin end item s =
    record (after_content a origin item s)
    { messages = s.messages ++ item_messages a s.macros s.stored origin end item }

abbrev pub after_placed : Asked → ℕ → PlacedItem → State → State
after_placed a database placed s = after_item a (origin_of database placed) placed.end placed.item s

-- the macros after items
abbrev pub macros_after : MacroTexts → List PlacedItem → MacroTexts
macros_after macros [] = macros
macros_after macros (placed ∷ items) = macros_after (with_content placed.item.fault placed.item.content macros) items

-- items without strings leave the macros as they are
abbrev pub DefineNothing : List PlacedItem → Type 0
DefineNothing items = (macros : MacroTexts) → macros_after macros items ≡ macros

-- after the items of a database
abbrev pub after_items : Asked → ℕ → State → List PlacedItem → State
after_items a database s [] = s
after_items a database s (placed ∷ items) = after_items a database (after_placed a database placed s) items

-- after the databases from this number on
abbrev pub after_databases : Asked → ℕ → State → List (List PlacedItem) → State
after_databases a number s [] = s
after_databases a number s (these ∷ databases) = after_databases a (number + 1) (after_items a number s these) databases

-- before the first item
abbrev pub nothing_read : List Macro → State
nothing_read macros = record { macros = style_macro macros; stored = []; preamble = []; messages = [] }

-- what is seen, once these entries are stored, and this preamble and these messages are read
abbrev pub resolved_of : Asked → ℕ → List Stored → List ℕ → List Message → Resolved
resolved_of a min stored text told =
    record { entries = entries_seen a min stored; preamble = text; messages = told ++ list_messages a stored }

-- what a state after all databases gives
abbrev pub resolved_after : Asked → ℕ → State → Resolved
resolved_after a min s = resolved_of a min s.stored s.preamble s.messages
