-- Parts of rules, for the functions and lemmas that are about them.
use Rattle.std.specs.Prelude.{ℕ, Bool, true, false, ◌||◌, not, ◌&&◌, ◌==◌, nat_lt, List, [], ◌∷◌, ◌++◌, length, map, filter, filter_map, slice_get, slice_set, codes, Option, Some, None, is_some, option_map, option_and_then, unwrap_or, if◌then◌else◌, take, count_by}
use Rattle.std.specs.List.{list_any, range_with_len}
use Rattle.bt_text.specs.ByName.{with_value}
use Rattle.bt_text.specs.CaseFolding.{is_same_folded}
use Rattle.bt_text.specs.NameList.{has_name}
use Rattle.bt_text.specs.White.{white_joined}
use Rattle.bt_bib.specs.declared.fault.ItemFault.{ItemFault}
use Rattle.bt_bib.specs.declared.item.Closing.{Closing}
use Rattle.bt_bib.specs.declared.item.Content.{Content}
use Rattle.bt_bib.specs.declared.item.Content.TheVariants as contents
use Rattle.bt_bib.specs.declared.item.Entry.{Entry}
use Rattle.bt_bib.specs.declared.item.Field.{Field}
use Rattle.bt_bib.specs.declared.item.Part.{Part}
use Rattle.bt_bib.specs.declared.item.Part.TheVariants.{Text, Macro}
use Rattle.bt_bib.specs.declared.spot.Spot.{Spot}
use Rattle.bt_bib.specs.Items.{PlacedItem}
use Rattle.bt_log.specs.declared.message.Message.{Message}
use Rattle.bt_log.specs.declared.message.Place.{Place}
use Rattle.bt_resolve.specs.declared.asked.Asked.{Asked}
use Rattle.bt_resolve.specs.declared.declared.Cites.{Cites}
use Rattle.bt_resolve.specs.declared.declared.Declared.{Declared}
use Rattle.bt_resolve.specs.declared.declared.Macro.{Macro as StyleMacro}
use Rattle.bt_resolve.specs.declared.entry.Entry.{Entry as SeenEntry}
use Rattle.bt_resolve.specs.declared.place.Origin.{Origin}
use Rattle.bt_resolve.specs.declared.stored.Stored.{Stored}
use Rattle.bt_resolve.specs.Names.{crossref}
use Rattle.bt_resolve.specs.Warnings.{line_at, undefined_macro, own_macro, too_long, no_function}
use Rattle.bt_resolve.specs.Faults.{unclosed_entry, unclosed_command, fault_error, repeated}
use Rattle.bt_resolve.specs.Values.{MacroTexts, is_named, others, value, value_warnings}
use Rattle.bt_resolve.specs.Macros.{faultless, macro_before}
use Rattle.bt_resolve.specs.Fields.{given_value, field_messages}
use Rattle.bt_resolve.specs.Stored.{stored_of, is_wanted, is_stored, stored_among}
use Rattle.bt_resolve.specs.Messages.{stored_messages, item_messages}
use Rattle.bt_resolve.specs.Listed.{place_of_key, parent_of, is_among, uncited_parents}
use Rattle.bt_resolve.specs.Inherited.{inherited, is_left_out, key_spelled, entry_seen}
use Rattle.bt_resolve.specs.References.{bad_reference, nested}
use Rattle.bt_bib.specs.declared.item.Closing.TheVariants.{Brace, Parenthesis}

abbrev pub string_messages : MacroTexts → Origin → ℕ → Option (List ℕ) → Option (List Part) → List Message
string_messages macros origin line None parts = []
string_messages macros origin line (Some name) None = []
string_messages macros origin line (Some name) (Some parts) = value_warnings (Some name) macros origin line name parts

abbrev pub preamble_messages : MacroTexts → Origin → ℕ → Option (List Part) → List Message
preamble_messages macros origin line None = []
preamble_messages macros origin line (Some parts) = value_warnings None macros origin line (codes "preamble") parts

-- the place of an item of a database, given the database's number
abbrev pub origin_of : ℕ → PlacedItem → Origin
origin_of database placed = record { database = database; line = placed.start.line }

abbrev pub sign_of : Option Closing → ℕ
sign_of None = 125
sign_of (Some Brace) = 125
sign_of (Some Parenthesis) = 41

-- the entries of the keys that have one
abbrev pub cited_places : List (List ℕ) → List Stored → List ℕ
cited_places keys stored = filter_map (place_of_key stored) keys

-- how many stored entries refer to an entry
abbrev pub children : List Stored → ℕ → ℕ
children stored p = count_by (λ s. elim (parent_of stored s) [ None ↦ false | Some q ↦ q == p ]) stored

-- Values

abbrev pub part_text : MacroTexts → Part → List ℕ
part_text macros (Text text) = text
part_text macros (Macro name line) = unwrap_or (macros name) []

abbrev pub is_too_long : List ℕ → Bool
is_too_long text = nat_lt 65536 (length text)

abbrev pub joined_or_empty : Option (List ℕ) → List ℕ
joined_or_empty None = []
joined_or_empty (Some text) = white_joined text

-- the warnings of a macro with this value, if it has one
abbrev pub macro_warnings : Bool → Option (List ℕ) → Place → List ℕ → List Message
macro_warnings own text place name = elim text [
  | Some defined ↦ []
  | None ↦ if own then own_macro place name ∷ [] else undefined_macro place name ∷ []
]

abbrev pub length_warnings : Option (List ℕ) → Place → List ℕ → List Message
length_warnings joined place name = elim joined [ None ↦ too_long place name ∷ [] | Some text ↦ [] ]

-- Faults

abbrev pub unclosed : Content → Option Closing → List ℕ
unclosed content close = elim content [
  | contents.Entry e ↦ unclosed_entry (sign_of close ∷ [])
  | contents.Define d ↦ unclosed_command (codes "string") (sign_of close ∷ [])
  | contents.Preamble parts ↦ unclosed_command (codes "preamble") (sign_of close ∷ [])
]

-- the key of an entry, if it has one
abbrev pub key_of : Content → Option (List ℕ)
key_of content = elim content [ contents.Entry e ↦ e.key | contents.Define d ↦ None | contents.Preamble parts ↦ None ]

-- the error of an item with a fault, at the fault's place
abbrev pub fault_messages : ℕ → Spot → Content → Option Closing → Option ItemFault → List Message
fault_messages database end content close None = []
fault_messages database end content close (Some fault) = fault_error database end content close fault ∷ []

-- Macros

-- the macros after a string, from those before it
abbrev pub with_string : Option (List ℕ) → Option (List Part) → MacroTexts → MacroTexts
with_string name parts macros = elim name [
  | None ↦ macros
  | Some n ↦ elim parts [ None ↦ macros | Some these ↦ with_value n (value (others (Some n) macros) these) macros ]
]

abbrev pub with_content : Option ItemFault → Content → MacroTexts → MacroTexts
with_content fault content macros = elim content [
  | contents.Define d ↦ with_string d.name (faultless fault d.value) macros
  | contents.Entry e ↦ macros
  | contents.Preamble parts ↦ macros
]

-- Fields

-- what fields yield for a declared name other than `crossref`
abbrev pub own_value : MacroTexts → List Field → List ℕ → Option (List ℕ)
own_value macros fields name = if is_same_folded name crossref then None else given_value macros fields name

abbrev pub own_values : List (List ℕ) → MacroTexts → List Field → List (Option (List ℕ))
own_values declared macros fields = map (own_value macros fields) declared

abbrev pub is_declared : List (List ℕ) → List ℕ → Bool
is_declared declared name = is_same_folded name crossref || has_name declared name

abbrev pub has_field : List Field → List ℕ → Bool
has_field fields name = list_any (λ (f : Field). is_same_folded f.name name) fields

abbrev pub declared_messages : List (List ℕ) → MacroTexts → Origin → List ℕ → List Field → Field → List Message
declared_messages declared macros origin key before f =
    if is_declared declared f.name then field_messages macros origin key before f else []

-- Entries

-- one of the entries refers to this key
abbrev pub is_referred_to : List Stored → List ℕ → Bool
is_referred_to stored key = list_any (λ (s : Stored). is_named s.crossref key) stored

abbrev pub with_entry : Asked → MacroTexts → Entry → Option (List ℕ) → List Stored → List Stored
with_entry a macros e key stored = elim key [
  | None ↦ stored
  | Some k ↦ if is_wanted a stored k && not (is_stored stored k) then stored ++ stored_of a macros e k ∷ [] else stored
]

-- the stored entries after an item, from those before it
abbrev pub with_item : Asked → MacroTexts → Content → List Stored → List Stored
with_item a macros content stored = elim content [
  | contents.Entry e ↦ with_entry a macros e e.key stored
  | contents.Define d ↦ stored
  | contents.Preamble parts ↦ stored
]

abbrev pub type_messages : Option ℕ → Place → List ℕ → List Message
type_messages function place key = elim function [ None ↦ no_function place key ∷ [] | Some f ↦ [] ]

abbrev pub key_messages : Asked → MacroTexts → List Stored → Origin → ℕ → Entry → Option (List ℕ) → List Message
key_messages a macros stored origin line e None = []
key_messages a macros stored origin line e (Some key) =
    if is_wanted a stored key
    then (if is_stored stored key then repeated (line_at origin line) key ∷ [] else stored_messages a macros origin line e key)
    else []

abbrev pub content_messages : Asked → MacroTexts → List Stored → Origin → ℕ → Option ItemFault → Content → List Message
content_messages a macros stored origin line fault content = elim content [
  | contents.Entry e ↦ key_messages a macros stored origin line e e.key
  | contents.Define d ↦ string_messages macros origin line d.name (faultless fault d.value)
  | contents.Preamble parts ↦ preamble_messages macros origin line (faultless fault parts)
]

-- what an item of a database yields, from the items before it
abbrev pub messages_at : Asked → List StyleMacro → ℕ → List PlacedItem → PlacedItem → List Message
messages_at a macros database before placed =
    item_messages a (macro_before macros before) (stored_among a macros before) (origin_of database placed) placed.end
    placed.item

-- Preambles

abbrev pub preamble_value : MacroTexts → Option (List Part) → List ℕ
preamble_value macros None = []
preamble_value macros (Some parts) = value macros parts

abbrev pub preamble_of : MacroTexts → Option ItemFault → Content → List ℕ
preamble_of macros fault content = elim content [
  | contents.Preamble parts ↦ preamble_value macros (faultless fault parts)
  | contents.Entry e ↦ []
  | contents.Define d ↦ []
]

-- what an item adds to the preamble, from the items before it
abbrev pub preamble_at : List StyleMacro → List PlacedItem → PlacedItem → List ℕ
preamble_at macros before placed =
    preamble_of (macro_before macros before) placed.item.fault placed.item.content

-- The list

abbrev pub is_cited : List (List ℕ) → Option Stored → Bool
is_cited keys None = false
is_cited keys (Some s) = has_name keys s.key

-- the entries that stored entries refer to, in the order of the referring ones
abbrev pub parents : List Stored → List ℕ
parents stored = filter_map (parent_of stored) stored

-- all stored entries but these, in the order of the databases
abbrev pub others_than : List ℕ → List Stored → List ℕ
others_than these stored = filter (λ p. not (is_among these p)) (range_with_len 0 (length stored))

abbrev pub listed_by : List (List ℕ) → Option ℕ → List Stored → List ℕ
listed_by keys star stored = elim star [
  | None ↦ cited_places keys stored ++ uncited_parents keys stored
  | Some before ↦
      cited_places (take before keys) stored ++ others_than (cited_places (take before keys) stored) stored
]

-- Inheritance

abbrev pub values_of : Option Stored → List (Option (List ℕ))
values_of None = []
values_of (Some s) = s.values

abbrev pub parent_at : List Stored → ℕ → Option ℕ
parent_at stored p = option_and_then (parent_of stored) (slice_get stored p)

-- the values of an entry after another one, or this one itself, has inherited
abbrev pub inherits : Bool → Option ℕ → (ℕ → List (Option (List ℕ))) → ℕ → List (Option (List ℕ))
inherits itself parent now p = elim itself [
  | false ↦ now p
  | true ↦ elim parent [ None ↦ now p | Some q ↦ inherited (now p) (now q) ]
]

abbrev pub is_place : ℕ → Option ℕ → Bool
is_place p None = false
is_place p (Some q) = q == p

-- the values with `crossref` in its place, if the style has that field
abbrev pub with_crossref : Option ℕ → Option (List ℕ) → List (Option (List ℕ)) → List (Option (List ℕ))
with_crossref place name values = elim place [ None ↦ values | Some p ↦ slice_set values p name ]

abbrev pub entry_at : Asked → ℕ → List Stored → (ℕ → List (Option (List ℕ))) → ℕ → Option SeenEntry
entry_at a min stored values p = option_map (entry_seen a min stored (values p)) (slice_get stored p)

-- the entries at these places with these values, without those that are left out
abbrev pub entries_by : Asked → ℕ → List Stored → (ℕ → List (Option (List ℕ))) → List ℕ → List SeenEntry
entries_by a min stored values places =
    filter_map (entry_at a min stored values) (filter (λ p. not (is_left_out a min stored p)) places)

-- References

abbrev pub parent_messages : List ℕ → List ℕ → Option Stored → List Message
parent_messages key name None = bad_reference key name ∷ []
parent_messages key name (Some parent) = if is_some parent.crossref then nested key name ∷ [] else []

abbrev pub entry_messages : List (List ℕ) → List Stored → Option Stored → List Message
entry_messages keys stored None = []
entry_messages keys stored (Some s) = elim s.crossref [
  | None ↦ []
  | Some name ↦
      parent_messages (key_spelled keys s.key) name (option_and_then (slice_get stored) (place_of_key stored name))
]

-- All

-- what the items' names and keys are looked up in
abbrev pub asked : Declared → Cites → Asked
asked d c = record { fields = d.fields; types = d.types; keys = c.keys; star = c.star }
