-- What items give that stand elsewhere: their messages move with them, and all else stays.
use Rattle.std.proofs.Common.{◌≡◌, ◌∙◌, ap, sym, refl, ℕ, ◌+◌, Bool, true, false, List, [], ◌∷◌, ◌++◌, reverse, map, Option, Some, None, arith}
use Rattle.std.specs.Prelude.{if◌then◌else◌, codes}
use Rattle.std.specs.List.{flat_map}
use Rattle.std.proofs.lemmas.List.{map-append}
use Rattle.bt_bib.specs.Items.{PlacedItem}
use Rattle.bt_bib.specs.Spot.{spot_from}
use Rattle.bt_bib.specs.declared.spot.Spot.{Spot}
use Rattle.bt_bib.specs.declared.fault.ItemFault.{ItemFault}
use Rattle.bt_bib.specs.declared.item.Closing.{Closing}
use Rattle.bt_bib.specs.declared.item.Part.{Part}
use Rattle.bt_bib.specs.declared.item.Part.TheVariants.{Text, Macro as MacroPart}
use Rattle.bt_bib.specs.declared.item.Field.{Field}
use Rattle.bt_bib.specs.declared.item.Content.{Content}
use Rattle.bt_bib.specs.declared.item.Content.TheVariants as contents
use Rattle.bt_bib.specs.declared.item.Entry.{Entry}
use Rattle.bt_log.specs.declared.message.Message.{Message}
use Rattle.bt_log.specs.declared.message.Place.{Place}
use Rattle.bt_log.specs.declared.message.Place.TheVariants.{DatabaseLine}
use Rattle.bt_resolve.specs.declared.asked.Asked.{Asked}
use Rattle.bt_resolve.specs.declared.declared.Macro.{Macro}
use Rattle.bt_resolve.specs.declared.stored.Stored.{Stored}
use Rattle.bt_resolve.specs.declared.place.Origin.{Origin}
use Rattle.bt_resolve.specs.Names.{place_of_name}
use Rattle.bt_resolve.specs.Values.{MacroTexts, is_named, others, joined_parts, within_limit, part_warnings, value_warnings}
use Rattle.bt_resolve.specs.Macros.{faultless, macro_before}
use Rattle.bt_resolve.specs.Fields.{field_messages, fields_messages}
use Rattle.bt_resolve.specs.Stored.{kind_of, is_wanted, is_stored, stored_among}
use Rattle.bt_resolve.specs.Warnings.{line_at, extra_field}
use Rattle.bt_resolve.specs.inner.Cases.{origin_of, string_messages, preamble_messages, macro_warnings, length_warnings, has_field, is_declared, declared_messages, type_messages, key_messages, content_messages, fault_messages, messages_at, preamble_at}
use Rattle.bt_resolve.specs.Faults.{repeated}
use Rattle.bt_resolve.specs.Messages.{stored_messages, for_each}
use Rattle.bt_resolve.specs.Skeletons.{AreOneBefore, added_at, placed_from, moved_message, MovedItemsAreTheSame}
use Rattle.bt_resolve.proofs.PlacingLemmas.{behind_next}
use Rattle.bt_resolve.proofs.SpanLemmas.{item_added, item_told, item_said, messages_are, one_more}

-- ---- messages

abbrev moved_origin : Spot → Origin → Origin
moved_origin m o = record { database = o.database; line = o.line + m.line }

abbrev moved_line : Spot → Origin → ℕ → Place
moved_line m o line = DatabaseLine o.database ((o.line + line) + m.line) None

line_moved : (m : Spot) (o : Origin) (line : ℕ) → line_at (moved_origin m o) line ≡ moved_line m o line
line_moved m o line =
    let sum : (o.line + m.line) + line ≡ (o.line + line) + m.line = omega arith in
    λ j. DatabaseLine o.database (sum j) None

macro_told : (m : Spot) (own : Bool) (text : Option (List ℕ)) (o : Origin) (line : ℕ) (name : List ℕ) → macro_warnings own text (moved_line m o line) name ≡ map (moved_message m) (macro_warnings own text (line_at o line) name)
macro_told m own (Some text) o line name = refl
macro_told m true None o line name = refl
macro_told m false None o line name = refl

part_told : (m : Spot) (own : Option (List ℕ)) (macros : MacroTexts) (o : Origin) (p : Part) → part_warnings own macros (moved_origin m o) p ≡ map (moved_message m) (part_warnings own macros o p)
part_told m own macros o (Text text) = refl
part_told m own macros o (MacroPart name line) =
    ap (λ (place : Place). macro_warnings (is_named own name) (others own macros name) place name) (line_moved m o line)
    ∙ macro_told m (is_named own name) (others own macros name) o line name

parts_told : (m : Spot) (own : Option (List ℕ)) (macros : MacroTexts) (o : Origin) (parts : List Part) → flat_map (part_warnings own macros (moved_origin m o)) parts ≡ map (moved_message m) (flat_map (part_warnings own macros o) parts)
parts_told m own macros o [] = refl
parts_told m own macros o (p ∷ ps) =
    (λ j. part_told m own macros o p j ++ parts_told m own macros o ps j)
    ∙ sym (map-append (moved_message m) (part_warnings own macros o p) (flat_map (part_warnings own macros o) ps))

length_told : (m : Spot) (text : Option (List ℕ)) (o : Origin) (line : ℕ) (name : List ℕ) → length_warnings text (line_at (moved_origin m o) line) name ≡ map (moved_message m) (length_warnings text (line_at o line) name)
length_told m None o line name = ap (λ (place : Place). length_warnings None place name) (line_moved m o line)
length_told m (Some text) o line name = refl

value_told : (m : Spot) (own : Option (List ℕ)) (macros : MacroTexts) (o : Origin) (line : ℕ) (name : List ℕ) (parts : List Part) → value_warnings own macros (moved_origin m o) line name parts ≡ map (moved_message m) (value_warnings own macros o line name parts)
unfolding value_warnings
value_told m own macros o line name parts =
    let text = within_limit (joined_parts (others own macros) parts) in
    (λ j. parts_told m own macros o parts j ++ length_told m text o line name j)
    ∙ sym (map-append (moved_message m) (flat_map (part_warnings own macros o) parts) (length_warnings text (line_at o line) name))

extra_told : (m : Spot) (again : Bool) (o : Origin) (line : ℕ) (key name : List ℕ) → (if again then extra_field (line_at (moved_origin m o) line) key name ∷ [] else []) ≡ map (moved_message m) (if again then extra_field (line_at o line) key name ∷ [] else [])
extra_told m true o line key name = ap (λ (place : Place). extra_field place key name ∷ []) (line_moved m o line)
extra_told m false o line key name = refl

field_told : (m : Spot) (macros : MacroTexts) (o : Origin) (key : List ℕ) (before : List Field) (f : Field) → field_messages macros (moved_origin m o) key before f ≡ map (moved_message m) (field_messages macros o key before f)
field_told m macros o key before f =
    (λ j. value_told m None macros o f.line f.name f.value j ++ extra_told m (has_field before f.name) o f.line key f.name j)
    ∙ sym (map-append (moved_message m) (value_warnings None macros o f.line f.name f.value) (if has_field before f.name then extra_field (line_at o f.line) key f.name ∷ [] else []))

told_if : (m : Spot) (b : Bool) (these those : List Message) → these ≡ map (moved_message m) those → (if b then these else []) ≡ map (moved_message m) (if b then those else [])
told_if m true these those is = is
told_if m false these those is = refl

fields_told : (m : Spot) (declared : List (List ℕ)) (macros : MacroTexts) (o : Origin) (key : List ℕ) (before fields : List Field) → fields_messages declared macros (moved_origin m o) key before fields ≡ map (moved_message m) (fields_messages declared macros o key before fields)
fields_told m declared macros o key before [] = refl
fields_told m declared macros o key before (f ∷ fs) =
    let first : declared_messages declared macros (moved_origin m o) key before f ≡ map (moved_message m) (declared_messages declared macros o key before f) =
    told_if m (is_declared declared f.name) (field_messages macros (moved_origin m o) key before f) (field_messages macros o key before f) (field_told m macros o key before f) in
    (λ j. first j ++ fields_told m declared macros o key (before ++ f ∷ []) fs j)
    ∙ sym (map-append (moved_message m) (declared_messages declared macros o key before f) (fields_messages declared macros o key (before ++ f ∷ []) fs))

type_told : (m : Spot) (function : Option ℕ) (o : Origin) (line : ℕ) (key : List ℕ) → type_messages function (line_at (moved_origin m o) line) key ≡ map (moved_message m) (type_messages function (line_at o line) key)
type_told m None o line key = ap (λ (place : Place). type_messages None place key) (line_moved m o line)
type_told m (Some function) o line key = refl

pub entry_told : (a : Asked) (macros : MacroTexts) (m : Spot) (o : Origin) (line : ℕ) (e : Entry) (key : List ℕ) → stored_messages a macros (moved_origin m o) line e key ≡ map (moved_message m) (stored_messages a macros o line e key)
unfolding stored_messages
entry_told a macros m o line e key =
    (λ j. type_told m (place_of_name a.types (kind_of e)) o line key j ++ fields_told m a.fields macros o key [] e.fields j)
    ∙ sym (map-append (moved_message m) (type_messages (place_of_name a.types (kind_of e)) (line_at o line) key) (fields_messages a.fields macros o key [] e.fields))

-- the messages of a wanted entry
abbrev wanted_messages : Asked → MacroTexts → Bool → Origin → ℕ → Entry → List ℕ → List Message
wanted_messages a macros again o line e key =
    if again then repeated (line_at o line) key ∷ [] else stored_messages a macros o line e key

wanted_told : (a : Asked) (macros : MacroTexts) (m : Spot) (again : Bool) (o : Origin) (line : ℕ) (e : Entry) (key : List ℕ) → wanted_messages a macros again (moved_origin m o) line e key ≡ map (moved_message m) (wanted_messages a macros again o line e key)
wanted_told a macros m true o line e key = ap (λ (place : Place). repeated place key ∷ []) (line_moved m o line)
wanted_told a macros m false o line e key = entry_told a macros m o line e key

key_told : (a : Asked) (macros : MacroTexts) (stored : List Stored) (m : Spot) (o : Origin) (line : ℕ) (e : Entry) (key : Option (List ℕ)) → key_messages a macros stored (moved_origin m o) line e key ≡ map (moved_message m) (key_messages a macros stored o line e key)
key_told a macros stored m o line e None = refl
key_told a macros stored m o line e (Some key) =
    told_if m (is_wanted a stored key) (wanted_messages a macros (is_stored stored key) (moved_origin m o) line e key) (wanted_messages a macros (is_stored stored key) o line e key) (wanted_told a macros m (is_stored stored key) o line e key)

string_told : (macros : MacroTexts) (m : Spot) (o : Origin) (line : ℕ) (name : Option (List ℕ)) (parts : Option (List Part)) → string_messages macros (moved_origin m o) line name parts ≡ map (moved_message m) (string_messages macros o line name parts)
string_told macros m o line None parts = refl
string_told macros m o line (Some name) None = refl
string_told macros m o line (Some name) (Some parts) = value_told m (Some name) macros o line name parts

preamble_told : (macros : MacroTexts) (m : Spot) (o : Origin) (line : ℕ) (parts : Option (List Part)) → preamble_messages macros (moved_origin m o) line parts ≡ map (moved_message m) (preamble_messages macros o line parts)
preamble_told macros m o line None = refl
preamble_told macros m o line (Some parts) = value_told m None macros o line (codes "preamble") parts

content_told : (a : Asked) (macros : MacroTexts) (stored : List Stored) (m : Spot) (o : Origin) (line : ℕ) (fault : Option ItemFault) (c : Content) → content_messages a macros stored (moved_origin m o) line fault c ≡ map (moved_message m) (content_messages a macros stored o line fault c)
content_told a macros stored m o line fault (contents.Entry e) = key_told a macros stored m o line e e.key
content_told a macros stored m o line fault (contents.Define d) = string_told macros m o line d.name (faultless fault d.value)
content_told a macros stored m o line fault (contents.Preamble parts) = preamble_told macros m o line (faultless fault parts)

fault_told : (m : Spot) (database : ℕ) (end : Spot) (c : Content) (close : Option Closing) (fault : Option ItemFault) → fault_messages database (spot_from m end) c close fault ≡ map (moved_message m) (fault_messages database end c close fault)
fault_told m database end c close None = refl
fault_told m database end c close (Some fault) = refl

pub item_moved : (a : Asked) (ms : List Macro) (m : Spot) (number : ℕ) (before : List PlacedItem) (x : PlacedItem) → messages_at a ms number before (placed_from m x) ≡ map (moved_message m) (messages_at a ms number before x)
item_moved a ms m number before x =
    let macros = macro_before ms before in
    let stored = stored_among a ms before in
    let o = origin_of number x in
    messages_are a macros stored (moved_origin m o) (spot_from m x.end) x.item
    ∙ (λ j. content_told a macros stored m o x.item.line x.item.fault x.item.content j ++ fault_told m number x.end x.item.content x.item.close x.item.fault j)
    ∙ sym (map-append (moved_message m) (content_messages a macros stored o x.item.line x.item.fault x.item.content) (fault_messages number x.end x.item.content x.item.close x.item.fault))
    ∙ ap (map (moved_message m)) (sym (messages_are a macros stored o x.end x.item))

-- ---- items one after another

one_moved : (a : Asked) (ms : List Macro) (m : Spot) (before others : List PlacedItem) (x : PlacedItem) → AreOneBefore a ms before others → AreOneBefore a ms (placed_from m x ∷ before) (x ∷ others)
unfolding macro_before stored_among
one_moved a ms m before others x one = let more = one_more a ms before others x one in record { defined = more.defined; stored = more.stored }

-- what each item gives, wherever it stands
moved_each : {A : Type 0} (a : Asked) (ms : List Macro) (m : Spot) (f : List PlacedItem → PlacedItem → List A) → ((before others : List PlacedItem) (x : PlacedItem) → AreOneBefore a ms before others → f before (placed_from m x) ≡ f others x) → (before others items : List PlacedItem) → AreOneBefore a ms before others → for_each f before (map (placed_from m) items) ≡ for_each f others items
moved_each a ms m f same before others [] one = refl
moved_each a ms m f same before others (x ∷ items) one = λ j.
    same before others x one j ++ moved_each a ms m f same (placed_from m x ∷ before) (x ∷ others) items (one_moved a ms m before others x one) j

moved_telling : (a : Asked) (ms : List Macro) (m : Spot) (number : ℕ) (before others items : List PlacedItem) → AreOneBefore a ms before others → for_each (messages_at a ms number) before (map (placed_from m) items) ≡ map (moved_message m) (for_each (messages_at a ms number) others items)
moved_telling a ms m number before others [] one = refl
moved_telling a ms m number before others (x ∷ items) one =
    let first = item_moved a ms m number before x ∙ ap (map (moved_message m)) (item_told a ms before others number x one) in
    let rest = moved_telling a ms m number (placed_from m x ∷ before) (x ∷ others) items (one_moved a ms m before others x one) in
    (λ j. first j ++ rest j) ∙ sym (map-append (moved_message m) (messages_at a ms number others x) (for_each (messages_at a ms number) (x ∷ others) items))

moved_after : (a : Asked) (ms : List Macro) (m : Spot) (before others items : List PlacedItem) → AreOneBefore a ms before others → AreOneBefore a ms (reverse (map (placed_from m) items) ++ before) (reverse items ++ others)
moved_after a ms m before others [] one = one
moved_after a ms m before others (x ∷ items) one =
    let later = moved_after a ms m (placed_from m x ∷ before) (x ∷ others) items (one_moved a ms m before others x one) in
    rw (behind_next (placed_from m x) (map (placed_from m) items) before, behind_next x items others) later

pub moved_the_same : MovedItemsAreTheSame
moved_the_same a ms m before others items one = record {
  storing = moved_each a ms m (added_at a ms) (λ b o x is. item_added a ms b o x is) before others items one;
  telling = λ number. moved_telling a ms m number before others items one;
  saying = moved_each a ms m (preamble_at ms) (λ b o x is. item_said a ms b o x is) before others items one;
  after = moved_after a ms m before others items one;
}
