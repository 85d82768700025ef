-- What readers return for the parts of an item.
use Rattle.std.specs.Prelude.{ℕ, List, [], Option, None, option_copied}
use Rattle.std.specs.List.{flat_map}
use Rattle.bt_bib.specs.declared.item.Definition.{Definition}
use Rattle.bt_bib.specs.declared.item.Entry.{Entry}
use Rattle.bt_bib.specs.declared.item.Field.{Field}
use Rattle.bt_bib.specs.declared.item.Part.{Part}
use Rattle.bt_log.specs.declared.message.Message.{Message}
use Rattle.bt_text.specs.ByName.{known}
use Rattle.bt_resolve.specs.declared.fields.FieldReader.{FieldReader}
use Rattle.bt_resolve.specs.declared.fields.Given.{Given}
use Rattle.bt_resolve.specs.declared.fields.Slot.{Slot}
use Rattle.bt_resolve.specs.declared.reader.Reader.{Reader}
use Rattle.bt_resolve.specs.declared.stored.Stored.{Stored}
use Rattle.bt_resolve.specs.declared.values.ValueReader.{ValueReader}
use Rattle.bt_resolve.specs.Values.{MacroTexts, field_value, is_named, others, part_warnings, value_warnings}
use Rattle.bt_resolve.specs.Macros.{faultless}
use Rattle.bt_resolve.specs.Fields.{fields_messages}
use Rattle.bt_resolve.specs.Messages.{stored_messages}
use Rattle.bt_resolve.specs.inner.Cases.{preamble_messages, string_messages, key_messages, macro_warnings}
use Rattle.bt_resolve.specs.inner.Slots.{slot_messages}
use Rattle.bt_resolve.specs.Warnings.{line_at}

-- Values

-- the macros for a value: all but the one that it defines
abbrev pub macros_for : ValueReader → MacroTexts
macros_for r = others (option_copied r.own) (known r.macros.now)

abbrev pub messages_of_macro : ValueReader → List ℕ → ℕ → List Message
messages_of_macro r name line =
    macro_warnings (is_named (option_copied r.own) name) (macros_for r name) (line_at r.origin line) name

abbrev pub messages_of_part : ValueReader → Part → List Message
messages_of_part r part =
    part_warnings (option_copied r.own) (known r.macros.now) r.origin part

abbrev pub messages_of_parts : ValueReader → List Part → List Message
messages_of_parts r parts =
    flat_map (part_warnings (option_copied r.own) (known r.macros.now) r.origin)
    parts

abbrev pub messages_of_value : ValueReader → List ℕ → ℕ → List Part → List Message
messages_of_value r name line parts =
    value_warnings (option_copied r.own) (known r.macros.now) r.origin line name
    parts

-- Fields

abbrev pub text_of_field : FieldReader → Field → List ℕ
text_of_field r f = field_value (known r.macros.now) f.value

abbrev pub warnings_of_field : FieldReader → Field → List Message
warnings_of_field r f =
    value_warnings None (known r.macros.now) r.origin f.line f.name f.value

abbrev pub messages_of_field : FieldReader → Option Slot → Given → Field → List Message
messages_of_field r slot given f =
    slot_messages slot given (known r.macros.now) r.origin r.key.now f

abbrev pub messages_of_fields : FieldReader → List Field → List Message
messages_of_fields r fields =
    fields_messages r.declared.now (known r.macros.now) r.origin r.key.now []
    fields

-- Items

abbrev pub messages_of_given : Reader → MacroTexts → List ℕ → List Field → List Message
messages_of_given r macros key fields =
    fields_messages r.asked.now.fields macros r.origin key [] fields

abbrev pub messages_of_stored : Reader → MacroTexts → Entry → List ℕ → List Message
messages_of_stored r macros e key = stored_messages r.asked.now macros r.origin r.item.now.line e key

abbrev pub messages_of_entry : Reader → MacroTexts → List Stored → Entry → List Message
messages_of_entry r macros stored e = key_messages r.asked.now macros stored r.origin r.item.now.line e e.key

abbrev pub messages_of_string : Reader → MacroTexts → Definition → List Message
messages_of_string r macros d =
    string_messages macros r.origin r.item.now.line d.name (faultless r.item.now.fault d.value)

abbrev pub messages_of_preamble : Reader → MacroTexts → Option (List Part) → List Message
messages_of_preamble r macros parts =
    preamble_messages macros r.origin r.item.now.line (faultless r.item.now.fault parts)
