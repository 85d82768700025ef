-- The wording of errors in items.
use Rattle.std.specs.Prelude.{ℕ, List, [], ◌∷◌, ◌++◌, codes, Option, Some, None}
use Rattle.bt_bib.specs.declared.fault.ItemFault.{ItemFault}
use Rattle.bt_bib.specs.declared.fault.ItemFault.TheVariants.{EndOfFile, MissingName, BadNameEnd, ExpectedOpen, ExpectedCommaOrClose, ExpectedEquals, UnbalancedBraces, MissingPart}
use Rattle.bt_bib.specs.declared.fault.NameRole.{NameRole}
use Rattle.bt_bib.specs.declared.fault.NameRole.TheVariants.{EntryType, StringName, FieldName, FieldPart}
use Rattle.bt_bib.specs.declared.item.Closing.{Closing}
use Rattle.bt_bib.specs.declared.item.Closing.TheVariants.{Parenthesis}
use Rattle.bt_bib.specs.declared.item.Content.{Content}
use Rattle.bt_bib.specs.declared.item.Content.TheVariants as contents
use Rattle.bt_bib.specs.declared.spot.Spot.{Spot}
use Rattle.bt_log.specs.declared.message.Said.TheVariants.{Words}
use Rattle.bt_log.specs.declared.message.Place.TheVariants.{DatabaseLine}
use Rattle.bt_log.specs.declared.message.Message.{Message}
use Rattle.bt_log.specs.Message.{skipping}
use Rattle.bt_log.specs.declared.message.Place.{Place}

-- what is skipped after a fault
abbrev pub dropped_name : Content → List ℕ
dropped_name (contents.Entry e) = codes "entry"
dropped_name _ = codes "command"

abbrev pub what_name : NameRole → List ℕ
what_name EntryType = codes "an entry type"
what_name StringName = codes "a string name"
what_name FieldName = codes "a field name"
what_name FieldPart = codes "a field part"

-- an unclosed entry, and an unclosed command of this name
unfoldable pub unclosed_entry : List ℕ → List ℕ
unclosed_entry sign = codes "I was expecting a `,' or a `" ++ sign ++ codes "'"

unfoldable pub unclosed_command : List ℕ → List ℕ → List ℕ
unclosed_command name sign = codes "Missing \"" ++ sign ++ codes "\" in " ++ name ++ codes " command"

unfoldable pub fault_words : Content → Option Closing → ItemFault → List ℕ
fault_words content close EndOfFile = codes "Illegal end of database file"
fault_words content close (MissingName what) = codes "You're missing " ++ what_name what
fault_words content close (BadNameEnd what byte) =
    codes "\"" ++ (byte ∷ []) ++ codes "\" immediately follows " ++ what_name what
fault_words content close ExpectedOpen = codes "I was expecting a `{' or a `('"
fault_words content close ExpectedCommaOrClose =
    (let sign : List ℕ = elim close [ Some Parenthesis ↦ 41 | _ ↦ 125 ] ∷ [] in
    elim content [
      | contents.Entry e ↦ unclosed_entry sign
      | contents.Define d ↦ unclosed_command (codes "string") sign
      | contents.Preamble parts ↦ unclosed_command (codes "preamble") sign
    ])
fault_words content close ExpectedEquals = codes "I was expecting an `='"
fault_words content close UnbalancedBraces = codes "Unbalanced braces"
fault_words content close MissingPart = codes "You're missing a field part"

-- the error of a fault at a place of a database. It names the entry, if it has a key.
abbrev pub fault_error : ℕ → Spot → Content → Option Closing → ItemFault → Message
fault_error database end content close fault =
    record (skipping (Words (fault_words content close fault)) (DatabaseLine database end.line (Some end.place))
    (dropped_name content))
    { entry = elim content [ contents.Entry e ↦ e.key | _ ↦ None ] }

abbrev pub repeated : Place → List ℕ → Message
repeated place key =
    record (skipping (Words (codes "Repeated entry")) place (codes "entry")) { entry = Some key }
