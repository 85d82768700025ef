-- What the fields of an entry yield, and the warnings about them.
use Rattle.std.specs.Prelude.{ℕ, ◌||◌, List, [], ◌∷◌, ◌++◌, find, Option, None, option_map, if◌then◌else◌}
use Rattle.std.specs.List.{list_any}
use Rattle.bt_text.specs.CaseFolding.{is_same_folded}
use Rattle.bt_bib.specs.declared.item.Field.{Field}
use Rattle.bt_log.specs.declared.message.Message.{Message}
use Rattle.bt_resolve.specs.declared.place.Origin.{Origin}
use Rattle.bt_text.specs.NameList.{has_name}
use Rattle.bt_resolve.specs.Names.{crossref}
use Rattle.bt_resolve.specs.Warnings.{line_at, extra_field}
use Rattle.bt_resolve.specs.Values.{MacroTexts, field_value, value_warnings}

-- what fields yield for a name: the value of the first field of that name
unfoldable pub given_value : MacroTexts → List Field → List ℕ → Option (List ℕ)
given_value macros fields name =
    option_map (λ (f : Field). field_value macros f.value) (find (λ (f : Field). is_same_folded f.name name) fields)

-- the warnings of a declared field: those of its value, and the one that an earlier field has its name
abbrev pub field_messages : MacroTexts → Origin → List ℕ → List Field → Field → List Message
field_messages macros origin key before f =
    value_warnings None macros origin f.line f.name f.value
    ++ (if list_any (λ (g : Field). is_same_folded g.name f.name) before
    then extra_field (line_at origin f.line) key f.name ∷ []
    else [])

-- the warnings of fields after others; `crossref` is always declared
abbrev pub fields_messages : List (List ℕ) → MacroTexts → Origin → List ℕ → List Field → List Field → List Message
fields_messages declared macros origin key before [] = []
fields_messages declared macros origin key before (f ∷ fs) =
    (if is_same_folded f.name crossref || has_name declared f.name
    then field_messages macros origin key before f
    else [])
    ++ fields_messages declared macros origin key (before ++ f ∷ []) fs
