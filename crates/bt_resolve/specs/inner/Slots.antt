-- Where the reader of an entry's fields puts their values.
use Rattle.std.specs.Prelude.{ℕ, Bool, true, List, [], ◌∷◌, ◌++◌, is_some, slice_get, slice_set, Option, Some, None, option_map, if◌then◌else◌}
use Rattle.bt_text.specs.CaseFolding.{is_same_folded}
use Rattle.bt_bib.specs.declared.item.Field.{Field}
use Rattle.bt_log.specs.declared.message.Message.{Message}
use Rattle.bt_resolve.specs.declared.fields.Slot.{Slot}
use Rattle.bt_resolve.specs.declared.fields.Slot.TheVariants.{Crossref, Value}
use Rattle.bt_resolve.specs.declared.fields.Given.{Given}
use Rattle.bt_resolve.specs.declared.place.Origin.{Origin}
use Rattle.bt_resolve.specs.Names.{crossref, place_of_name}
use Rattle.bt_resolve.specs.Warnings.{line_at, extra_field}
use Rattle.bt_resolve.specs.Values.{MacroTexts, value_warnings}
use Rattle.bt_resolve.specs.Fields.{given_value}
use Rattle.bt_resolve.specs.inner.Cases.{own_values}

-- the slot of a field, if it is declared
abbrev pub slot_of : List (List ℕ) → List ℕ → Option Slot
slot_of declared name =
    if is_same_folded name crossref then Some Crossref else option_map (λ p. Value p) (place_of_name declared name)

-- what fields yield, in their slots
abbrev pub given_by : List (List ℕ) → MacroTexts → List Field → Given
given_by declared macros fields =
    record { values = own_values declared macros fields; crossref = given_value macros fields crossref }

abbrev pub is_filled_at : Option (Option (List ℕ)) → Bool
is_filled_at None = true
is_filled_at (Some value) = is_some value

-- whether a slot has a value already
abbrev pub is_filled : Slot → Given → Bool
is_filled Crossref g = is_some g.crossref
is_filled (Value p) g = is_filled_at (slice_get g.values p)

abbrev pub fill : Slot → List ℕ → Given → Given
fill Crossref text g = record g { crossref = Some text }
fill (Value p) text g = record g { values = slice_set g.values p (Some text) }

-- what one more field yields
abbrev pub with_field : Option Slot → List ℕ → Given → Given
with_field None text g = g
with_field (Some slot) text g = if is_filled slot g then g else fill slot text g

abbrev pub extra_messages : Bool → Origin → List ℕ → Field → List Message
extra_messages again origin key f = if again then extra_field (line_at origin f.line) key f.name ∷ [] else []

abbrev pub slot_messages : Option Slot → Given → MacroTexts → Origin → List ℕ → Field → List Message
slot_messages None g macros origin key f = []
slot_messages (Some slot) g macros origin key f =
    value_warnings None macros origin f.line f.name f.value
    ++ extra_messages (is_filled slot g) origin key f
