-- What macros stand for, and the items that define them.
use Rattle.std.specs.Prelude.{List, [], ◌∷◌, Option, Some, None}
use Rattle.bt_bib.specs.declared.fault.ItemFault.{ItemFault}
use Rattle.bt_bib.specs.declared.item.Content.TheVariants as contents
use Rattle.bt_bib.specs.Items.{PlacedItem}
use Rattle.bt_resolve.specs.declared.declared.Macro.{Macro}
use Rattle.bt_text.specs.ByName.{no_value, with_value}
use Rattle.bt_resolve.specs.Values.{MacroTexts, others, value}

-- the style's own macros
abbrev pub style_macro : List Macro → MacroTexts
style_macro [] = no_value
style_macro (m ∷ macros) = with_value m.name m.value (style_macro macros)

-- what counts of an item's value: nothing if the item has a fault
abbrev pub faultless : {A : Type 0} → Option ItemFault → Option A → Option A
faultless None value = value
faultless (Some fault) value = None

-- A macro before an item, the items before it given from the last one back: the value of the last faultless string of
-- its name, else the style's, else none.
unfoldable pub macro_before : List Macro → List PlacedItem → MacroTexts
macro_before macros [] = style_macro macros
macro_before macros (placed ∷ before) =
    let known = macro_before macros before in
    elim placed.item.content [
      | contents.Define d ↦ elim d.name [
        | None ↦ known
        | Some name ↦ elim (faultless placed.item.fault d.value) [
          | None ↦ known
          | Some parts ↦ with_value name (value (others (Some name) known) parts) known
        ]
      ]
      | _ ↦ known
    ]
