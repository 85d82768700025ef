-- The parts of a value, however they are kept.
use Rattle.std.specs.Prelude.{List, [], ◌∷◌}
use Rattle.bt_bib.specs.declared.item.Part.{Part}
use Rattle.bt_bib.specs.declared.value_parts.Holder.{Holder}
use Rattle.bt_bib.specs.declared.value_parts.Holder.TheVariants as holder

abbrev pub parts_of : Holder → List Part
parts_of (holder.One part) = part ∷ []
parts_of (holder.Several parts) = parts
