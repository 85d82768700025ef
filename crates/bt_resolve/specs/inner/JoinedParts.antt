-- The bytes of joined parts, whoever owns them.
use Rattle.std.specs.Prelude.{ℕ, List}
use Rattle.bt_resolve.specs.declared.joined_parts.Holder.{Holder}
use Rattle.bt_resolve.specs.declared.joined_parts.Holder.TheVariants as holder

abbrev pub bytes_of : Holder → List ℕ
bytes_of (holder.Text t) = t
bytes_of (holder.Macro t) = t
bytes_of (holder.Own t) = t
