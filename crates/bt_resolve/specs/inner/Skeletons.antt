-- A piece in the place of another.
use Rattle.std.specs.Prelude.{⊤, ℕ, List, Option, option_copied, option_map}
use Rattle.std.proofs.Common.{Bor}
use Rattle.bt_bib.specs.declared.item.Field.{Field}
use Rattle.bt_bib.specs.declared.item.Piece.{Piece}
use Rattle.bt_bib.specs.declared.item.Piece.TheVariants as pieces
use Rattle.bt_resolve.specs.Skeletons.{IsItemLike}
use Rattle.bt_resolve.specs.Values.{MacroTexts, field_value}

-- a comment word for a comment word, and an item for one that is like it
abbrev pub IsPieceLike : Piece → Piece → Type 0
IsPieceLike pieces.Comment pieces.Comment = ⊤
IsPieceLike pieces.Comment (pieces.Item y) = ⊥
IsPieceLike (pieces.Item x) pieces.Comment = ⊥
IsPieceLike (pieces.Item x) (pieces.Item y) = IsItemLike x y

-- the text of a field, if it is there
abbrev pub text_in : MacroTexts → Option (Bor Field) → Option (List ℕ)
text_in m o = option_map (λ (f : Field). field_value m f.value) (option_copied o)
