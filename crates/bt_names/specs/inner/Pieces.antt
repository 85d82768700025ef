-- What a piece of a pattern gives.
use Rattle.std.specs.Prelude.{ℕ, List, map}
use Rattle.bt_names.specs.declared.tokens.Parts.{Parts}
use Rattle.bt_names.specs.Groups.{group_finished, part_named, put_in}
use Rattle.bt_names.specs.Joints.{Between}
use Rattle.bt_names.specs.declared.pieces.Part.{Part}
use Rattle.bt_names.specs.declared.pieces.Piece.{Piece}
use Rattle.bt_names.specs.declared.pieces.Piece.TheVariants.{Bare, Lettered, Plain}
use Rattle.bt_names.specs.declared.kept_pieces.KeptPart.{KeptPart}
use Rattle.bt_names.specs.declared.kept_pieces.KeptPiece.{KeptPiece}
use Rattle.bt_names.specs.declared.kept_pieces.KeptPiece.TheVariants.{Bare as KeptBare, Lettered as KeptLettered, Plain as KeptPlain}
use Rattle.bt_names.specs.inner.Spelling.{between_of, spell}

abbrev pub between_in : Part → Between
between_in p = between_of p.has_own p.own.now p.is_whole

abbrev pub part_output : Parts → Part → List ℕ
part_output parts p = put_in (between_in p) p.before.now (map (spell p.is_whole) (part_named parts p.letter)) p.behind.now

abbrev pub piece_output : Parts → Piece → List ℕ
piece_output parts (Plain bytes) = bytes.now
piece_output parts (Bare bytes) = group_finished bytes.now
piece_output parts (Lettered p) = part_output parts p

-- the same of a group and a piece with texts of their own
abbrev pub kept_part_output : Parts → KeptPart → List ℕ
kept_part_output parts p = put_in (between_of p.has_own p.own p.is_whole) p.before (map (spell p.is_whole) (part_named parts p.letter)) p.behind

abbrev pub kept_output : Parts → KeptPiece → List ℕ
kept_output parts (KeptPlain bytes) = bytes
kept_output parts (KeptBare bytes) = group_finished bytes
kept_output parts (KeptLettered p) = kept_part_output parts p
