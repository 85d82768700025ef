-- What the laws of the crate say. `proofs/laws/Laws.antt` proves them.
use Rattle.std.specs.Prelude.{◌≡◌, ℕ, true, List, map, option_map, Some, Decides}
use Rattle.bt_bib.specs.BibText.{pieces_of}
use Rattle.bt_bib.specs.declared.item.Part.{Part}
use Rattle.bt_bib.specs.declared.item.Part.TheVariants.{Text, Macro}
use Rattle.bt_bib.specs.declared.item.Field.{Field}
use Rattle.bt_bib.specs.declared.item.Content.{Content}
use Rattle.bt_bib.specs.declared.item.Content.TheVariants.{Entry, Define, Preamble}
use Rattle.bt_bib.specs.declared.item.Item.{Item}
use Rattle.bt_bib.specs.declared.item.Piece.{Piece}
use Rattle.bt_bib.specs.declared.item.Piece.TheVariants as pieces
use Rattle.bt_bib.specs.declared.placed_pieces.PlacedPiece.{PlacedPiece}
use Rattle.bt_edited.specs.declared.changes.Change.{Change}
use Rattle.bt_edited.specs.declared.changes.Change.TheVariants.{Nothing}
use Rattle.bt_edited.specs.Changes.{piece_after}
use Rattle.bt_edited.specs.Becomes.{is_made}

-- What remains of parts, fields, items and pieces without places and lines
abbrev pub bare_part : Part → Part
bare_part (Text text) = Text text
bare_part (Macro name line) = Macro name 0

abbrev pub bare_value : List Part → List Part
bare_value ps = map bare_part ps

abbrev pub bare_field : Field → Field
bare_field f = record { name = f.name; line = 0; value = bare_value f.value }

abbrev pub bare_content : Content → Content
bare_content (Entry e) = Entry (record { kind = e.kind; key = e.key; fields = map bare_field e.fields })
bare_content (Define d) = Define (record { name = d.name; value = option_map bare_value d.value })
bare_content (Preamble value) = Preamble (option_map bare_value value)

abbrev pub bare_item : Item → Item
bare_item i = record { line = 0; content = bare_content i.content; close = i.close; fault = i.fault }

abbrev pub bare : Piece → Piece
bare pieces.Comment = pieces.Comment
bare (pieces.Item i) = pieces.Item (bare_item i)

-- the pieces of a database without places and lines
abbrev pub bare_pieces : List ℕ → List Piece
bare_pieces text = map (λ (p : PlacedPiece). bare p.piece) (pieces_of text)

-- the pieces of a database after a change, without places and lines
abbrev pub pieces_after : Change → List ℕ → List Piece
pieces_after c text = map (λ (p : PlacedPiece). bare (piece_after c p.piece)) (pieces_of text)

-- The comparison finds exactly if a change makes the pieces of one text those of another. If nothing is to change, the
-- pieces are the same.
pub record MadePiecesAreChanged : Type 0 where
  pub made : (c : Change) (before after : List ℕ) →
      Decides (is_made c (pieces_of before) (Some after)) (bare_pieces after ≡ pieces_after c before)
  pub kept : (before after : List ℕ) → is_made Nothing (pieces_of before) (Some after) ≡ true →
      bare_pieces after ≡ bare_pieces before
