-- How a splice changed a database, as it is kept until READ needs it.
use Rattle.std.specs.Prelude.{◌≡◌, ℕ, List, Option, Some, map, slice_get, slice_set}
use Rattle.std.specs.Option.{ForSome}
use Rattle.std.proofs.Props.{props}
use Rattle.bt_bib.specs.BibText.{pieces_of}
use Rattle.bt_bib.specs.declared.placed_pieces.PlacedPiece.{PlacedPiece}
use Rattle.bt_resolve.specs.declared.kept.ResolvedEdit.{ResolvedEdit}
use Rattle.bt_resolve.specs.declared.question.Question.{Question}
use Rattle.bt_resolve.specs.declared.seen_edit.SeenEdit.{SeenEdit}
use Rattle.bt_resolve.specs.declared.seen_edit.SeenEdit.TheVariants.{Same, Others}
use Rattle.bt_resolve.specs.declared.earlier.KeptPieces.{KeptPieces}
use Rattle.bt_resolve.specs.inner.Earlier.{AreKeptPieces}
use Rattle.bt_resolve.specs.inner.Kept.{IsResolvedEdit, IsWithin}
use Rattle.bt_run.specs.declared.alike.Alike.{Alike}
use Rattle.bt_run.specs.declared.database_edit.DatabaseEdit.{DatabaseEdit}
use Rattle.bt_run.specs.inner.Alike.{alike_after}
use Rattle.bt_run.specs.inner.Asked.{with_databases}

-- A database of one of these texts, with its number and its items.
pub record IsAmong (texts : List (List ℕ)) (text : List ℕ) (number : ℕ) (items : List PlacedPiece) : Type 0 where
  pub here : slice_get texts number ≡ Some text
  pub read : items ≡ pieces_of text

-- so that a ghost field may say what an edit changes
pub within_prop : (e : SeenEdit) (n : ℕ) → IsProp (IsWithin e n)
within_prop Same n = hlevel props
within_prop (Others o) n = hlevel props

-- An edit of a database of what is resolved.
abbrev pub IsEditIn : Question → DatabaseEdit → Type 0
IsEditIn q e = ForSome e.made (IsResolvedEdit q e.number e.items)

-- It keeps these pieces of its database.
abbrev pub KeepsPieces : Question → DatabaseEdit → Type 0
KeepsPieces q e = (old : List PlacedPiece) → slice_get q.databases e.number ≡ Some old → AreKeptPieces old e.items e.kept

pub kept_prop : (old new : List PlacedPiece) (kept : KeptPieces) → IsProp (AreKeptPieces old new kept)
kept_prop old new kept = hlevel props

-- This says which entries stay after the edit that is kept.
pub record IsAlikeAfter (kept : Option DatabaseEdit) (alike : Alike) : Type 0 where
  pub edit : DatabaseEdit
  pub made : ResolvedEdit
  pub is_edit : kept ≡ Some edit
  pub is_made : edit.made ≡ Some made
  pub is : alike ≡ alike_after made.seen

-- The edit makes these texts of others.
abbrev pub Makes : List (List ℕ) → List (List ℕ) → DatabaseEdit → Type 0
Makes texts others e = others ≡ slice_set texts e.number e.text

-- The question about the texts that it makes.
abbrev pub edited_question : Question → List (List ℕ) → DatabaseEdit → Question
edited_question q texts e = with_databases (map pieces_of (slice_set texts e.number e.text)) q
