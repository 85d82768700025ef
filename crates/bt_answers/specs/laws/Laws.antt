-- What the laws of the crate say. `proofs/laws/Laws.antt` proves them.
use Rattle.std.specs.Prelude.{◌≡◌, ◌⊎◌, ℕ, true, List, Some, Ok}
use Rattle.std.specs.List.{AllByRecursion}
use Rattle.serde_json.specs.Data.{Data, null, array}
use Rattle.serde_json.specs.View.{items_of}
use Rattle.bt_positions.specs.declared.counting.Counting.{Counting}
use Rattle.bt_documents.specs.declared.document.Document.{Document}
use Rattle.bt_edited.specs.declared.edits.Edit.{Edit}
use Rattle.bt_edited.specs.Edits.{text_after_edits}
use Rattle.bt_edited.specs.laws.Laws.{bare_pieces, pieces_after}
use Rattle.bt_answers.specs.EditValues.{edit_values}
use Rattle.bt_answers.specs.Formatting.{format_edits}
use Rattle.bt_places.specs.Editor.{counting_in}
use Rattle.bt_places.specs.Entries.{is_database}
use Rattle.bt_answers.specs.declared.references.Wanted.{Wanted}
use Rattle.bt_answers.specs.Renaming.{name_edits, change_of, rename_edit, renamed_if_free}

-- A value is the edits of a document, after which each item is as it was, apart from places and lines.
pub record KeepsItems (d : Document) (v : Data) : Type 0 where
  pub edits : List Edit
  pub after : List ℕ
  pub sent : v ≡ array (items_of (edit_values edits))
  pub makes : text_after_edits d.counting edits d.text ≡ Some after
  pub keeps : bare_pieces after ≡ bare_pieces d.text

-- Formatting sends no edits, or some that keep the items.
pub record FormattingKeepsItems : Type 0 where
  pub formatting : (d : Document) (m : Data) → (format_edits d m ≡ null) ⊎ KeepsItems d (format_edits d m)

-- After the edits of a database, its items are those before with the name changed, apart from places and lines.
pub record ChangesNames (units : List ℕ → Counting) (wanted : Wanted) (old new uri words : List ℕ) : Type 0 where
  pub after : List ℕ
  pub makes : text_after_edits (units uri) (name_edits units wanted old new uri words) words ≡ Some after
  pub renames : bare_pieces after ≡ pieces_after (change_of wanted old new) words

-- A rename that isn't refused changes the name in the items of all databases, and nothing else in them.
pub record RenamesChangeNames : Type 0 where
  pub renaming : (files : List (List ℕ × List ℕ)) (docs : List Document) (c : Counting) (wanted : Wanted) (old new : List ℕ) (v : Data) →
      renamed_if_free files docs c wanted old new ≡ Ok v →
      (v ≡ rename_edit files docs c wanted old new) × AllByRecursion (λ f. is_database f.0 ≡ true → ChangesNames (counting_in c docs) wanted old new f.0 f.1) files
