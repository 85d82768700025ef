-- The laws of the crate, which no code needs. `specs/laws` has what they say.
use Rattle.std.specs.Prelude.{nat_lt, not, ◌||◌, Result}
use Rattle.std.specs.List.{AllByRecursion, fold}
use Rattle.std.proofs.Common.{◌≡◌, ◌⊎◌, ℕ, Bool, true, false, cond, List, [], ◌∷◌, length, Option, Some, None, Ok, Err, refl, inl, inr}
use Rattle.std.proofs.lemmas.Bool.{false≢true, and_parts}
use Rattle.serde_json.specs.Data.{Data, null, array}
use Rattle.serde_json.specs.View.{items_of}
use Rattle.bt_bib.specs.BibText.{pieces_of}
use Rattle.bt_rpc.specs.declared.answers.RpcError.{RpcError}
use Rattle.bt_rpc.specs.declared.answers.RpcError.TheVariants.{BadName, TakenName, UndefinedMacro, InexactRename}
use Rattle.bt_positions.specs.declared.counting.Counting.{Counting}
use Rattle.bt_documents.specs.declared.document.Document.{Document}
use Rattle.bt_places.specs.Editor.{counting_in}
use Rattle.bt_places.specs.Entries.{is_database}
use Rattle.bt_edited.specs.declared.edits.Edit.{Edit}
use Rattle.bt_edited.specs.declared.changes.Change.TheVariants.{Nothing}
use Rattle.bt_edited.specs.Edits.{text_after_edits}
use Rattle.bt_edited.specs.Becomes.{is_made}
use Rattle.bt_edited.proofs.laws.Laws.{made_pieces_are_changed}
use Rattle.bt_answers.specs.EditValues.{edit_values}
use Rattle.bt_answers.specs.Formatting.{layout_edits, if_kept}
use Rattle.bt_answers.specs.declared.references.Wanted.{Wanted}
use Rattle.bt_answers.specs.Renaming.{renamed_text, change_of, is_renamed, also_renamed, are_renamed, rename_edit, can_be_named, is_free, is_defined}
use Rattle.bt_answers.specs.laws.Laws.{KeepsItems, FormattingKeepsItems, ChangesNames, RenamesChangeNames}

kept_by : (d : Document) (es : List Edit) (o : Option (List ℕ)) → text_after_edits d.counting es d.text ≡ o → (is : Bool) → is_made Nothing (pieces_of d.text) o ≡ is →
    (cond is (array (items_of (edit_values es))) null ≡ null) ⊎ KeepsItems d (cond is (array (items_of (edit_values es))) null)
kept_by d es o e false h = inl refl
kept_by d es None e true h = absurd (false≢true h)
kept_by d es (Some after) e true h = inr (record { edits = es; after = after; sent = refl; makes = e; keeps = made_pieces_are_changed.kept d.text after h })

kept : (d : Document) (es : List Edit) → (if_kept d (pieces_of d.text) es ≡ null) ⊎ KeepsItems d (if_kept d (pieces_of d.text) es)
kept d es = kept_by d es (text_after_edits d.counting es d.text) refl (is_made Nothing (pieces_of d.text) (text_after_edits d.counting es d.text)) refl

unless : (d : Document) (b : Bool) (v : Data) → (v ≡ null) ⊎ KeepsItems d v → (cond b null v ≡ null) ⊎ KeepsItems d (cond b null v)
unless d true v k = inl refl
unless d false v k = k

pub formatting_keeps_items : FormattingKeepsItems
formatting_keeps_items = record {
  formatting = λ d m.
      unless d (not (is_database d.name) || nat_lt 1073741824 (length d.text)) (if_kept d (pieces_of d.text) (layout_edits d m)) (kept d (layout_edits d m));
}

-- ---- renames

changed_by : (units : List ℕ → Counting) (wanted : Wanted) (old new uri words : List ℕ) (o : Option (List ℕ)) → renamed_text units wanted old new uri words ≡ o →
    is_made (change_of wanted old new) (pieces_of words) o ≡ true → ChangesNames units wanted old new uri words
changed_by units wanted old new uri words None e h = absurd (false≢true h)
changed_by units wanted old new uri words (Some after) e h =
    record { after = after; makes = e; renames = (made_pieces_are_changed.made (change_of wanted old new) words after).0 h }

if_database : (b m : Bool) → (not b || m) ≡ true → b ≡ true → m ≡ true
if_database true m h e = h
if_database false m h e = absurd (false≢true e)

changed : (units : List ℕ → Counting) (wanted : Wanted) (old new uri words : List ℕ) → is_renamed units wanted old new uri words ≡ true → is_database uri ≡ true →
    ChangesNames units wanted old new uri words
changed units wanted old new uri words h database =
    let text = renamed_text units wanted old new uri words in
    changed_by units wanted old new uri words text refl (if_database (is_database uri) (is_made (change_of wanted old new) (pieces_of words) text) h database)

abbrev ChangesAll : (units : List ℕ → Counting) (wanted : Wanted) (old new : List ℕ) → List (List ℕ × List ℕ) → Type 0
ChangesAll units wanted old new files = AllByRecursion (λ f. is_database f.0 ≡ true → ChangesNames units wanted old new f.0 f.1) files

all_changed : (units : List ℕ → Counting) (wanted : Wanted) (old new : List ℕ) (files : List (List ℕ × List ℕ)) (before : Bool) →
    fold (also_renamed units wanted old new) before files ≡ true → (before ≡ true) × ChangesAll units wanted old new files
all_changed units wanted old new [] before h = (h, tt)
all_changed units wanted old new (f ∷ files) before h =
    let rest = all_changed units wanted old new files (also_renamed units wanted old new before f) h in
    let parts = and_parts before (is_renamed units wanted old new f.0 f.1) rest.0 in
    (parts.0, (changed units wanted old new f.0 f.1 parts.1, rest.1))

unless_error : (b : Bool) (e : RpcError) (o : Result Data RpcError) (v : Data) → cond (not b) (Err e) o ≡ Ok v → (b ≡ true) × (o ≡ Ok v)
unless_error true e o v h = (refl, h)
unless_error false e o v h = absurd (cc)

abbrev fine : Data → Result Data RpcError
fine v = Ok v

ok_is : (u v : Data) → fine u ≡ fine v → v ≡ u
ok_is u v h = cc

pub renames_change_names : RenamesChangeNames
renames_change_names = record {
  renaming = λ files docs c wanted old new v h.
      let all = Ok (rename_edit files docs c wanted old new) in
      let exact = cond (not (are_renamed files docs c wanted old new)) (Err InexactRename) all in
      let defined = cond (not (is_defined files docs c wanted old)) (Err UndefinedMacro) exact in
      let free = cond (not (is_free files docs c wanted old new)) (Err TakenName) defined in
      let h1 = unless_error (can_be_named wanted new) BadName free v h in
      let h2 = unless_error (is_free files docs c wanted old new) TakenName defined v h1.1 in
      let h3 = unless_error (is_defined files docs c wanted old) UndefinedMacro exact v h2.1 in
      let h4 = unless_error (are_renamed files docs c wanted old new) InexactRename all v h3.1 in
      (ok_is (rename_edit files docs c wanted old new) v h4.1, (all_changed (counting_in c docs) wanted old new files true h4.0).1);
}
