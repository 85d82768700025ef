-- What was done to the documents, from what was called.
use Rattle.std.proofs.Common.{◌≡◌, ◌∙◌, ap, sym, ℕ, ℤ, List, Bool, false, codes, Option, Some, option_map}
use Rattle.std.specs.Prelude.{IsTrue}
use Rattle.serde_json.specs.Data.{Data}
use Rattle.bt_positions.specs.declared.counting.Counting.{Counting}
use Rattle.bt_positions.specs.declared.indexed_text.Position.{Position}
use Rattle.bt_documents.specs.declared.changes.Change.{Change}
use Rattle.bt_documents.specs.declared.document.Document.{Document}
use Rattle.bt_documents.specs.Documents.{opened, with_document, after_changes}
use Rattle.bt_places.specs.Parameters.{text_at, version_at, position_at, document_named}
use Rattle.bt_places.specs.Words.{counting_for, bytes_of, fits_latin}
use Rattle.bt_lsp.specs.Changes.{change_between, change_of, changes_of}
use Rattle.bt_lsp.specs.Taken.{IsOpened, IsChanged}

pub was_opened : (counts_bytes : Bool) (m : Data) (docs new : List Document) (uri words name text bytes : List ℕ) (counting : Counting) (is_latin : Bool) (version seen : ℤ) →
    Some uri ≡ text_at (codes "/params/textDocument/uri") m → Some words ≡ text_at (codes "/params/textDocument/text") m → (IsTrue is_latin → IsTrue (fits_latin words)) →
    counting ≡ counting_for counts_bytes is_latin → version ≡ version_at (codes "/params/textDocument/version") m → bytes ≡ bytes_of counting words → name ≡ uri → text ≡ bytes → seen ≡ version →
    new ≡ opened (record { name = name; counting = counting; version = seen; text = text; in_step = false }) docs → IsOpened counts_bytes m docs new
was_opened counts_bytes m docs new uri words name text bytes counting is_latin version seen named says lossless c v b n t e is =
    let own = version_at (codes "/params/textDocument/version") m in
    record {
      uri = uri;
      words = words;
      is_latin = is_latin;
      lossless = lossless;
      named = sym named;
      says = sym says;
      is = is ∙ ap (λ x. opened (record { name = x; counting = counting; version = seen; text = text; in_step = false }) docs) n ∙
          ap (λ x. opened (record { name = uri; counting = counting; version = x; text = text; in_step = false }) docs) (e ∙ v) ∙
          ap (λ x. opened (record { name = uri; counting = counting; version = own; text = x; in_step = false }) docs) (t ∙ b) ∙
          ap (λ x. opened (record { name = uri; counting = x; version = own; text = bytes_of x words; in_step = false }) docs) c;
    }

pub was_changed : (m : Data) (docs slice new : List Document) (uri name other : List ℕ) (counting : Counting) (version seen : ℤ) (changes made : List Change) →
    Some uri ≡ text_at (codes "/params/textDocument/uri") m → Some counting ≡ option_map (λ d. d.counting) (document_named name slice) →
    Some changes ≡ changes_of counting m → version ≡ version_at (codes "/params/textDocument/version") m → name ≡ uri → slice ≡ docs → other ≡ uri → made ≡ changes → seen ≡ version →
    new ≡ with_document other (after_changes other seen made) docs → IsChanged m docs new
was_changed m docs slice new uri name other counting version seen changes made named units says v n s o c e is = record {
  uri = uri;
  counting = counting;
  changes = changes;
  named = sym named;
  units = sym (units ∙ ap (λ x. option_map (λ d. d.counting) (document_named x slice)) n ∙ ap (λ x. option_map (λ d. d.counting) (document_named uri x)) s);
  says = sym says;
  is = is ∙ ap (λ x. with_document x (after_changes x seen made) docs) o ∙ ap (λ x. with_document uri (after_changes uri x made) docs) (e ∙ v) ∙
      ap (λ x. with_document uri (after_changes uri (version_at (codes "/params/textDocument/version") m) x) docs) c;
}

-- a change, from its parts
pub made_change : (c : Counting) (d : Data) (words bytes : List ℕ) (from to : Option Position) (change : Change) → Some words ≡ text_at (codes "/text") d → bytes ≡ bytes_of c words →
    from ≡ position_at (codes "/range/start/line") (codes "/range/start/character") d → to ≡ position_at (codes "/range/end/line") (codes "/range/end/character") d →
    change ≡ change_between from to bytes → Some change ≡ change_of c d
made_change c d words bytes from to change says b f t is =
    let start = position_at (codes "/range/start/line") (codes "/range/start/character") d in
    let end = position_at (codes "/range/end/line") (codes "/range/end/character") d in
    ap Some (is ∙ ap (λ x. change_between x to bytes) f ∙ ap (λ x. change_between start x bytes) t ∙ ap (λ x. change_between start end x) b) ∙
    ap (λ o. option_map (λ text. change_between start end (bytes_of c text)) o) says
