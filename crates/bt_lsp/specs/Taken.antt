-- What notifications do to the documents.
use Rattle.std.specs.Prelude.{◌≡◌, ℕ, Bool, false, List, codes, Some, option_map, IsTrue}
use Rattle.serde_json.specs.Data.{Data}
use Rattle.bt_positions.specs.declared.counting.Counting.{Counting}
use Rattle.bt_documents.specs.declared.changes.Change.{Change}
use Rattle.bt_documents.specs.declared.document.Document.{Document}
use Rattle.bt_documents.specs.Documents.{opened, closed, with_document, after_changes}
use Rattle.bt_lsp.specs.declared.methods.Notice.{Notice}
use Rattle.bt_lsp.specs.declared.methods.Notice.TheVariants.{Opened, Changed, Closed, Saved, Exit, Other}
use Rattle.bt_places.specs.Parameters.{text_at, version_at, document_named}
use Rattle.bt_places.specs.Words.{counting_for, bytes_of, fits_latin}
use Rattle.bt_lsp.specs.Changes.{changes_of}

-- The document of a message is opened with its text, in the units of the editor. Only a text of which no letter is lost
-- may be taken for Latin-1.
pub record IsOpened (counts_bytes : Bool) (m : Data) (docs new : List Document) : Type 0 where
  pub uri : List ℕ
  pub words : List ℕ
  pub is_latin : Bool
  pub lossless : IsTrue is_latin → IsTrue (fits_latin words)
  pub named : text_at (codes "/params/textDocument/uri") m ≡ Some uri
  pub says : text_at (codes "/params/textDocument/text") m ≡ Some words
  pub is : new ≡ opened (record {
    name = uri;
    counting = counting_for counts_bytes is_latin;
    version = version_at (codes "/params/textDocument/version") m;
    text = bytes_of (counting_for counts_bytes is_latin) words;
    in_step = false;
  }) docs

-- the changes of a message are made to its document, in order
pub record IsChanged (m : Data) (docs new : List Document) : Type 0 where
  pub uri : List ℕ
  pub counting : Counting
  pub changes : List Change
  pub named : text_at (codes "/params/textDocument/uri") m ≡ Some uri
  pub units : option_map (λ d. d.counting) (document_named uri docs) ≡ Some counting
  pub says : changes_of counting m ≡ Some changes
  pub is : new ≡ with_document uri (after_changes uri (version_at (codes "/params/textDocument/version") m) changes) docs

-- the document of a message is closed
pub record IsClosed (m : Data) (docs new : List Document) : Type 0 where
  pub uri : List ℕ
  pub named : text_at (codes "/params/textDocument/uri") m ≡ Some uri
  pub is : new ≡ closed uri docs

-- what a notification does to the documents of an editor whose positions count bytes or not
abbrev pub Taken : Bool → Notice → Data → List Document → List Document → Type 0
Taken counts_bytes Opened m docs new = IsOpened counts_bytes m docs new
Taken counts_bytes Changed m docs new = IsChanged m docs new
Taken counts_bytes Closed m docs new = IsClosed m docs new
Taken counts_bytes Saved m docs new = new ≡ docs
Taken counts_bytes Exit m docs new = new ≡ docs
Taken counts_bytes Other m docs new = new ≡ docs
