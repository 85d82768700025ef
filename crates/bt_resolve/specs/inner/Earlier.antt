-- What an earlier resolution knows of databases that are read again.
use Rattle.std.specs.Prelude.{◌≡◌, ℕ, ◌+◌, ◌<◌, ◌≤◌, ◌==◌, List, map, drop, slice_get, IfSome, Option, Some, option_map, if◌then◌else◌}
use Rattle.bt_bib.specs.Items.{items_of}
use Rattle.bt_bib.specs.declared.item.Piece.{Piece}
use Rattle.bt_bib.specs.declared.placed_pieces.PlacedPiece.{PlacedPiece}
use Rattle.bt_text.specs.ByName.{known}
use Rattle.bt_resolve.specs.declared.asked.Asked.{Asked}
use Rattle.bt_resolve.specs.declared.earlier.Earlier.{Earlier}
use Rattle.bt_resolve.specs.declared.earlier.EditedDatabase.{EditedDatabase}
use Rattle.bt_resolve.specs.declared.earlier.KeptPieces.{KeptPieces}
use Rattle.bt_resolve.specs.declared.earlier.KnownPieces.{KnownPieces}
use Rattle.bt_resolve.specs.declared.known_entry.KnownEntry.{KnownEntry}
use Rattle.bt_resolve.specs.declared.question.Question.{Question}
use Rattle.bt_resolve.specs.declared.reading.Reach.{Reach}
use Rattle.bt_resolve.specs.declared.stored.Stored.{Stored}
use Rattle.bt_resolve.specs.Resolved.{all_items}
use Rattle.bt_resolve.specs.inner.Databases.{DefineNothing}
use Rattle.bt_resolve.specs.inner.Kept.{IsFound}
use Rattle.bt_resolve.specs.inner.KnownEntries.{IsKnownPiece, KnowsPiece}

-- ---- pieces that an edit keeps

abbrev pub piece_at : List PlacedPiece → ℕ → Option Piece
piece_at ps k = option_map (λ (p : PlacedPiece). p.piece) (slice_get ps k)

pub record AreKeptPieces (old new : List PlacedPiece) (kept : KeptPieces) : Type 0 where
  pub front : (k : ℕ) → k < kept.before → piece_at new k ≡ piece_at old k
  pub back : (k : ℕ) → piece_at new (kept.before + kept.added + k) ≡ piece_at old (kept.upto + k)

abbrev pub all_pieces : KeptPieces
all_pieces = record { before = 0; added = 0; upto = 0 }

-- the pieces that are kept of the database of a number
abbrev pub kept_in : EditedDatabase → ℕ → KeptPieces
kept_in e number = if e.number == number then e.kept else all_pieces

-- databases after an edit of at most one of them
abbrev pub AreEdited : Question → EditedDatabase → List (List PlacedPiece) → Type 0
AreEdited q edited databases = (number : ℕ) (new : List PlacedPiece) → slice_get databases number ≡ Some new →
    (old : List PlacedPiece) → slice_get q.databases number ≡ Some old → AreKeptPieces old new (kept_in edited number)

-- ---- what is known

-- what the reading of these pieces stored from an index on, for the pieces that gave no message
abbrev pub KnowsEntries : Asked → ℕ → List PlacedPiece → KnownPieces → Type 0
KnowsEntries a database old k =
    (j : ℕ) (p : PlacedPiece) → slice_get old j ≡ Some p → k.strings_end ≤ j →
    (first past : Reach) → slice_get k.reaches.now j ≡ Some first → slice_get k.reaches.now (j + 1) ≡ Some past → first.stored < past.stored → first.told ≡ past.told →
    (s : Stored) (values : List (Option (List ℕ))) → slice_get k.found.now.store first.stored ≡ Some s → slice_get k.found.now.values first.stored ≡ Some values →
    IsKnownPiece a (known k.found.now.macros) database (record s { values = values }) p.piece

pub record IsKnowing (a : Asked) (database : ℕ) (new : List PlacedPiece) (k : KnownPieces) : Type 0 where
  pub old : List PlacedPiece
  pub pieces : AreKeptPieces old new k.kept
  pub entries : KnowsEntries a database old k

-- an earlier resolution for databases, with the same declarations
pub record IsEarlier (a : Asked) (databases : List (List PlacedPiece)) (e : Earlier) : Type 0 where
  pub found : IsFound e.question.now e.found.now
  pub fields : a.fields ≡ e.question.now.declared.fields
  pub types : a.types ≡ e.question.now.declared.types
  pub edited : AreEdited e.question.now e.edited databases
  pub strings : (k : ℕ) → e.string_databases ≤ k → DefineNothing (all_items (map items_of (drop k e.question.now.databases)))

-- what is known of the entry of the piece at an index, and of the pieces of the database of a number
abbrev pub KnowsAt : Option KnownPieces → ℕ → KnownEntry → Type 0
KnowsAt k index known = (a : Asked) (database : ℕ) (new : List PlacedPiece) (p : PlacedPiece) →
    IfSome k (IsKnowing a database new) → slice_get new index ≡ Some p → KnowsPiece a database p.piece known

abbrev pub KnowsDatabase : Option Earlier → ℕ → KnownPieces → Type 0
KnowsDatabase e number known = (a : Asked) (databases : List (List PlacedPiece)) (new : List PlacedPiece) →
    IfSome e (IsEarlier a databases) → slice_get databases number ≡ Some new → IsKnowing a (number + 1) new known
