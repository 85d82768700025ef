-- What an earlier resolution knows of an entry, and when its macros stand for the same.
use Rattle.std.specs.Prelude.{◌≡◌, ℕ, List, [], Some, None, ⊤}
use Rattle.std.specs.List.{flat_map}
use Rattle.bt_bib.specs.declared.item.Content.{Content}
use Rattle.bt_bib.specs.declared.item.Content.TheVariants as contents
use Rattle.bt_bib.specs.declared.item.Entry.{Entry}
use Rattle.bt_bib.specs.declared.item.Field.{Field}
use Rattle.bt_bib.specs.declared.item.Part.{Part}
use Rattle.bt_bib.specs.declared.item.Part.TheVariants.{Text, Macro}
use Rattle.bt_bib.specs.declared.item.Piece.{Piece}
use Rattle.bt_bib.specs.declared.item.Piece.TheVariants as pieces
use Rattle.bt_text.specs.ByName.{known}
use Rattle.bt_resolve.specs.declared.asked.Asked.{Asked}
use Rattle.bt_resolve.specs.declared.known_entry.KnownEntry.{KnownEntry}
use Rattle.bt_resolve.specs.declared.place.Origin.{Origin}
use Rattle.bt_resolve.specs.declared.stored.Stored.{Stored}
use Rattle.bt_resolve.specs.Fields.{fields_messages, given_value}
use Rattle.bt_resolve.specs.Messages.{stored_messages}
use Rattle.bt_resolve.specs.Stored.{stored_of}
use Rattle.bt_resolve.specs.Values.{MacroTexts, joined_parts, part_warnings}

-- ---- macros that stand for the same

abbrev pub IsSamePart : MacroTexts → MacroTexts → Part → Type 0
IsSamePart m n (Text text) = ⊤
IsSamePart m n (Macro name line) = m name ≡ n name

pub record IsSameValue (m n : MacroTexts) (parts : List Part) : Type 0 where
  pub text : joined_parts m parts ≡ joined_parts n parts
  pub told : (o : Origin) → flat_map (part_warnings None m o) parts ≡ flat_map (part_warnings None n o) parts

pub record AreSameFields (m n : MacroTexts) (fields : List Field) : Type 0 where
  pub given : (name : List ℕ) → given_value m fields name ≡ given_value n fields name
  pub told : (declared : List (List ℕ)) (o : Origin) (key : List ℕ) (before : List Field) →
      fields_messages declared m o key before fields ≡ fields_messages declared n o key before fields

-- ---- entries

-- with its present values
abbrev pub entry_of : KnownEntry → Stored
entry_of k = record k.stored.now { values = k.values.now }

-- This is stored of an entry of this key, without a message, on every line of the database of this number.
pub record Gives (a : Asked) (macros : MacroTexts) (database at : ℕ) (e : Entry) (key : List ℕ) (s : Stored) : Type 0 where
  pub stored : s ≡ stored_of a macros e key
  pub told : (line : ℕ) → stored_messages a macros (record { database = database; line = line }) at e key ≡ []

abbrev pub IsKnownEntry : Asked → MacroTexts → ℕ → Stored → ℕ → Entry → Type 0
IsKnownEntry a macros database s at e = (key : List ℕ) → e.key ≡ Some key → Gives a macros database at e key s

abbrev pub IsKnownContent : Asked → MacroTexts → ℕ → Stored → ℕ → Content → Type 0
IsKnownContent a macros database s at (contents.Entry e) = IsKnownEntry a macros database s at e
IsKnownContent a macros database s at (contents.Define d) = ⊤
IsKnownContent a macros database s at (contents.Preamble parts) = ⊤

abbrev pub IsKnownPiece : Asked → MacroTexts → ℕ → Stored → Piece → Type 0
IsKnownPiece a macros database s pieces.Comment = ⊤
IsKnownPiece a macros database s (pieces.Item item) = IsKnownContent a macros database s item.line item.content

-- what is known of an entry, of the content of an item, and of a piece
abbrev pub KnowsEntry : Asked → ℕ → ℕ → Entry → KnownEntry → Type 0
KnowsEntry a database at e k = IsKnownEntry a (known k.macros.now) database (entry_of k) at e

abbrev pub KnowsContent : Asked → ℕ → ℕ → Content → KnownEntry → Type 0
KnowsContent a database at content k = IsKnownContent a (known k.macros.now) database (entry_of k) at content

abbrev pub KnowsPiece : Asked → ℕ → Piece → KnownEntry → Type 0
KnowsPiece a database piece k = IsKnownPiece a (known k.macros.now) database (entry_of k) piece
