-- Spells a cross-reference like the entry that it names.
use Rattle.std.specs.Prelude.{ℕ, if◌then◌else◌, List, [], ◌∷◌, ◌++◌, codes, bytes_eq, Option, Some, None}
use Rattle.std.specs.List.{fold}
use Rattle.serde_json.specs.Data.{Data}
use Rattle.bt_text.specs.CaseFolding.{is_same_folded}
use Rattle.bt_bib.specs.declared.placed_pieces.PlacedPiece.{PlacedPiece}
use Rattle.bt_documents.specs.declared.document.Document.{Document}
use Rattle.bt_mentions.specs.declared.mention.Mention.{Mention}
use Rattle.bt_mentions.specs.Databases.{part, with_piece}
use Rattle.bt_mentions.specs.Inside.{is_parent}
use Rattle.bt_places.specs.Entries.{key_of}
use Rattle.bt_writing.specs.QuickFix.{action, edit_at}

-- how the first entry of a key spells it; keys are compared without case
abbrev pub spelled_in : List ℕ → List PlacedPiece → Option (List ℕ)
spelled_in key [] = None
spelled_in key (p ∷ ps) = if is_same_folded (key_of p.piece) key then Some (key_of p.piece) else spelled_in key ps

-- this spelling of a key, if it is another one
abbrev pub if_other : List ℕ → Option (List ℕ) → Option (List ℕ)
if_other key None = None
if_other key (Some own) = if bytes_eq own key then None else Some own

-- how the first entry of a key spells it, if it does so otherwise
abbrev pub respelled : List ℕ → List PlacedPiece → Option (List ℕ)
respelled key pieces = if_other key (spelled_in key pieces)

-- the action that gives a key this spelling
abbrev pub respelling_at : Document → Mention → List ℕ → Data
respelling_at d m own = action (codes "Spell the key like its entry") (edit_at d m.from m.to own)

-- a list with this action, if there is a spelling
abbrev pub with_own : Document → Mention → List Data → Option (List ℕ) → List Data
with_own d m list None = list
with_own d m list (Some own) = list ++ respelling_at d m own ∷ []

-- a list with the action that spells a cross-reference like its entry, if that is spelled otherwise
abbrev pub with_respelling : Document → List PlacedPiece → List Data → Mention → List Data
with_respelling d pieces list m =
    if is_parent m.role then with_own d m list (respelled (part m.from m.to d.text) pieces) else list

-- a list with these actions for an item of a document that has these pieces
abbrev pub with_respellings : Document → List PlacedPiece → List Data → PlacedPiece → List Data
with_respellings d pieces list p = fold (with_respelling d pieces) list (with_piece d.text [] p)

-- the same, if there is an item
abbrev pub with_respellings_around : Document → List PlacedPiece → List Data → Option PlacedPiece → List Data
with_respellings_around d pieces list None = list
with_respellings_around d pieces list (Some p) = with_respellings d pieces list p
