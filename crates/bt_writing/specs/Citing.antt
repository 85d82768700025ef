-- Completes the keys of citations.
use Rattle.std.specs.Prelude.{ℕ, not, Bool, if◌then◌else◌, List, [], ◌∷◌, ◌++◌, take, codes}
use Rattle.serde_json.specs.Data.{Data, null, number, unsigned, array, object, member, no_members}
use Rattle.serde_json.specs.View.{items_of}
use Rattle.bt_bib.specs.BibText.{pieces_of}
use Rattle.bt_bib.specs.declared.item.Piece.{Piece}
use Rattle.bt_bib.specs.declared.placed_pieces.PlacedPiece.{PlacedPiece}
use Rattle.bt_positions.specs.Positions.{offset_of}
use Rattle.bt_positions.specs.declared.indexed_text.Position.{Position}
use Rattle.bt_documents.specs.declared.document.Document.{Document}
use Rattle.bt_mentions.specs.Citing.{is_citing}
use Rattle.bt_places.specs.Commented.{without_open_comments}
use Rattle.bt_places.specs.Entries.{key_of, kind_of, field_of, is_database, is_tex}
use Rattle.bt_places.specs.Hover.{keys_at_end}
use Rattle.bt_places.specs.Shapes.{text}
use Rattle.bt_writing.specs.declared.written.Written.{Written}
use Rattle.bt_writing.specs.Written.{written_at, edit_of}

-- a text, and another after a sign, unless this is empty
abbrev pub after_sign : List ℕ → List ℕ → List ℕ → List ℕ
after_sign sign [] before = before
after_sign sign (b ∷ t) before = before ++ sign ++ b ∷ t

-- what a completion offers: a key with the type, author and title of its entry, and the
-- edit that writes it. Editors filter by key, author and title.
abbrev pub candidate : Written → List ℕ → List ℕ → List ℕ → List ℕ → Data
candidate w key kind author title =
    object (member (codes "detail") (text (after_sign (codes ". ") title (after_sign (codes ": ") author kind)))
    (member (codes "filterText") (text (after_sign (codes " ") title (after_sign (codes " ") author key)))
    (member (codes "kind") (number (unsigned 18)) (member (codes "label") (text key)
    (member (codes "textEdit") (edit_of w key) no_members)))))

-- what is offered for a key with these, unless it is empty
abbrev pub candidate_if_any : Written → List ℕ → List ℕ → List ℕ → List ℕ → List Data
candidate_if_any w [] kind author title = []
candidate_if_any w (b ∷ key) kind author title = candidate w (b ∷ key) kind author title ∷ []

-- what is offered for a piece
abbrev pub candidate_of : Written → Piece → List Data
candidate_of w piece =
    candidate_if_any w (key_of piece) (kind_of piece) (field_of (codes "author") piece) (field_of (codes "title") piece)

-- what is offered for the entries among pieces
abbrev pub candidates_of : Written → List PlacedPiece → List Data
candidates_of w [] = []
candidates_of w (p ∷ ps) = candidate_of w p.piece ++ candidates_of w ps

-- what is offered for the entries of a file, if it is a database
abbrev pub candidates_from : Written → List ℕ → List ℕ → List Data
candidates_from w uri words = if is_database uri then candidates_of w (pieces_of words) else []

-- what is offered for the entries of files, each with its URI and its text
abbrev pub candidates_in : Written → List (List ℕ × List ℕ) → List Data
candidates_in w [] = []
candidates_in w (f ∷ fs) = candidates_from w f.0 f.1 ++ candidates_in w fs

-- whether keys are cited after the first bytes of a file; what a comment of LaTeX leaves open cites nothing
abbrev pub cites : List ℕ → List ℕ → Bool
cites name front = if not (is_tex name) then is_citing front else is_citing (without_open_comments front)

-- what is offered at a position of a document: all keys where keys are cited, elsewhere nothing
abbrev pub citation_at : List (List ℕ × List ℕ) → Document → Position → Data
citation_at files d at =
    let place = offset_of d.counting at d.text in
    let front = take place d.text in
    if cites d.name front then array (items_of (candidates_in (written_at d place (keys_at_end 0 front)) files)) else null
