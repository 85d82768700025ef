-- Whole databases are read as they are spelled.
use Rattle.std.proofs.Common.{◌≡◌, ℕ, List, [], ◌∷◌, ◌++◌, Some, refl, sym, ap, subst, ◌∙◌, arith}
use Rattle.std.proofs.lemmas.List.{append-nil}
use Rattle.bt_bib.specs.declared.fault.NameRole.TheVariants.{EntryType}
use Rattle.bt_bib.specs.declared.item.Item.{Item}
use Rattle.bt_bib.specs.declared.item.Piece.{Piece}
use Rattle.bt_bib.specs.declared.item.Piece.TheVariants as pieces
use Rattle.bt_bib.specs.declared.placed_pieces.PlacedPiece.{PlacedPiece}
use Rattle.bt_bib.specs.declared.keywords.Keyword.TheVariants as keywords
use Rattle.bt_bib.specs.Spot.{Here, at, here, start, item_start, spot_from, spot_after}
use Rattle.bt_bib.specs.Scan.{first, after_run}
use Rattle.bt_bib.specs.Names.{word}
use Rattle.bt_bib.specs.Pieces.{piece, next_piece}
use Rattle.bt_bib.specs.BibText.{pieces_of}
use Rattle.bt_bib.specs.inner.Cases.{pieces_from, next_at, type_read, is_text, next_piece_from}
use Rattle.bt_bib.specs.laws.Spelling.{Spelling, ◌▸◌, ◌⋯◌, Bytes, Written, Sign, Provided, MayEndName}
use Rattle.bt_bib.specs.laws.Spelled.{IsWord, WordOf, ItemOf, AnEntry, AString, APreamble, Skipped, CommentWord, PieceOf, PlacedOf, MayFollow, DatabaseOf}
use Rattle.bt_bib.specs.laws.SpelledLaws.{SpelledDatabasesAreRead}
use Rattle.bt_bib.proofs.laws.CutLemmas.{Begins, begins_as}
use Rattle.bt_bib.proofs.RunLemmas.{same_spot}
use Rattle.bt_bib.proofs.PieceLemmas.{item_here}
use Rattle.bt_bib.proofs.BoundaryLemmas.{pieces_by, pieces_step}
use Rattle.bt_bib.proofs.laws.SpellingLemmas.{Stands, stands_at, standing, split, Starts, starts_both, starts_bytes, begins_here, Stops, stops_from, past_to}
use Rattle.bt_bib.proofs.laws.SpelledItemLemmas.{type_signs, typed_by, word_starts, at_sign_to, spelled_items_are_read}

-- Items and comments begin with `@`.
abbrev IsAtSign : ℕ → Type 0
IsAtSign b = b ≡ 64

at_sign_starts : (A : Spelling) → Starts IsAtSign (Sign 64 ▸ A)
at_sign_starts A = starts_both IsAtSign (Sign 64) A (starts_bytes IsAtSign 64 [] (Unit {0}) (λ u. refl))

item_starts : (i : Item) (text : List ℕ) → ItemOf i text → Begins IsAtSign text
item_starts i text (AnEntry x) = at_sign_starts _ item_start text x
item_starts i text (AString x) = at_sign_starts _ item_start text x
item_starts i text (APreamble x) = at_sign_starts _ item_start text x

piece_starts : (p : Piece) (text : List ℕ) → PieceOf p text → Begins IsAtSign text
piece_starts pieces.Comment text x = at_sign_starts _ item_start text x
piece_starts (pieces.Item i) text x = item_starts i text x

skipped_to : (h k : Here) → Stands Skipped h k → Stops is_text k.rest → after_run is_text h ≡ k
skipped_to h k x stop = standing Skipped (λ h k. Stops is_text k.rest → after_run is_text h ≡ k) (λ s text rest all stop. past_to is_text s text rest all stop) h k x stop

next_to : (h k : Here) → Stands Skipped h k → Begins IsAtSign k.rest → pieces_from h ≡ pieces_by (next_at k.spot (piece k.rest))
unfolding next_piece
next_to h k x b =
    let sign : first k.rest ≡ Some 64 = ap first b.is ∙ ap (λ c. Some c) b.fits in
    pieces_step h ∙ ap (λ (q : Here). pieces_by (next_piece_from q (first q.rest))) (skipped_to h k x (stops_from is_text k.rest (begins_as (λ c is. ap is_text is) b))) ∙ ap (λ o. pieces_by (next_piece_from k o)) sign

none_to : (h k : Here) → Stands Skipped h k → k.rest ≡ [] → pieces_from h ≡ []
unfolding next_piece
none_to h k x end =
    pieces_step h ∙ ap (λ (q : Here). pieces_by (next_piece_from q (first q.rest))) (skipped_to h k x (subst (Stops is_text) (sym end) tt)) ∙ ap (λ r. pieces_by (next_piece_from k (first r))) end

comment_to : (text rest : List ℕ) → CommentWord text → MayEndName type_signs rest → piece (text ++ rest) ≡ (pieces.Comment, at (spot_after text item_start) rest)
unfolding piece
comment_to text rest x ends =
    let k = at (spot_after text item_start) rest in
    let W = WordOf keywords.Comment in
    let one = at_sign_to W (item_here (text ++ rest)) k (λ s t is. word_starts keywords.Comment t s t (Written is)) (stands_at (Sign 64 ⋯ W) item_start text rest x) in
    let kind = one.2.text in
    let spelled : Stands (Bytes kind (IsWord keywords.Comment kind)) one.0 k = record { text = kind; spelled = Written one.2.spelled; rest = one.2.rest; spot = one.2.spot } in
    ap (λ q. type_read (word EntryType q)) one.1 ∙ typed_by keywords.Comment kind one.0 k spelled ends

piece_to : (p : Piece) (text rest : List ℕ) → PieceOf p text → MayFollow p rest → piece (text ++ rest) ≡ (p, at (spot_after text item_start) rest)
piece_to pieces.Comment text rest x ends = comment_to text rest x ends
piece_to (pieces.Item i) text rest x ends = spelled_items_are_read i text rest x

-- a piece at its place
placed_to : (p : PlacedPiece) (h k : Here) (x : Stands (PlacedOf p) h k) → MayFollow p.piece k.rest → next_at h.spot (piece h.rest) ≡ (Some p, k)
placed_to p h k x follows =
    let s = h.spot in
    let end : spot_from s (spot_after x.text item_start) ≡ k.spot = same_spot _ _ _ _ (omega arith) (omega arith) ∙ sym x.spot in
    ap (λ r. next_at s (piece r)) x.rest
    ∙ ap (next_at s) (piece_to p.piece x.text k.rest x.spelled.2 follows)
    ∙ ap (λ e. (Some (let q : PlacedPiece = record { start = s; end = e; piece = p.piece } in q), at e k.rest)) end
    ∙ ap (λ t. (Some (let q : PlacedPiece = record { start = t; end = k.spot; piece = p.piece } in q), k)) (sym x.spelled.0)
    ∙ ap (λ e. (Some (let q : PlacedPiece = record { start = p.start; end = e; piece = p.piece } in q), k)) (x.spot ∙ sym x.spelled.1)

database_to : (ps : List PlacedPiece) (h k : Here) → k.rest ≡ [] → Stands (DatabaseOf ps) h k → pieces_from h ≡ ps
database_to [] h k end x = none_to h k x end
database_to (p ∷ ps) h k end x =
    let A = Provided (MayFollow p.piece) (DatabaseOf ps) in
    let one = split Skipped (PlacedOf p ▸ A) h k x in
    let two = split (PlacedOf p) A one.mid k one.back in
    let back = two.back in
    let rest : two.mid.rest ≡ back.text = back.rest ∙ ap (λ r. back.text ++ r) end ∙ append-nil back.text in
    let read = placed_to p one.mid two.mid two.front (subst (MayFollow p.piece) (sym rest) back.spelled.0) in
    let starts = begins_here IsAtSign (PlacedOf p) (λ s t y. piece_starts p.piece t y.2) one.mid two.mid two.front in
    next_to h one.mid one.front starts ∙ ap pieces_by read ∙ ap (λ (ps : List PlacedPiece). p ∷ ps) (database_to ps two.mid k end (record { text = back.text; spelled = back.spelled.1; rest = back.rest; spot = back.spot }))

pub spelled_databases_are_read : SpelledDatabasesAreRead
unfolding pieces_of
spelled_databases_are_read ps text x = database_to ps (here text start) (at (spot_after text start) []) refl (record { text = text; spelled = x; rest = sym (append-nil text); spot = refl })
