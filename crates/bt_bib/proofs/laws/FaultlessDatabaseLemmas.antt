-- A text that is read without a fault spells what is read.
use Rattle.std.specs.Prelude.{◌==◌, not, All}
use Rattle.std.proofs.Common.{◌≡◌, ℕ, zero, suc, ◌+◌, ◌<◌, ◌≤◌, Bool, true, false, List, [], ◌∷◌, ◌++◌, length, take, ◌-◌, Some, None, refl, sym, ap, subst, ◌∙◌, arith}
use Rattle.std.proofs.lemmas.List.{append-nil}
use Rattle.std.proofs.lemmas.List.Elements.{All-head, All-tail}
use Rattle.std.proofs.lemmas.Bool.{eqb-true, false≢true}
use Rattle.bt_bib.specs.declared.spot.Spot.{Spot}
use Rattle.bt_bib.specs.declared.item.Item.{Item}
use Rattle.bt_bib.specs.declared.item.Piece.{Piece}
use Rattle.bt_bib.specs.declared.item.Piece.TheVariants as pieces
use Rattle.bt_bib.specs.declared.placed_pieces.PlacedPiece.{PlacedPiece}
use Rattle.bt_bib.specs.Spot.{Here, at, here, start, spot_from, spot_after}
use Rattle.bt_bib.specs.Items.{PlacedItem}
use Rattle.bt_bib.specs.Scan.{first, after_run}
use Rattle.bt_bib.specs.Pieces.{piece, placed, next_piece}
use Rattle.bt_bib.specs.Boundaries.{last_end}
use Rattle.bt_bib.specs.BibText.{pieces_of}
use Rattle.bt_bib.specs.inner.Cases.{pieces_from, is_text, next_piece_from}
use Rattle.bt_bib.specs.laws.Spelling.{◌▸◌, Provided}
use Rattle.bt_bib.specs.laws.Laws.{as_piece}
use Rattle.bt_bib.specs.laws.Spelled.{CommentWord, ItemOf, Skipped, PieceOf, PlacedOf, MayFollow, DatabaseOf}
use Rattle.bt_bib.specs.laws.SpelledLaws.{bytes_between, IsFaultless, FaultlessItemsAreSpelled, FaultlessDatabasesAreSpelled}
use Rattle.bt_bib.proofs.RunLemmas.{same_spot}
use Rattle.bt_bib.proofs.ReachLemmas.{reaches_rest, past_reaches}
use Rattle.bt_bib.proofs.PieceLemmas.{item_here, piece_less}
use Rattle.bt_bib.proofs.BoundaryLemmas.{pieces_by, pieces_step, here_reached, rest_law}
use Rattle.bt_bib.proofs.laws.SpellingLemmas.{Stands, Stops}
use Rattle.bt_bib.proofs.laws.FaultlessTextLemmas.{between_is, stands_both, stands_run, run_all}
use Rattle.bt_bib.proofs.laws.FaultlessItemLemmas.{Own, PieceStands, past_stops, read_piece}

-- An item of a text is at the place where it begins.
pub item_stands : (t : List ℕ) (x : Piece × Here) (i : Item) → x.0 ≡ pieces.Item i → i.fault ≡ None → PieceStands t x → Stands (Own (ItemOf i)) (item_here t) x.1
item_stands t (pieces.Comment, k) i is faultless stands = absurd (cc is)
item_stands t (pieces.Item j, k) i is faultless stands =
    let same : j ≡ i = cc is in
    subst (λ i. Stands (Own (ItemOf i)) (item_here t) k) same (stands (ap (λ (i : Item). i.fault) same ∙ faultless))

pub at_sign : (b : ℕ) → is_text b ≡ false → b ≡ 64
at_sign b is = eqb-true b 64 (is_true (b == 64) is)
  where
    is_true : (v : Bool) → not v ≡ false → v ≡ true
    is_true true h = refl
    is_true false h = absurd (false≢true (sym h))

item_at : (text : List ℕ) (u : Spot) (r : List ℕ) (i : PlacedItem) (back : List PlacedPiece) → at u r ≡ here text u → Stops is_text r → pieces_by (next_piece_from (at u r) (first r)) ≡ as_piece i ∷ back → i.item.fault ≡ None → ItemOf i.item (bytes_between i.start i.end text)
item_at text u [] i back there stop is faultless = absurd (cc is)
item_at text u (b ∷ bs) i back there stop is faultless =
    let r : List ℕ = b ∷ bs in
    let p = piece r in
    let one : (placed u p).0 ≡ as_piece i = cc is in
    let x = item_stands r p i.item (ap (λ (q : PlacedPiece). q.piece) one) faultless (read_piece r (ap (λ b. Some b) (at_sign b stop))) in
    let count : p.1.spot.place + u.place - u.place ≡ p.1.spot.place - 0 = omega arith in
    let bytes : bytes_between u (spot_from u p.1.spot) text ≡ x.text = ap (λ (k : Here). take (p.1.spot.place + u.place - u.place) k.rest) (sym there) ∙ ap (λ n. take n r) count ∙ between_is (item_here r) p.1 x.text x.rest x.spot in
    let begins : u ≡ i.start = ap (λ (q : PlacedPiece). q.start) one in
    let ends : spot_from u p.1.spot ≡ i.end = ap (λ (q : PlacedPiece). q.end) one in
    subst (λ e. ItemOf i.item (bytes_between i.start e text)) ends (subst (λ s. ItemOf i.item (bytes_between s (spot_from u p.1.spot) text)) begins (subst (ItemOf i.item) (sym bytes) x.spelled))

pub faultless_items_are_spelled : FaultlessItemsAreSpelled
unfolding pieces_of next_piece
faultless_items_are_spelled text front back i is faultless =
    let s = last_end start front in
    let g = here text s in
    let a = after_run is_text g in
    item_at text a.spot a.rest i back (here_reached text s a (past_reaches is_text g)) (past_stops is_text g) (sym (pieces_step g) ∙ sym (rest_law text start front (as_piece i ∷ back) is)) faultless

-- From here to the text's end there are these pieces.
record Spells (ps : List PlacedPiece) (h : Here) : Type 0 where
  end : Here
  last : end.rest ≡ []
  stands : Stands (DatabaseOf ps) h end

abbrev AreFaultless : List PlacedPiece → Type 0
AreFaultless ps = All (λ (p : PlacedPiece). IsFaultless p.piece) ps

stands_skipped : (h : Here) → Stands Skipped h (after_run is_text h)
stands_skipped h = stands_run is_text Skipped h (run_all is_text h.rest)

-- a piece at its place
stands_placed : (s : Spot) (t : List ℕ) (x : Piece × Here) (P : List ℕ → Type 0) → ((text : List ℕ) → P text → PieceOf x.0 text) → Stands (Own P) (item_here t) x.1 → Stands (PlacedOf (placed s x).0) (at s t) (placed s x).1
stands_placed s t x P k y =
    let end : spot_from s x.1.spot ≡ spot_after y.text s = ap (spot_from s) y.spot ∙ same_spot _ _ _ _ (omega arith) (omega arith) in
    record { text = y.text; spelled = (refl, end, k y.text y.spelled); rest = y.rest; spot = end }

placed_stands : (s : Spot) (t : List ℕ) (x : Piece × Here) → PieceStands t x → IsFaultless x.0 → Stands (PlacedOf (placed s x).0) (at s t) (placed s x).1
placed_stands s t (pieces.Comment, k) stands faultless = stands_placed s t (pieces.Comment, k) CommentWord (λ text y. y) stands.1
placed_stands s t (pieces.Item i, k) stands faultless = stands_placed s t (pieces.Item i, k) (ItemOf i) (λ text y. y) (stands faultless)

follows : (t : List ℕ) (x : Piece × Here) → PieceStands t x → MayFollow x.0 x.1.rest
follows t (pieces.Comment, k) stands = stands.0
follows t (pieces.Item i, k) stands = tt

-- what follows a piece
behind_text : (s : Spot) (t : List ℕ) (x : Piece × Here) (ps : List PlacedPiece) → PieceStands t x → IsFaultless x.0 → Spells ps (placed s x).1 → (h : Here) → Stands Skipped h (at s t) → Spells ((placed s x).0 ∷ ps) h
behind_text s t x ps stands faultless rest h skipped =
    let p = placed s x in
    let A = Provided (MayFollow p.0.piece) (DatabaseOf ps) in
    let y = rest.stands in
    let text : x.1.rest ≡ y.text = y.rest ∙ ap (λ r. y.text ++ r) rest.last ∙ append-nil y.text in
    let back : Stands A p.1 rest.end = record { text = y.text; spelled = (subst (MayFollow x.0) text (follows t x stands), y.spelled); rest = y.rest; spot = y.spot } in
    record { end = rest.end; last = rest.last; stands = stands_both Skipped (PlacedOf p.0 ▸ A) h (at s t) rest.end skipped (stands_both (PlacedOf p.0) A (at s t) p.1 rest.end (placed_stands s t x stands faultless) back) }

spells_by : (h : Here) (s : Spot) (r : List ℕ) → (let a = at s r in Stands Skipped h a → Stops is_text r → length r ≤ length h.rest → AreFaultless (pieces_by (next_piece_from a (first r))) → ((k : Here) → length k.rest < length h.rest → AreFaultless (pieces_from k) → Spells (pieces_from k) k) → Spells (pieces_by (next_piece_from a (first r))) h)
spells_by h s [] skipped stop le all later = record { end = at s []; last = refl; stands = skipped }
spells_by h s (b ∷ bs) skipped stop le all later =
    let r : List ℕ = b ∷ bs in
    let p = placed s (piece r) in
    let less = piece_less b bs in
    behind_text s r (piece r) (pieces_from p.1) (read_piece r (ap (λ b. Some b) (at_sign b stop))) (All-head (λ (p : PlacedPiece). IsFaultless p.piece) p.0 (pieces_from p.1) all) (later p.1 (omega arith) (All-tail (λ (p : PlacedPiece). IsFaultless p.piece) p.0 (pieces_from p.1) all)) h skipped

spells : (n : ℕ) (h : Here) → length h.rest < n → AreFaultless (pieces_from h) → Spells (pieces_from h) h
unfolding next_piece
spells zero h lt all = absurd (omega arith)
spells (suc n) h lt all =
    let a = after_run is_text h in
    let step : pieces_from h ≡ pieces_by (next_piece_from a (first a.rest)) = pieces_step h in
    subst (λ ps. Spells ps h) (sym step) (spells_by h a.spot a.rest (stands_skipped h) (past_stops is_text h) (reaches_rest h a (past_reaches is_text h)) (subst AreFaultless step all) (λ k less all. spells n k (omega arith) all))

whole_text : (ps : List PlacedPiece) (text : List ℕ) → Spells ps (at start text) → DatabaseOf ps start text
whole_text ps text x =
    let d = x.stands in
    let all : text ≡ d.text = d.rest ∙ ap (λ r. d.text ++ r) x.last ∙ append-nil d.text in
    subst (DatabaseOf ps start) (sym all) d.spelled

pub faultless_databases_are_spelled : FaultlessDatabasesAreSpelled
unfolding pieces_of
faultless_databases_are_spelled text all = whole_text (pieces_of text) text (spells (suc (length text)) (here text start) (omega arith) all)
