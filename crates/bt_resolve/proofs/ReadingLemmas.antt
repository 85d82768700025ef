-- One more piece, or database, is read.
use Rattle.std.proofs.Common.{◌≡◌, ◌∙◌, ap, sym, refl, append_assoc, append-nil, ℕ, ◌+◌, List, [], ◌∷◌, ◌++◌, map}
use Rattle.bt_bib.specs.BibText.{pieces_of}
use Rattle.bt_bib.specs.Items.{PlacedItem, items_of}
use Rattle.bt_bib.specs.declared.placed_pieces.PlacedPiece.{PlacedPiece}
use Rattle.bt_resolve.specs.declared.asked.Asked.{Asked}
use Rattle.bt_resolve.specs.declared.reading.Reach.{Reach}
use Rattle.bt_resolve.specs.inner.Databases.{State, after_items, after_databases}
use Rattle.bt_resolve.specs.inner.Reaches.{reach, passed, reaches, database_reaches}
use Rattle.bt_resolve.proofs.PlacingLemmas.{items_more}

-- the reading is there, with the rest of the pieces before it
pub record PiecesLeft (a : Asked) (n : ℕ) (start : State) (ps : List PlacedPiece) (all : List Reach) (s : State) (rest : List PlacedPiece) : Type 0 where
  pub read : after_items a n s (items_of rest) ≡ after_items a n start (items_of ps)
  pub passed_so : all ++ passed a n s rest ≡ passed a n start ps

pub pieces_begun : (a : Asked) (n : ℕ) (s : State) (ps : List PlacedPiece) (all : List Reach) → all ≡ [] → PiecesLeft a n s ps all s ps
pieces_begun a n s ps all none = record { read = refl; passed_so = ap (λ (rs : List Reach). rs ++ passed a n s ps) none }

pub pieces_next : (a : Asked) (n : ℕ) (start : State) (ps : List PlacedPiece) (all more : List Reach) (s t : State) (r : Reach) (p : PlacedPiece) (here rest : List PlacedPiece) → here ≡ p ∷ rest → r ≡ reach s → more ≡ all ++ r ∷ [] → t ≡ after_items a n s (items_of (p ∷ [])) →
    PiecesLeft a n start ps all s here → PiecesLeft a n start ps more t rest
pieces_next a n start ps all more s t r p here rest is_here is_r is_more is_t left = record {
  read =
      ap (λ (u : State). after_items a n u (items_of rest)) is_t
      ∙ items_more a n s p rest
      ∙ ap (λ (l : List PlacedPiece). after_items a n s (items_of l)) (sym is_here)
      ∙ left.read;
  passed_so =
      (λ j. is_more j ++ passed a n (is_t j) rest)
      ∙ append_assoc all (r ∷ []) (passed a n (after_items a n s (items_of (p ∷ []))) rest)
      ∙ ap (λ (q : Reach). all ++ (q ∷ passed a n (after_items a n s (items_of (p ∷ []))) rest)) is_r
      ∙ ap (λ (l : List PlacedPiece). all ++ passed a n s l) (sym is_here)
      ∙ left.passed_so;
}

pub pieces_done : (a : Asked) (n : ℕ) (start : State) (ps : List PlacedPiece) (all more : List Reach) (s : State) (r : Reach) (rest : List PlacedPiece) → rest ≡ [] → r ≡ reach s → more ≡ all ++ r ∷ [] → PiecesLeft a n start ps all s rest →
    (s ≡ after_items a n start (items_of ps)) × (more ≡ reaches a n start ps)
pieces_done a n start ps all more s r rest none is_r is_more left =
    let read : s ≡ after_items a n start (items_of ps) = ap (λ (l : List PlacedPiece). after_items a n s (items_of l)) (sym none) ∙ left.read in
    let passed_so : all ≡ passed a n start ps = sym (append-nil all) ∙ ap (λ (l : List PlacedPiece). all ++ passed a n s l) (sym none) ∙ left.passed_so in
    (read, is_more ∙ (λ j. passed_so j ++ (is_r ∙ ap reach read) j ∷ []))

-- the reading is there, with the rest of the databases before it
pub record DatabasesLeft (a : Asked) (start : State) (ds : List (List PlacedPiece)) (all : List (List Reach)) (n : ℕ) (s : State) (rest : List (List PlacedPiece)) : Type 0 where
  pub read : after_databases a n s (map items_of rest) ≡ after_databases a 1 start (map items_of ds)
  pub reaches_so : all ++ database_reaches a n s rest ≡ database_reaches a 1 start ds

pub databases_begun : (a : Asked) (s : State) (ds : List (List PlacedPiece)) (all : List (List Reach)) → all ≡ [] → DatabasesLeft a s ds all 1 s ds
databases_begun a s ds all none = record { read = refl; reaches_so = ap (λ (rs : List (List Reach)). rs ++ database_reaches a 1 s ds) none }

pub databases_next : (a : Asked) (start : State) (ds : List (List PlacedPiece)) (all more : List (List Reach)) (n m : ℕ) (s t : State) (rs : List Reach) (d : List PlacedPiece) (here rest : List (List PlacedPiece)) → here ≡ d ∷ rest → m ≡ n + 1 → rs ≡ reaches a n s d → more ≡ all ++ rs ∷ [] → t ≡ after_items a n s (items_of d) →
    DatabasesLeft a start ds all n s here → DatabasesLeft a start ds more m t rest
databases_next a start ds all more n m s t rs d here rest is_here is_m is_rs is_more is_t left = record {
  read =
      (λ j. after_databases a (is_m j) (is_t j) (map items_of rest))
      ∙ ap (λ (l : List (List PlacedPiece)). after_databases a n s (map items_of l)) (sym is_here)
      ∙ left.read;
  reaches_so =
      (λ j. is_more j ++ database_reaches a (is_m j) (is_t j) rest)
      ∙ append_assoc all (rs ∷ []) (database_reaches a (n + 1) (after_items a n s (items_of d)) rest)
      ∙ ap (λ (q : List Reach). all ++ (q ∷ database_reaches a (n + 1) (after_items a n s (items_of d)) rest)) is_rs
      ∙ ap (λ (l : List (List PlacedPiece)). all ++ database_reaches a n s l) (sym is_here)
      ∙ left.reaches_so;
}

pub databases_done : (a : Asked) (start : State) (ds : List (List PlacedPiece)) (all : List (List Reach)) (n : ℕ) (s : State) (rest : List (List PlacedPiece)) → rest ≡ [] → DatabasesLeft a start ds all n s rest →
    (s ≡ after_databases a 1 start (map items_of ds)) × (all ≡ database_reaches a 1 start ds)
databases_done a start ds all n s rest none left = (
  ap (λ (l : List (List PlacedPiece)). after_databases a n s (map items_of l)) (sym none) ∙ left.read,
  sym (append-nil all) ∙ ap (λ (l : List (List PlacedPiece)). all ++ database_reaches a n s l) (sym none) ∙ left.reaches_so,
)

-- ---- databases that are read from their texts

pub text_next : (a : Asked) (n : ℕ) (s t all : State) (p : PlacedPiece) (left others : List PlacedPiece) → left ≡ p ∷ others → t ≡ after_items a n s (items_of (p ∷ [])) → after_items a n s (items_of left) ≡ all → after_items a n t (items_of others) ≡ all
text_next a n s t all p left others is is_t so_far =
    ap (λ (u : State). after_items a n u (items_of others)) is_t
    ∙ items_more a n s p others
    ∙ ap (λ (ps : List PlacedPiece). after_items a n s (items_of ps)) (sym is)
    ∙ so_far

-- the items of texts
abbrev pub items_in : List (List ℕ) → List (List PlacedItem)
items_in texts = map (λ (text : List ℕ). items_of (pieces_of text)) texts

pub texts_next : (a : Asked) (n m : ℕ) (s t all : State) (text : List ℕ) (here rest : List (List ℕ)) → here ≡ text ∷ rest → m ≡ n + 1 → t ≡ after_items a n s (items_of (pieces_of text)) → after_databases a n s (items_in here) ≡ all → after_databases a m t (items_in rest) ≡ all
texts_next a n m s t all text here rest is_here is_m is_t so_far =
    (λ j. after_databases a (is_m j) (is_t j) (items_in rest))
    ∙ ap (λ (l : List (List ℕ)). after_databases a n s (items_in l)) (sym is_here)
    ∙ so_far

pub texts_done : (a : Asked) (n : ℕ) (s all : State) (rest : List (List ℕ)) → rest ≡ [] → after_databases a n s (items_in rest) ≡ all → s ≡ all
texts_done a n s all rest none so_far = ap (λ (l : List (List ℕ)). after_databases a n s (items_in l)) (sym none) ∙ so_far
