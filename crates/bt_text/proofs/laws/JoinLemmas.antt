-- The pieces of a text make it up.
use Rattle.std.proofs.Common.{◌≡◌, ℕ, Bool, true, false, cond, eqb, List, [], ◌∷◌, ◌++◌, map, flat_map, append-nil, append_assoc, refl, sym, ap, ◌∙◌}
use Rattle.std.specs.List.{onto_first}
use Rattle.bt_text.specs.ByteTests.{is_brace}
use Rattle.bt_text.specs.Blocks.{begins_special, blocks}
use Rattle.bt_text.specs.Depth.{depth_after}
use Rattle.bt_text.specs.Pieces.{Piece, brace, bytes_of, other, pieces, block_pieces, special}
use Rattle.bt_text.specs.inner.Cases.{single}
use Rattle.bt_text.proofs.BlockLemmas.{blocks_from, blocks_from_start}

bytes_of_single : (b : ℕ) → bytes_of (single b) ≡ b ∷ []
bytes_of_single b = by_test (is_brace b)
  where
    by_test : (a : Bool) → bytes_of (cond a (brace b) (other b)) ≡ b ∷ []
    by_test true = refl
    by_test false = refl

bytes_of_plain : (t : List ℕ) → flat_map bytes_of (map single t) ≡ t
bytes_of_plain [] = refl
bytes_of_plain (b ∷ t) = ap (λ l. l ++ flat_map bytes_of (map single t)) (bytes_of_single b) ∙ ap (λ l. b ∷ l) (bytes_of_plain t)

bytes_of_block : (block : List ℕ) → flat_map bytes_of (block_pieces block) ≡ block
bytes_of_block block = by_test (begins_special block)
  where
    by_test : (a : Bool) → flat_map bytes_of (cond a (special block ∷ []) (map single block)) ≡ block
    by_test true = append-nil block
    by_test false = bytes_of_plain block

bytes_of-append : (ps qs : List Piece) → flat_map bytes_of (ps ++ qs) ≡ flat_map bytes_of ps ++ flat_map bytes_of qs
bytes_of-append [] qs = refl
bytes_of-append (p ∷ ps) qs = ap (λ l. bytes_of p ++ l) (bytes_of-append ps qs) ∙ sym (append_assoc (bytes_of p) (flat_map bytes_of ps) (flat_map bytes_of qs))

joined : List (List ℕ) → List ℕ
joined [] = []
joined (block ∷ bs) = block ++ joined bs

bytes_of_blocks : (bs : List (List ℕ)) → flat_map bytes_of (flat_map block_pieces bs) ≡ joined bs
unfolding joined
bytes_of_blocks [] = refl
bytes_of_blocks (block ∷ bs) =
    bytes_of-append (block_pieces block) (flat_map block_pieces bs) ∙ ap (λ l. l ++ flat_map bytes_of (flat_map block_pieces bs)) (bytes_of_block block) ∙ ap (λ l. block ++ l) (bytes_of_blocks bs)

joined-onto_first : (b : ℕ) (bs : List (List ℕ)) → joined (onto_first b bs) ≡ b ∷ joined bs
unfolding joined
joined-onto_first b [] = refl
joined-onto_first b (block ∷ bs) = refl

joined_blocks : (d : ℕ) (t : List ℕ) → joined (blocks_from d t) ≡ t
unfolding joined
joined_blocks d [] = refl
joined_blocks d (b ∷ t) = by_test (eqb (depth_after d b) 0) (joined_blocks (depth_after d b) t)
  where
    by_test : (a : Bool) → joined (blocks_from (depth_after d b) t) ≡ t → joined (cond a ((b ∷ []) ∷ blocks_from (depth_after d b) t) (onto_first b (blocks_from (depth_after d b) t))) ≡ b ∷ t
    by_test true h = ap (λ l. b ∷ l) h
    by_test false h = joined-onto_first b (blocks_from (depth_after d b) t) ∙ ap (λ l. b ∷ l) h

pub joined_pieces : (t : List ℕ) → flat_map bytes_of (pieces t) ≡ t
joined_pieces t = bytes_of_blocks (blocks t) ∙ ap joined (blocks_from_start t) ∙ joined_blocks 0 t
