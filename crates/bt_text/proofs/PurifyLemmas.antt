-- What is kept of bytes outside special characters.
use Rattle.std.proofs.Common.{◌≡◌, ◌≢◌, ℕ, ◌+◌, ◌<◌, eqb, true, false, List, [], ◌∷◌, ◌++◌, length, get_or, set, take, drop, flat_map, append_assoc, append-nil, refl, sym, ap, ◌∙◌, ◌⊎◌, inl, inr}
use Rattle.std.proofs.lemmas.Bool.Decides.{eqb_tells}
use Rattle.std.proofs.lemmas.List.{take_more_set, drop_more}
use Rattle.std.proofs.lemmas.Grind.{flat_map-append}
use Rattle.bt_text.specs.Blocks.{begins_special, blocks}
use Rattle.bt_text.specs.Pieces.{block_pieces, pieces}
use Rattle.bt_text.specs.inner.Cases.{single}
use Rattle.bt_text.specs.Purification.{purified, purified_byte, purified_piece}
use Rattle.bt_text.proofs.PieceLemmas.{purified_plain, purified_plain_block}
use Rattle.bt_text.specs.inner.Runs.{alone}
use Rattle.bt_text.specs.inner.KeptBytes.{kept_code}
use Rattle.bt_text.proofs.KeptByteLemmas.{purified_by_code, shown}

-- a byte of which nothing is kept
pub dropped : (front t : List ℕ) (i b : ℕ) (all : List ℕ) → b ≡ kept_code (get_or t i 0) → b ≡ 0 → i < length t → front ++ flat_map purified_byte (drop i t) ≡ all → front ++ flat_map purified_byte (drop (i + 1) t) ≡ all
dropped front t i b all is none within so_far =
    let nothing : purified_byte (get_or t i 0) ≡ [] = purified_by_code (get_or t i 0) ∙ ap shown (sym is ∙ none) in
    let more : flat_map purified_byte (drop i t) ≡ flat_map purified_byte (drop (i + 1) t) = ap (flat_map purified_byte) (drop_more t i 0 within) ∙ ap (λ (l : List ℕ). l ++ flat_map purified_byte (drop (i + 1) t)) nothing in
    ap (λ (l : List ℕ). front ++ l) (sym more) ∙ so_far

-- a byte of which something is kept, which is written after what was kept before
pub kept : (out t : List ℕ) (place i b : ℕ) (all : List ℕ) → b ≡ kept_code (get_or t i 0) → b ≢ 0 → i < length t → place < length out → take place out ++ flat_map purified_byte (drop i t) ≡ all → take (place + 1) (set out place b) ++ flat_map purified_byte (drop (i + 1) t) ≡ all
kept out t place i b all is some within room so_far =
    let rest = flat_map purified_byte (drop (i + 1) t) in
    let one : purified_byte (get_or t i 0) ≡ b ∷ [] = purified_by_code (get_or t i 0) ∙ ap shown (sym is) ∙ shown_as (eqb_tells b 0) in
    let more : flat_map purified_byte (drop i t) ≡ b ∷ rest = ap (flat_map purified_byte) (drop_more t i 0 within) ∙ ap (λ (l : List ℕ). l ++ rest) one in
    ap (λ (l : List ℕ). l ++ rest) (take_more_set out place b room) ∙ append_assoc (take place out) (b ∷ []) rest ∙ ap (λ (l : List ℕ). take place out ++ l) (sym more) ∙ so_far
  where
    shown_as : ((eqb b 0 ≡ true) × (b ≡ 0)) ⊎ ((eqb b 0 ≡ false) × (b ≢ 0)) → shown b ≡ b ∷ []
    shown_as (inl e) = absurd (some e.1)
    shown_as (inr n) = rw n.0 refl

alone_pieces : (run : List ℕ) → flat_map purified_piece (flat_map block_pieces (alone run)) ≡ flat_map purified_byte run
alone_pieces [] = refl
alone_pieces (b ∷ run) = rw (purified_one b, alone_pieces run) refl
  where
    purified_one : (b : ℕ) → purified_piece (single b) ≡ purified_byte b
    purified_one b = sym (append-nil (purified_piece (single b))) ∙ purified_plain (b ∷ []) ∙ append-nil (purified_byte b)

-- a run of bytes outside of groups
pub run_kept : (t : List ℕ) (n : ℕ) → blocks t ≡ alone (take n t) ++ blocks (drop n t) → purified t ≡ flat_map purified_byte (take n t) ++ purified (drop n t)
run_kept t n first =
    ap (λ bs. flat_map purified_piece (flat_map block_pieces bs)) first
    ∙ ap (flat_map purified_piece) (flat_map-append block_pieces (alone (take n t)) (blocks (drop n t)))
    ∙ flat_map-append purified_piece (flat_map block_pieces (alone (take n t))) (pieces (drop n t))
    ∙ ap (λ (l : List ℕ). l ++ purified (drop n t)) (alone_pieces (take n t))

pub group_kept : (block : List ℕ) → begins_special block ≡ false → flat_map purified_piece (block_pieces block) ≡ flat_map purified_byte block
group_kept block e = purified_plain_block block e

-- a turn that puts a run after what is there
pub run_pushed : (out new t front back all : List ℕ) (n : ℕ) → blocks t ≡ alone (take n t) ++ blocks (drop n t) → front ≡ take n t → back ≡ drop n t → new ≡ out ++ flat_map purified_byte front → out ++ purified t ≡ all → new ++ purified back ≡ all
run_pushed out new t front back all n first is_front is_back grown so_far =
    rw (grown, is_front, is_back)
    (append_assoc out (flat_map purified_byte (take n t)) (purified (drop n t)) ∙ ap (λ (l : List ℕ). out ++ l) (sym (run_kept t n first)) ∙ so_far)
