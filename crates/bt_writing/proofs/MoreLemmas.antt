-- One element more of a list that a loop builds.
use Rattle.std.proofs.Common.{◌≡◌, ◌∙◌, ap, sym, refl, ℕ, ◌+◌, ◌<◌, List, [], ◌∷◌, ◌++◌, codes, length, drop, get_or, append_assoc, arith}
use Rattle.serde_json.specs.Data.{Data}
use Rattle.bt_bib.specs.declared.placed_pieces.PlacedPiece.{PlacedPiece}
use Rattle.bt_shapes.proofs.MoreLemmas.{next_drop}
use Rattle.bt_writing.specs.Citing.{candidate, candidate_if_any, candidate_of, candidates_of}
use Rattle.bt_places.specs.Entries.{key_of, kind_of, field_of}
use Rattle.bt_bib.specs.declared.item.Piece.{Piece}
use Rattle.bt_writing.specs.declared.written.Written.{Written}

-- what completions offer for an entry that has a key
candidate_any : (w : Written) (key kind author title : List ℕ) → 0 < length key → candidate w key kind author title ∷ [] ≡ candidate_if_any w key kind author title
candidate_any w [] kind author title some = absurd (omega (arith, some))
candidate_any w (b ∷ key) kind author title some = refl

pub candidate_found : (w : Written) (p : Piece) (key kind author title : List ℕ) (v : Data) (old new : List Data) → 0 < length key → key ≡ key_of p → kind ≡ kind_of p →
    author ≡ field_of (codes "author") p → title ≡ field_of (codes "title") p → v ≡ candidate w key kind author title → new ≡ old ++ v ∷ [] → new ≡ old ++ candidate_of w p
candidate_found w p key kind author title v old new some k i a t is added =
    added ∙ ap (λ (x : Data). old ++ x ∷ []) is ∙
    ap (λ (xs : List Data). old ++ xs)
    (candidate_any w key kind author title some ∙ ap (λ (x : List ℕ). candidate_if_any w x kind author title) k ∙
    ap (λ (x : List ℕ). candidate_if_any w (key_of p) x author title) i ∙ ap (λ (x : List ℕ). candidate_if_any w (key_of p) (kind_of p) x title) a ∙
    ap (λ (x : List ℕ). candidate_if_any w (key_of p) (kind_of p) (field_of (codes "author") p) x) t)

-- of what completions offer
pub candidates_more : (w : Written) (ps : List PlacedPiece) (i : ℕ) (p : PlacedPiece) (old new whole : List Data) → i < length ps → p ≡ get_or ps i p →
    new ≡ old ++ candidate_of w p.piece → old ++ candidates_of w (drop i ps) ≡ whole → new ++ candidates_of w (drop (i + 1) ps) ≡ whole
candidates_more w ps i p old new whole l is more before =
    ap (λ n. n ++ candidates_of w (drop (i + 1) ps)) more ∙
    append_assoc old (candidate_of w p.piece) (candidates_of w (drop (i + 1) ps)) ∙
    ap (λ t. old ++ candidates_of w t) (sym (next_drop ps i p l is)) ∙ before
