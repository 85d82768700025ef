-- If two texts have the same bytes up to a place, a boundary of one below that place is a boundary of both.
use Rattle.std.proofs.Common.{◌≡◌, ℕ, zero, suc, ◌-◌, ◌<◌, cond, List, [], ◌∷◌, ◌++◌, length, take, drop, Option, Some, None, Ok, refl, sym, ap, subst, ◌∙◌, arith, inl, inr}
use Rattle.std.proofs.lemmas.Bool.{cases_lt, lt-ltb, le-ltb}
use Rattle.bt_bib.specs.declared.spot.Spot.{Spot}
use Rattle.bt_bib.specs.declared.placed_pieces.PlacedPiece.{PlacedPiece}
use Rattle.bt_bib.specs.Spot.{Here, here}
use Rattle.bt_bib.specs.Pieces.{next_piece}
use Rattle.bt_bib.specs.inner.Cases.{next_one, pieces_from}
use Rattle.bt_bib.specs.Boundaries.{last_end}
use Rattle.bt_bib.specs.inner.Boundaries.{below}
use Rattle.bt_bib.proofs.ReachLemmas.{Reaches, reaches_then, reaches_self}
use Rattle.bt_bib.proofs.ManyLemmas.{IsLess}
use Rattle.bt_bib.proofs.PieceLemmas.{next_piece_less, next_piece_reaches}
use Rattle.bt_bib.proofs.AlikeLemmas.{Alike}
use Rattle.bt_bib.proofs.SameLemmas.{Same}
use Rattle.bt_bib.proofs.SamePieceLemmas.{next_piece_same}
use Rattle.bt_bib.proofs.BoundaryLemmas.{EndsAt, next_ends, pieces_by, pieces_step, here_reached}

-- the pieces that end below the limit are the same in both texts, and the rest is read from the other text
pub record Keeps (limit : ℕ) (h k : Here) (ps : List PlacedPiece) : Type 0 where
  pub on : Here
  pub way : Reaches k on
  pub read : pieces_from k ≡ below limit ps ++ pieces_from on
  pub spot : on.spot ≡ last_end h.spot (below limit ps)

keeps_none : (limit : ℕ) (h k : Here) (ps : List PlacedPiece) → k.spot ≡ h.spot → below limit ps ≡ [] → Keeps limit h k ps
keeps_none limit h k ps s none = record {
  on = k;
  way = reaches_self k;
  read = ap (λ qs. qs ++ pieces_from k) (sym none);
  spot = s ∙ ap (last_end h.spot) (sym none);
}

keeps_one : (limit : ℕ) (h k e g : Here) (p : PlacedPiece) → p.end ≡ e.spot → e.spot.place < limit → Reaches k g → next_piece k ≡ (Some p, g) → Keeps limit e g (pieces_from e) → Keeps limit h k (p ∷ pieces_from e)
keeps_one limit h k e g p ends lt r is inner =
    let within : below limit (p ∷ pieces_from e) ≡ p ∷ below limit (pieces_from e) = ap (λ b. cond b (p ∷ below limit (pieces_from e)) []) (lt-ltb p.end.place limit (omega (arith, ap (λ (s : Spot). s.place) ends))) in
    record {
      on = inner.on;
      way = reaches_then k g inner.on r inner.way;
      read = pieces_step k ∙ ap pieces_by is ∙ ap (λ qs. p ∷ qs) inner.read ∙ ap (λ qs. qs ++ pieces_from inner.on) (sym within);
      spot = inner.spot ∙ ap (λ s. last_end s (below limit (pieces_from e))) (sym ends) ∙ ap (last_end h.spot) (sym within);
    }

keeps_by : (limit : ℕ) (h k : Here) (x : Option PlacedPiece × Here) → Alike limit h k → EndsAt x → IsLess h (Ok x) → Same limit (Ok x) (next_one k) → ((e g : Here) → length e.rest < length h.rest → Alike limit e g → Keeps limit e g (pieces_from e)) → Keeps limit h k (pieces_by x)
keeps_by limit h k (None, e) a ends less same step = keeps_none limit h k [] a.spot refl
keeps_by limit h k (Some p, e) a ends less same step =
    elim (cases_lt e.spot.place limit) [
      | inl lt ↦
          let t = same.alike lt in
          let is : next_piece k ≡ (Some p, t.0) = cc t.1 in
          keeps_one limit h k e t.0 p ends lt (subst (λ (z : Option PlacedPiece × Here). Reaches k z.1) is (next_piece_reaches k)) is (step e t.0 less t.2)
      | inr le ↦ keeps_none limit h k (p ∷ pieces_from e) a.spot (ap (λ b. cond b (p ∷ below limit (pieces_from e)) []) (le-ltb p.end.place limit (omega (arith, ap (λ (s : Spot). s.place) ends))))
    ]

keeps_below : (limit n : ℕ) (h k : Here) → length h.rest < n → Alike limit h k → Keeps limit h k (pieces_from h)
keeps_below limit zero h k lt a = absurd (omega arith)
keeps_below limit (suc n) h k lt a =
    subst (λ ps. Keeps limit h k ps) (sym (pieces_step h)) (keeps_by limit h k (next_piece h) a (next_ends h) (next_piece_less h) (next_piece_same limit h k a) (λ e g below b. keeps_below limit n e g (omega arith) b))

pub keeps : (limit : ℕ) (h k : Here) → Alike limit h k → Keeps limit h k (pieces_from h)
keeps limit h k a = keeps_below limit (suc (length h.rest)) h k (omega arith) a

-- two texts with the same bytes below a place have the same boundaries below it: the new text's pieces are the old ones
-- that end below that place, and those that are read from the last of these boundaries on
pub kept_law : (old new : List ℕ) (s : Spot) (limit : ℕ) → take (limit - s.place) (drop s.place old) ≡ take (limit - s.place) (drop s.place new)
    → pieces_from (here new s) ≡ below limit (pieces_from (here old s)) ++ pieces_from (here new (last_end s (below limit (pieces_from (here old s)))))
kept_law old new s limit rest =
    let kept = below limit (pieces_from (here old s)) in
    let k = keeps limit (here old s) (here new s) (record { spot = refl; rest = rest }) in
    k.read ∙ ap (λ u. kept ++ pieces_from u) (here_reached new s k.on k.way ∙ ap (here new) k.spot)
