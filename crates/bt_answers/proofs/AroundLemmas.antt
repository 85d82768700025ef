-- The item around a place is the first one that doesn't end before the place.
use Rattle.std.specs.Prelude.{nat_le, ◌&&◌}
use Rattle.std.proofs.Common.{◌≡◌, ℕ, zero, suc, ◌<◌, ◌≤◌, Bool, true, false, cond, List, [], ◌∷◌, length, drop, get_or, Some, None, refl, arith}
use Rattle.std.proofs.lemmas.Bool.{lt-leb, le-leb, leb-false}
use Rattle.bt_bib.specs.declared.placed_pieces.PlacedPiece.{PlacedPiece}
use Rattle.bt_bib.specs.Boundaries.{Rises}
use Rattle.bt_bib.specs.inner.Boundaries.{end_place}
use Rattle.bt_places.specs.Entries.{item_around}
use Rattle.bt_answers.specs.Related.{first_around}

none_around : (limit from place : ℕ) (ps : List PlacedPiece) → Rises limit from ps → place < from → item_around place ps ≡ None
none_around limit from place [] r lt = refl
none_around limit from place (p ∷ ps) r lt =
    rw (lt-leb p.start.place place (omega (arith, r.0, lt))) (none_around limit (end_place p) place ps r.2 (omega (arith, r.0, r.1, lt)))

one_around : (limit place : ℕ) (p : PlacedPiece) (ps : List PlacedPiece) (b : Bool) → nat_le p.start.place place ≡ b → p.start.place < end_place p → Rises limit (end_place p) ps →
    cond (b && true) (Some p) (item_around place ps) ≡ cond b (Some p) None
one_around limit place p ps true is lt r = refl
one_around limit place p ps false is lt r = none_around limit (end_place p) place ps r (omega (arith, lt, leb-false p.start.place place is))

and_false : (b : Bool) → (b && false) ≡ false
and_false true = refl
and_false false = refl

pub around_at : (limit from place i : ℕ) (ps : List PlacedPiece) → Rises limit from ps → i ≤ length ps →
    ((k : ℕ) (d : PlacedPiece) → k < i → end_place (get_or ps k d) < place) → ((d : PlacedPiece) → i < length ps → place ≤ end_place (get_or ps i d)) →
    item_around place ps ≡ first_around place (drop i ps)
around_at limit from place zero [] r le front back = refl
around_at limit from place (suc i) [] r le front back = absurd (omega arith)
around_at limit from place zero (p ∷ ps) r le front back =
    rw (le-leb place (end_place p) (back p (omega arith))) (one_around limit place p ps (nat_le p.start.place place) refl r.1 r.2)
around_at limit from place (suc i) (p ∷ ps) r le front back =
    rw (lt-leb place (end_place p) (front 0 p (omega arith))) (rw (and_false (nat_le p.start.place place))
    (around_at limit (end_place p) place i ps r.2 (omega arith) (λ k d lt. front (suc k) d (omega arith)) (λ d lt. back d (omega arith))))
