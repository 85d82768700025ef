-- The next part and the next field each leave fewer bytes.
use Rattle.std.specs.Prelude.{◌==◌}
use Rattle.std.proofs.Common.{◌≡◌, ℕ, false, List, [], ◌∷◌, Option, Some, None, Ok, refl, ap, arith}
use Rattle.bt_bib.specs.declared.spot.Spot.{Spot}
use Rattle.bt_bib.specs.declared.item.Closing.{Closing}
use Rattle.bt_bib.specs.Spot.{Here, at, spot_after_byte}
use Rattle.bt_bib.specs.Stop.{◌>>=◌}
use Rattle.bt_bib.specs.Scan.{first, after_white, closing_sign}
use Rattle.bt_bib.specs.declared.item.Part.{Part}
use Rattle.bt_bib.specs.Values.{part, next_part}
use Rattle.bt_bib.specs.Many.{all, collected}
use Rattle.bt_bib.specs.Fields.{next_field}
use Rattle.bt_bib.specs.inner.Cases.{field_or_close, is_hash, is_joined, next_field_from, joined_from}
use Rattle.bt_bib.proofs.ReachLemmas.{reaches_self, advances_ok, advances_bind, advances_white, part_advances, field_or_close_advances}
use Rattle.bt_bib.proofs.ManyLemmas.{IsLess, less_from, less_if, gathers_none}
use Rattle.bt_bib.proofs.LoopLemmas.{read_out}

-- the next part
joined_less_run : (close : Closing) (s : Spot) (r : List ℕ) → IsLess (at s r) (joined_from close (at s r) (first r))
joined_less_run close s [] = tt
joined_less_run close s (b ∷ bs) =
    let w = after_white (at (spot_after_byte b s) bs) in
    less_if (at s (b ∷ bs)) (b == 35) _ _ (less_from (at s (b ∷ bs)) (at (spot_after_byte b s) bs) (part close w >>= λ x. Ok (Some x.0, x.1)) (omega arith) (advances_white (at (spot_after_byte b s) bs) _ (advances_bind w (part close w) (λ x. Ok (Some x.0, x.1)) (part_advances close w) (λ x. advances_ok x.1 x.1 _ (reaches_self x.1))))) tt

pub joined_less : (close : Closing) (h : Here) → IsLess h (next_part close h)
unfolding next_part
joined_less close h = joined_less_run close h.spot h.rest

-- the next field
next_field_less_run : (close : Closing) (s : Spot) (r : List ℕ) → IsLess (at s r) (next_field_from close (at s r) (first r))
next_field_less_run close s [] = tt
next_field_less_run close s (b ∷ bs) =
    let w = after_white (at (spot_after_byte b s) bs) in
    less_if (at s (b ∷ bs)) (b == closing_sign close) _ _ tt (less_if (at s (b ∷ bs)) (b == 44) _ _ (less_from (at s (b ∷ bs)) (at (spot_after_byte b s) bs) (field_or_close close w (first w.rest)) (omega arith) (advances_white (at (spot_after_byte b s) bs) _ (field_or_close_advances close w (first w.rest)))) tt)

pub next_field_less : (close : Closing) (h : Here) → IsLess h (next_field close h)
unfolding next_field
next_field_less close h = next_field_less_run close h.spot h.rest

-- a value of a single part
no_hash : (close : Closing) (h : Here) (o : Option ℕ) → is_hash o ≡ false → joined_from close h o ≡ Ok (None, h)
no_hash close h None e = refl
no_hash close h (Some b) e = rw e refl

next_none : (close : Closing) (h : Here) → is_joined h ≡ false → next_part close h ≡ Ok (None, h)
unfolding next_part
next_none close h e = no_hash close h (first h.rest) e

pub alone : (close : Closing) (front : List Part) (h : Here) → is_joined h ≡ false → collected front (all (next_part close) h) ≡ Ok (front, h)
alone close front h e = ap read_out (gathers_none (next_part close) (joined_less close) front h h (next_none close h e))
