-- What digits spell.
use Rattle.std.proofs.Common.{ℕ, suc, ◌+◌, ◌-◌, ◌*◌, ◌<◌, ◌≤◌, List, [], ◌∷◌, length, drop, get_or, arith, drop-cons}
use Rattle.bt_style.specs.Elements.{decimal}

-- it is no less than what the digits in front spell
pub decimal_above : (n : ℕ) (digits : List ℕ) → n ≤ decimal n digits
decimal_above n [] = omega arith
decimal_above n (d ∷ digits) = omega (arith, decimal_above (n * 10 + (d - 48)) digits)

-- nor than what one digit more spells
pub decimal_step : (n i : ℕ) (digits : List ℕ) → i < length digits → n * 10 + (get_or digits i 0 - 48) ≤ decimal n (drop i digits)
decimal_step n i digits h = rw (drop-cons digits i 0) (decimal_above (n * 10 + (get_or digits i 0 - 48)) (drop (suc i) digits))
