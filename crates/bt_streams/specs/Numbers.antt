-- Numbers in lines of a protocol.
use Rattle.std.specs.Prelude.{ℕ, nat_le, nat_lt, ◌+◌, ◌-◌, ◌*◌, ◌&&◌, Bool, if◌then◌else◌, List, length, fold, Option, Some, None}
use Rattle.std.specs.List.{list_all}

-- 0 to 9
abbrev pub is_digit : ℕ → Bool
is_digit b = nat_le 48 b && nat_le b 57

-- a number of 1 to 10 digits
abbrev pub number_of : List ℕ → Option ℕ
number_of w =
    if nat_lt 0 (length w) && (nat_le (length w) 10 && list_all is_digit w)
    then Some (fold (λ n b. n * 10 + (b - 48)) 0 w) else None
