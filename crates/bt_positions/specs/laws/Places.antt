-- Definitions beside those of `specs/Positions.antt` that only laws need.
use Rattle.std.specs.Prelude.{ℕ, ◌-◌, ◌==◌, nat_lt, Bool, not, ◌&&◌, if◌then◌else◌, List, [], ◌∷◌}
use Rattle.bt_positions.specs.declared.counting.Counting.{Counting}
use Rattle.bt_positions.specs.Units.{units}
use Rattle.bt_positions.specs.Lines.{begins_with_feed}

-- whether an offset cuts nothing: it is the text's end or stands before a byte that counts, and not between CR and LF
abbrev pub is_place : Counting → ℕ → List ℕ → Bool
is_place c n [] = n == 0
is_place c n (b ∷ t) =
    if n == 0 then nat_lt 0 (units c b)
    else not (n == 1 && (b == 13 && begins_with_feed t)) && is_place c (n - 1) t
