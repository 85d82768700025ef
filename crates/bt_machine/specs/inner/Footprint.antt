-- Whether a place is among some.
use Rattle.std.specs.Prelude.{ℕ, Bool, List, nat_eq}
use Rattle.std.specs.List.{list_any}

-- whether a place is among some
abbrev pub among : List ℕ → ℕ → Bool
among places n = list_any (λ m. nat_eq m n) places
