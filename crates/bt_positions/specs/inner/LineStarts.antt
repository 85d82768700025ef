-- Where the lines of a text begin.
use Rattle.std.specs.Prelude.{ℕ, suc, ◌≤◌, ◌<◌, ◌+◌, ◌-◌, ◌^◌, map, if◌then◌else◌, List, [], ◌∷◌, Option, Some, None, Vec}
use Rattle.std.specs.declared.alloc.Global.{Global}
use Rattle.bt_positions.specs.declared.lines.Lines.{Lines}
use Rattle.bt_positions.specs.Lines.{ends_line}

-- the offsets at which lines begin, from the second line on, if the text itself begins at this offset
abbrev pub line_starts : Lines → ℕ → List ℕ → List ℕ
line_starts l n [] = []
line_starts l n (b ∷ t) =
    if ends_line l b t then suc n ∷ line_starts l (suc n) t else line_starts l (suc n) t

-- these line starts, or else the others
abbrev pub starts_or : Option (Vec ℕ Global) → List ℕ → List ℕ
starts_or None others = others
starts_or (Some own) others = own.items

-- line starts, moved as an offset of the text is
abbrev pub moved : ℕ → ℕ → List ℕ → List ℕ
moved from to starts = map (λ s. s - from + to) starts

-- a line start that can be moved so
abbrev pub CanMove : ℕ → ℕ → ℕ → Type 0
CanMove from to s = (from ≤ s) × (s - from + to < 2 ^ 64)
