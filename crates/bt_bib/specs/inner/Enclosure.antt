-- What each byte between braces or quotes does to the count of open braces.
use Rattle.std.specs.Prelude.{◌≡◌, ℕ, ◌+◌, ◌-◌, ◌≤◌, Bool, true, ◌&&◌, ◌||◌, ◌==◌, not, List, take, drop, Result, Ok, if◌then◌else◌}
use Rattle.std.specs.List.{list_all}
use Rattle.bt_text.specs.ByteTests.{left_brace, right_brace}
use Rattle.bt_bib.specs.declared.enclosure.Turn.{Turn}
use Rattle.bt_bib.specs.declared.enclosure.Turn.TheVariants as turns
use Rattle.bt_bib.specs.declared.spot.Spot.{Spot}
use Rattle.bt_bib.specs.Spot.{Here, spot_after}
use Rattle.bt_bib.specs.Stop.{Stop, ◌>>=◌}
use Rattle.bt_bib.specs.Enclosure.{enclosed}

-- that byte alone
abbrev pub enclosed_end : ℕ → Here → Result Here Stop
enclosed_end close h = enclosed close h >>= λ x. Ok x.1

-- what a byte does while `depth` braces are open
abbrev pub turn : ℕ → ℕ → ℕ → Turn
turn close depth b =
    if b == close && depth == 0 then turns.Closes
    else if b == left_brace then turns.Goes (depth + 1)
    else if b == right_brace then (if depth == 0 then turns.Breaks else turns.Goes (depth - 1))
    else turns.Goes depth

-- a byte that is neither a brace nor the closing sign
abbrev pub is_plain : ℕ → ℕ → Bool
is_plain close b = not (b == close || b == left_brace || b == right_brace)

-- the bytes from one spot up to another
abbrev pub bytes_upto : List ℕ → Spot → Spot → List ℕ
bytes_upto text from end = take (end.place - from.place) (drop from.place text)

-- Up to that spot there are only such bytes.
pub record IsPlainUpto (close : ℕ) (text : List ℕ) (from end : Spot) : Type 0 where
  pub moved : end ≡ spot_after (bytes_upto text from end) from
  pub plain : list_all (is_plain close) (bytes_upto text from end) ≡ true

-- It leaves no more braces open than that.
abbrev pub IsNear : ℕ → Turn → Type 0
IsNear most turns.Closes = Unit {0}
IsNear most turns.Breaks = Unit {0}
IsNear most (turns.Goes depth) = depth ≤ most
