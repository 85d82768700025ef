-- How deep in braces a place of a text is.
use Rattle.std.specs.Prelude.{◌≡◌, ◌≢◌, ℕ, ◌+◌, ◌-◌, ◌<◌, ◌==◌, if◌then◌else◌, List, length, take, slice_index, fold}
use Rattle.bt_text.specs.ByteTests.{left_brace, right_brace}

-- the depth after the byte b, if it is d before it
abbrev pub depth_after : ℕ → ℕ → ℕ
depth_after d b = if b == left_brace then d + 1 else (if b == right_brace then d - 1 else d)

-- the depth at the end of a text, which begins at depth 0
abbrev pub depth : List ℕ → ℕ
depth t = fold depth_after 0 t

-- the depth before place i
abbrev pub depth_at : List ℕ → ℕ → ℕ
depth_at t i = depth (take i t)

-- No right brace stands at depth 0, and the text ends at depth 0.
pub record IsBalanced (t : List ℕ) : Type 0 where
  pub opened : (i : ℕ) → i < length t → slice_index t i ≡ right_brace → depth_at t i ≢ 0
  pub closed : depth t ≡ 0
