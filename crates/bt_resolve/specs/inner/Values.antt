-- A text with one more part, within the limit.
use Rattle.std.specs.Prelude.{ℕ, List, ◌++◌, Option}
use Rattle.bt_resolve.specs.Values.{within_limit}

-- a text with another after it, within the limit
abbrev pub with_part : List ℕ → List ℕ → Option (List ℕ)
with_part text front = within_limit (front ++ text)
