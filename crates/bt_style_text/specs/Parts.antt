-- Parts of a text.
use Rattle.std.specs.Prelude.{ℕ, min, List, length, take, drop}

-- the bytes from one place up to another, as far as they are in the text
abbrev pub part : ℕ → ℕ → List ℕ → List ℕ
part from to text = let front = take (min to (length text)) text in drop (min from (length front)) front
