-- Texts joined from pieces.
use Rattle.std.specs.Prelude.{ℕ, List, [], ◌++◌, fold}

-- pieces in their order, as one text
abbrev pub joined : List (List ℕ) → List ℕ
joined pieces = fold ◌++◌ [] pieces
