-- The blocks that a text is made of.
use Rattle.std.specs.Prelude.{ℕ, Bool, false, ◌&&◌, ◌==◌, if◌then◌else◌, List, [], ◌∷◌, ◌++◌}
use Rattle.std.specs.List.{onto_first}
use Rattle.bt_text.specs.ByteTests.{left_brace, backslash}
use Rattle.bt_text.specs.Depth.{depth}

-- the text after front, cut at each place where the bytes before the place have depth 0
abbrev pub blocks_after : List ℕ → List ℕ → List (List ℕ)
blocks_after front [] = []
blocks_after front (b ∷ t) =
    let rest = blocks_after (front ++ b ∷ []) t in
    if depth (front ++ b ∷ []) == 0 then (b ∷ []) ∷ rest else onto_first b rest

-- A text cut at each place of depth 0. So a block is one byte at depth 0, or a group: a left brace at depth 0
-- and all that follows it, to the brace that brings the depth back to 0, or to the end of the text.
abbrev pub blocks : List ℕ → List (List ℕ)
blocks t = blocks_after [] t

abbrev pub begins_group : List ℕ → Bool
begins_group [] = false
begins_group (b ∷ t) = b == left_brace

-- a left brace, and a backslash directly after it
abbrev pub begins_special : List ℕ → Bool
begins_special (a ∷ b ∷ t) = a == left_brace && b == backslash
begins_special _ = false
