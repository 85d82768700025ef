-- The tokens of a name.
use Rattle.std.specs.Prelude.{ℕ, ◌==◌, Bool, false, not, ◌||◌, if◌then◌else◌, List, [], ◌∷◌, ◌++◌, length, map, filter}
use Rattle.std.specs.List.{slice_split}
use Rattle.bt_text.specs.ByteTests.{is_white, is_separator, right_brace, space}
use Rattle.bt_text.specs.Blocks.{blocks}
use Rattle.bt_names.specs.declared.tokens.Token.{Token}

abbrev pub comma : ℕ
comma = 44

-- The block is one byte, which passes the test.
abbrev pub is_single : (ℕ → Bool) → List ℕ → Bool
is_single test (b ∷ []) = test b
is_single test _ = false

-- A right brace at depth 0 is left out of a name.
abbrev pub kept_blocks : List ℕ → List (List ℕ)
kept_blocks name = filter (λ block. not (is_single (λ b. b == right_brace) block)) (blocks name)

-- the blocks between the commas at depth 0
abbrev pub sections : List ℕ → List (List (List ℕ))
sections name = slice_split (is_single (λ b. b == comma)) (kept_blocks name)

-- White space, hyphens and ties at depth 0 separate the tokens.
abbrev pub is_parting : ℕ → Bool
is_parting b = is_white b || is_separator b

-- a longest run of blocks that separate no tokens, and the bytes that separate it from what comes before
pub record Run : Type 0 where
  pub gap : List ℕ
  pub text : List ℕ

abbrev pub onto_text : List ℕ → List Run → List Run
onto_text block [] = record { gap = []; text = block } ∷ []
onto_text block (r ∷ rs) =
    if length r.gap == 0 then record { gap = []; text = block ++ r.text } ∷ rs
    else record { gap = []; text = block } ∷ r ∷ rs

-- the runs of some blocks; separating blocks at the end belong to no run
abbrev pub runs : List (List ℕ) → List Run
runs [] = []
runs (block ∷ rest) =
    if is_single is_parting block
    then elim (runs rest) [ [] ↦ [] | r ∷ rs ↦ record { gap = block ++ r.gap; text = r.text } ∷ rs ]
    else onto_text block (runs rest)

-- A gap is known by its first byte. Any white byte counts as a space.
abbrev pub sign_of : List ℕ → ℕ
sign_of [] = 0
sign_of (b ∷ gap) = if is_white b then space else b

-- the tokens of a section; `lead` is the byte before the first one
abbrev pub tokens : ℕ → List Run → List Token
tokens lead [] = []
tokens lead (r ∷ rs) =
    record { text = r.text; before = lead } ∷ map (λ s. record { text = s.text; before = sign_of s.gap }) rs

-- what is before the first token of a section: a comma, if earlier sections have tokens
abbrev pub lead_after : List Token → ℕ
lead_after [] = 0
lead_after (w ∷ ws) = comma
