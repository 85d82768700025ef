-- The lines of a text, as an editor counts them or as a session's messages do.
use Rattle.std.specs.Prelude.{ℕ, suc, ◌+◌, ◌-◌, ◌==◌, Bool, false, not, ◌&&◌, ◌||◌, if◌then◌else◌, List, [], ◌∷◌}
use Rattle.bt_positions.specs.declared.lines.Lines.{Lines}
use Rattle.bt_positions.specs.declared.lines.Lines.TheVariants.{Editor, Bibtex}

-- whether a text begins with a line feed
abbrev pub begins_with_feed : List ℕ → Bool
begins_with_feed [] = false
begins_with_feed (b ∷ t) = b == 10

-- Whether a line ends between a byte and what follows it. An editor's ends after LF, CR LF, or a CR that no LF follows;
-- a message's ends after LF.
abbrev pub ends_line : Lines → ℕ → List ℕ → Bool
ends_line Editor b t = b == 10 || (b == 13 && not (begins_with_feed t))
ends_line Bibtex b t = b == 10

-- how many bytes precede a line, counted from 0; all of them if there are fewer lines
abbrev pub place_of_line : Lines → ℕ → List ℕ → ℕ
place_of_line l n [] = 0
place_of_line l n (b ∷ t) = if n == 0 then 0 else suc (place_of_line l (if ends_line l b t then n - 1 else n) t)

-- how many of an editor's lines end within the first n bytes
abbrev pub line_ends : ℕ → List ℕ → ℕ
line_ends n [] = 0
line_ends n (b ∷ t) = if n == 0 then 0 else (if ends_line Editor b t then 1 else 0) + line_ends (n - 1) t

-- the text up to its first CR or LF
abbrev pub first_line : List ℕ → List ℕ
first_line [] = []
first_line (b ∷ t) = if b == 10 || b == 13 then [] else b ∷ first_line t
