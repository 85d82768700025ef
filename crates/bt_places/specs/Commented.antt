-- Comments of LaTeX.
use Rattle.std.specs.Prelude.{ℕ, ◌-◌, ◌==◌, ◌&&◌, not, Bool, true, false, if◌then◌else◌, List, [], ◌∷◌, drop, length}
use Rattle.std.specs.List.{suffix_len, before_first}
use Rattle.bt_text.specs.ByteTests.{is_line_feed}
use Rattle.bt_mentions.specs.Citing.{is_citing}
use Rattle.bt_mentions.specs.Databases.{part}
use Rattle.bt_places.specs.declared.commented.Spot.{Spot}
use Rattle.bt_places.specs.declared.commented.Spot.TheVariants.{Text, Escape, Comment, Open}

-- whether bytes of a line have the beginning of a comment: a `%` that no `\` precedes
abbrev pub has_comment : Bool → List ℕ → Bool
has_comment escaped [] = false
has_comment escaped (b ∷ t) = if (b == 37) && not escaped then true else has_comment ((b == 92) && not escaped) t

abbrev pub is_in_line : ℕ → Bool
is_in_line b = not (b == 10)

-- the last line of a text
abbrev pub line_before : List ℕ → List ℕ
line_before front = drop (length front - suffix_len is_in_line front) front

-- whether a place of a text is in a comment
abbrev pub is_commented : ℕ → List ℕ → Bool
is_commented place text = has_comment false (line_before (part 0 place text))

-- the comment whose `%` these bytes follow
abbrev pub comment_of : List ℕ → Spot
comment_of behind = if is_citing (before_first is_line_feed behind) then Open else Comment

-- where a byte is, by where the byte before it is, and by the bytes behind it
abbrev pub spot_after : Spot → ℕ → List ℕ → Spot
spot_after Text b behind = if b == 92 then Escape else (if b == 37 then comment_of behind else Text)
spot_after Escape b behind = Text
spot_after Comment b behind = if b == 10 then Text else Comment
spot_after Open b behind = if b == 10 then Text else Open

abbrev pub shown_byte : Spot → ℕ → ℕ
shown_byte Text b = b
shown_byte Escape b = b
shown_byte Comment b = b
shown_byte Open b = 32

-- the rest of a text with blanks for each comment that leaves a citation open
abbrev pub closed_after : Spot → List ℕ → List ℕ
closed_after spot [] = []
closed_after spot (b ∷ t) = let now = spot_after spot b t in shown_byte now b ∷ closed_after now t

-- a text of LaTeX with blanks for each comment that leaves a citation open
abbrev pub without_open_comments : List ℕ → List ℕ
without_open_comments text = closed_after Text text
