-- The comments above a command.
use Rattle.std.specs.Prelude.{ℕ, min, nat_le, Bool, true, false, if◌then◌else◌, List, [], ◌∷◌, length, take, count_by, Option, Some, None}
use Rattle.bt_text.specs.ByteTests.{is_line_feed}
use Rattle.bt_style_text.specs.declared.roles.Role.{Role}
use Rattle.bt_style_text.specs.declared.roles.Role.TheVariants as roles
use Rattle.bt_style_text.specs.declared.marks.Mark.{Mark}
use Rattle.bt_style_text.specs.declared.comments.Run.{Run}
use Rattle.bt_style_text.specs.Parts.{part}

-- the line in which a place lies, from 0
abbrev pub line_number : ℕ → List ℕ → ℕ
line_number place text = count_by is_line_feed (take (min place (length text)) text)

-- whether one place follows another with at most a line feed between them
abbrev pub follows : List ℕ → ℕ → ℕ → Bool
follows text from to = nat_le (count_by is_line_feed (part from to text)) 1

abbrev pub is_comment : Role → Bool
is_comment roles.Comment = true
is_comment _ = false

-- the comments that a further one begins or goes on
abbrev pub longer : List ℕ → Option Run → ℕ → ℕ → Run
longer text None start end = record { start = start; end = end }
longer text (Some run) start end =
    if follows text run.end start then record { start = run.start; end = end } else record { start = start; end = end }

-- the comments that end after a word
abbrev pub run_after : List ℕ → Option Run → Mark → Option Run
run_after text run mark = if is_comment mark.role then Some (longer text run mark.start mark.end) else None

-- the comments, if a place follows them
abbrev pub attached : List ℕ → Option Run → ℕ → Option Run
attached text None start = None
attached text (Some run) start = if follows text run.end start then Some run else None

abbrev pub above_from : List ℕ → ℕ → Option Run → List Mark → Option Run
above_from text start run [] = None
above_from text start run (mark ∷ marks) =
    if nat_le start mark.start then attached text run start else above_from text start (run_after text run mark) marks

-- the comments right above the word that begins at a place
abbrev pub comment_above : List ℕ → ℕ → List Mark → Option Run
comment_above text start marks = above_from text start None marks
