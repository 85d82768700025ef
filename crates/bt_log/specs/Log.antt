-- The log: its bytes, and its status.
use Rattle.std.specs.Prelude.{ℕ, Bool, true, false, ◌==◌, List, [], ◌∷◌, ◌++◌, map, filter, count_by, codes, decimal, if◌then◌else◌}
use Rattle.std.specs.List.{list_any}
use Rattle.bt_log.specs.declared.message.Rank.{Rank}
use Rattle.bt_log.specs.declared.message.Rank.TheVariants.{FileLine, CallCount, Warning, Error, Fatal}
use Rattle.bt_log.specs.declared.message.Message.{Message}
use Rattle.bt_log.specs.Wording.{spelled}

-- The status

-- the status of a log in which all messages have this rank
abbrev pub rank_status : Rank → ℕ
rank_status Warning = 1
rank_status Error = 2
rank_status Fatal = 3
rank_status _ = 0

-- whether a message has the rank of this status
abbrev pub has_status : ℕ → Message → Bool
has_status status m = rank_status m.rank == status

-- 3 if a message is fatal, else 2 if one is an error, else 1 if one is a warning, else 0
abbrev pub status_of : List Message → ℕ
status_of log =
    if list_any (has_status 3) log then 3
    else if list_any (has_status 2) log then 2
    else if list_any (has_status 1) log then 1
    else 0

-- whether the terse log has messages of a rank: all but the lines of files and the counts of calls
abbrev pub is_in_terse_log : Rank → Bool
is_in_terse_log FileLine = false
is_in_terse_log CallCount = false
is_in_terse_log _ = true

-- The bytes

-- each line with a line feed after it
abbrev pub lines_bytes : List (List ℕ) → List ℕ
lines_bytes [] = []
lines_bytes (line ∷ lines) = line ++ 10 ∷ lines_bytes lines

-- how many things of this name there were
abbrev pub count_line : ℕ → List ℕ → List ℕ
count_line n name =
    if n == 1 then codes "(There was 1 " ++ name ++ codes ")\n"
    else codes "(There were " ++ decimal n ++ codes " " ++ name ++ codes "s)\n"

-- the last line, which says what the status means, or nothing if it is 0
abbrev pub last_line : List Message → List ℕ
last_line log =
    let status = status_of log in
    if status == 3 then codes "(That was a fatal error)\n"
    else if status == 2 then count_line (count_by (has_status 2) log) (codes "error message")
    else if status == 1 then count_line (count_by (has_status 1) log) (codes "warning")
    else []

-- each message in words, in order, then the last line
abbrev pub log_bytes : List Message → List ℕ
log_bytes log = lines_bytes (map spelled log) ++ last_line log

-- the same without the lines of files and the counts of calls; the last line is the whole log's
abbrev pub terse_bytes : List Message → List ℕ
terse_bytes log = lines_bytes (map spelled (filter (λ m. is_in_terse_log m.rank) log)) ++ last_line log
