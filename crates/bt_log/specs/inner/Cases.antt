-- Parts of rules, for the functions and lemmas that are about them.
use Rattle.std.specs.Prelude.{ℕ, List, [], ◌∷◌, ◌++◌, map, filter, codes, decimal, Option, Some, None}
use Rattle.bt_log.specs.declared.message.Rank.{Rank}
use Rattle.bt_log.specs.declared.message.Rank.TheVariants.{FileLine, Note, CallCount, Warning, Error, Fatal}
use Rattle.bt_log.specs.declared.message.Message.{Message}
use Rattle.bt_log.specs.Log.{is_in_terse_log, lines_bytes}
use Rattle.bt_log.specs.Wording.{for_entry, spelled}

-- several things of this name
abbrev pub several : ℕ → List ℕ → List ℕ
several n name = codes "(There were " ++ decimal n ++ codes " " ++ name ++ codes "s)\n"

-- each message in words, in order
abbrev pub messages_bytes : List Message → List ℕ
messages_bytes log = lines_bytes (map spelled log)

-- the messages of the terse log
abbrev pub terse : List Message → List Message
terse log = filter (λ m. is_in_terse_log m.rank) log

-- a file that was read to its end
abbrev pub while_reading : List ℕ → List ℕ
while_reading file = codes "---while reading file " ++ file

-- the command of a step
abbrev pub while_executing : List ℕ → ℕ → List ℕ
while_executing style line = codes "\nwhile executing---line " ++ decimal line ++ codes " of file " ++ style

-- where a message of a step belongs
abbrev pub step_words : Rank → Option (List ℕ) → List ℕ → ℕ → List ℕ
step_words FileLine entry style line = []
step_words Note entry style line = []
step_words CallCount entry style line = []
step_words Warning entry style line = []
step_words Error entry style line = for_entry entry ++ while_executing style line
step_words Fatal entry style line = for_entry entry ++ while_executing style line

abbrev pub second_line : Option (List ℕ) → List ℕ
second_line None = []
second_line (Some words) = 10 ∷ words
