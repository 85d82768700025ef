-- How often each built-in function was called in a run, and the lines of the log that say so.
use Rattle.std.specs.Prelude.{ℕ, List, ◌∷◌, ◌++◌, map, sum_by, slice_index_or, codes, decimal}
use Rattle.bt_style.specs.declared.builtin.Builtin.{Builtin}
use Rattle.bt_style.specs.Builtins.{name_of, table, place_of}
use Rattle.bt_log.specs.declared.message.Message.{Message}
use Rattle.bt_log.specs.declared.message.Rank.TheVariants.{CallCount}
use Rattle.bt_log.specs.Message.{plain}
use Rattle.bt_run.specs.declared.course.Step.{Step}

-- how often the function at a place in the table was called, in all steps together
abbrev pub calls_at : List Step → ℕ → ℕ
calls_at trace place = sum_by (λ (s : Step). slice_index_or s.outcome.calls place 0) trace

-- how often all of them were called together, given how often the function at each place was
unfoldable pub all_calls : (ℕ → ℕ) → ℕ
all_calls calls = sum_by (λ b. calls (place_of b)) table

-- the line of a function
abbrev pub function_line : (ℕ → ℕ) → Builtin → Message
function_line calls b = plain CallCount (name_of b ++ codes " -- " ++ decimal (calls (place_of b)))

-- the line before them
abbrev pub total_line : ℕ → Message
total_line count =
    plain CallCount (codes "The built-in function-call counts, " ++ decimal count ++ codes " in all, are:")

-- the counts of calls, function by function in the order of the table
unfoldable pub counts_told : (ℕ → ℕ) → List Message
counts_told calls = total_line (all_calls calls) ∷ map (function_line calls) table
