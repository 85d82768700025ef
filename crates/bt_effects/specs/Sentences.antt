-- What is said of the stack.
use Rattle.std.specs.Prelude.{ℕ, List, [], ◌∷◌, ◌++◌, codes, map, Option, Some, None, Vec}
use Rattle.std.specs.declared.alloc.Global.{Global}
use Rattle.bt_words.specs.declared.program.Program.{Program}
use Rattle.bt_check.specs.declared.watching.Lying.{Lying}
use Rattle.bt_check.specs.declared.watching.Lying.TheVariants.{Of}
use Rattle.bt_check.specs.declared.watching.Watched.{Watched}
use Rattle.bt_effects.specs.Words.{stack_words}

-- further ways in which values can lie there
abbrev pub more_ways : List (List ℕ) → Program → List (Vec Lying Global) → List ℕ
more_ways fields p [] = []
more_ways fields p (way ∷ ways) = (codes "; or " ++ stack_words fields p way.items) ++ more_ways fields p ways

-- the ways in which values can lie there
abbrev pub ways_words : List (List ℕ) → Program → List (Vec Lying Global) → List ℕ
ways_words fields p [] = []
ways_words fields p (way ∷ ways) = stack_words fields p way.items ++ more_ways fields p ways

-- what a function takes from the stack and leaves there
abbrev pub effect_words : List (List ℕ) → Program → Watched → List ℕ
effect_words fields p found =
    codes "It takes from the stack (the top last): " ++ stack_words fields p (map Of found.takes.items) ++
    codes ". It leaves there: " ++ ways_words fields p found.leaves.items ++ codes "."

-- what lies there before a word; nothing if no path reaches the word
abbrev pub before_words : List (List ℕ) → Program → List (Vec Lying Global) → List ℕ
before_words fields p [] = []
before_words fields p (way ∷ ways) =
    codes "On the stack before this word (the top last): " ++ ways_words fields p (way ∷ ways) ++ codes "."
