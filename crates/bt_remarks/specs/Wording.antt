-- The words of a lens: what a run made of an entry or a function.
use Rattle.std.specs.Prelude.{ℕ, ◌==◌, if◌then◌else◌, List, [], ◌∷◌, ◌++◌, codes, decimal}

-- the lines from a first to a last one; none if the first is 0
abbrev pub lines_words : ℕ → ℕ → List ℕ
lines_words first last =
    if first == 0 then codes "no line of its own"
    else (if first == last then codes "line " ++ decimal first
    else codes "lines " ++ decimal first ++ codes " to " ++ decimal last)

-- what stands between a name and the one before it, by the names behind it
abbrev pub between : List (List ℕ) → List ℕ
between [] = codes " and "
between (name ∷ rest) = codes ", "

-- the names behind the first one
abbrev pub more_names : List (List ℕ) → List ℕ
more_names [] = []
more_names (name ∷ rest) = (between rest ++ name) ++ more_names rest

-- what is said behind the first name and the names behind it
abbrev pub are_unused : List (List ℕ) → List ℕ
are_unused [] = codes " isn't used"
are_unused (name ∷ rest) = codes " aren't used"

-- a first name and the names behind it
abbrev pub names_from : List ℕ → List (List ℕ) → List ℕ
names_from first rest = codes "; " ++ first ++ more_names rest ++ are_unused rest

-- the names of the fields that no step read
abbrev pub names_words : List (List ℕ) → List ℕ
names_words [] = []
names_words (first ∷ rest) = names_from first rest

-- over an entry: its lines, and the fields that no step read
abbrev pub entry_words : ℕ → ℕ → List (List ℕ) → List ℕ
entry_words first last names = lines_words first last ++ names_words names

-- a number and what is counted
abbrev pub count_words : ℕ → List ℕ → List ℕ → List ℕ
count_words count one many = decimal count ++ (if count == 1 then one else many)

-- over a function: how many pieces it wrote, and in how many entries
abbrev pub function_words : ℕ → ℕ → List ℕ
function_words pieces entries =
    if entries == 0 then codes "writes " ++ count_words pieces (codes " piece") (codes " pieces")
    else codes "writes " ++ count_words pieces (codes " piece") (codes " pieces") ++ codes " in " ++ count_words entries (codes " entry") (codes " entries")
