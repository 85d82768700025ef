-- Names of files: the author's, which may be anything, and the session's.
use Rattle.std.specs.Prelude.{ℕ, Bool, ◌+◌, ◌&&◌, not, eqb, List, [], ◌∷◌, ◌++◌, codes, decimal, Option, Some, None, position, if◌then◌else◌}
use Rattle.std.specs.List.{starts_with, ends_with}
use Rattle.std.specs.Option.{option_map}
use Rattle.std.specs.Str.{bytes_eq}
use Rattle.bt_job.specs.FileNames.{is_file_name, with_name}

-- A table lists the author's names that need another name in the session, in the order in which they were first met.

-- whether a name has the form of the names that stand for others
abbrev pub is_stand_in : List ℕ → Bool
is_stand_in name = starts_with eqb name (codes "+/")

-- whether an author's name is its own name in the session
abbrev pub is_own_name : List ℕ → Bool
is_own_name author = is_file_name author && not (is_stand_in author)

-- the ending of a name, if it shows what the file is for
abbrev pub ending_of : List ℕ → List ℕ
ending_of name =
    if ends_with eqb name (codes ".aux") then codes ".aux"
    else if ends_with eqb name (codes ".bib") then codes ".bib"
    else if ends_with eqb name (codes ".bst") then codes ".bst"
    else []

-- the name of this number, which stands for an author's name
abbrev pub numbered : ℕ → List ℕ → List ℕ
numbered number author = codes "+/" ++ decimal number ++ ending_of author

-- the session's name of an author's file, if the table or the file itself has one
abbrev pub session_name : List (List ℕ) → List ℕ → Option (List ℕ)
session_name table author =
    if is_own_name author then Some author
    else option_map (λ place. numbered (place + 1) author) (position (λ name. bytes_eq name author) table)

-- the first of some names, numbered from here on, for which a name stands
abbrev pub stood_for : ℕ → List (List ℕ) → List ℕ → Option (List ℕ)
stood_for number [] session = None
stood_for number (author ∷ table) session =
    if bytes_eq (numbered number author) session then Some author else stood_for (number + 1) table session

-- the author's name of a session's file
abbrev pub author_name : List (List ℕ) → List ℕ → Option (List ℕ)
author_name table session = if is_stand_in session then stood_for 1 table session else Some session

-- a table after an author's name was met
abbrev pub with_author : List (List ℕ) → List ℕ → List (List ℕ)
with_author table author = if is_own_name author then table else with_name table author
