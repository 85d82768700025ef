-- Names of files: which are allowed, and which text each has.
use Rattle.std.specs.Prelude.{ℕ, Bool, nat_le, ◌==◌, eqb, ◌&&◌, ◌||◌, List, [], ◌∷◌, ◌++◌, length, fold, codes, Option, Some, None, if◌then◌else◌}
use Rattle.std.specs.List.{ends_with, list_all}
use Rattle.std.specs.Str.{bytes_eq}
use Rattle.bt_text.specs.NameList.{is_among}
use Rattle.bt_bib.specs.declared.aux_line.Command.{Command}
use Rattle.bt_bib.specs.declared.aux_line.Command.TheVariants.{Citation, Database, Style, Nested}
use Rattle.bt_job.specs.declared.files.File.{File}

-- a letter, a digit or one of . - _ + /
abbrev pub is_file_name_byte : ℕ → Bool
is_file_name_byte b =
    (nat_le 65 b && nat_le b 90) || (nat_le 97 b && nat_le b 122) || (nat_le 48 b && nat_le b 57)
    || b == 46 || b == 45 || b == 95 || b == 43 || b == 47

-- how many bytes a file name may have
abbrev pub file_name_size_limit : ℕ
file_name_size_limit = 64

-- whether a file may have this name
abbrev pub is_file_name : List ℕ → Bool
is_file_name name =
    nat_le 1 (length name) && nat_le (length name) file_name_size_limit && list_all is_file_name_byte name

-- whether a name is an .aux file's
abbrev pub is_aux : List ℕ → Bool
is_aux name = ends_with eqb name (codes ".aux")

-- the text of the file with this name, if there is such a file
abbrev pub text_of : List File → List ℕ → Option (List ℕ)
text_of [] name = None
text_of (f ∷ fs) name = if bytes_eq f.name name then Some f.text else text_of fs name

-- a name with an extension, which is appended unless it is there
abbrev pub with_ending : List ℕ → List ℕ → List ℕ
with_ending ending name = if ends_with eqb name ending then name else name ++ ending

-- the name of the file that a part of a command means
abbrev pub file_name_of : Command → List ℕ → List ℕ
file_name_of Citation key = key
file_name_of Database part = with_ending (codes ".bib") part
file_name_of Style part = with_ending (codes ".bst") part
file_name_of Nested part = part

-- names with one more appended, unless it is among them
abbrev pub with_name : List (List ℕ) → List ℕ → List (List ℕ)
with_name names name = if is_among names name then names else names ++ name ∷ []

-- names in the order of their first occurrences, each once
abbrev pub each_once : List (List ℕ) → List (List ℕ)
each_once names = fold with_name [] names
