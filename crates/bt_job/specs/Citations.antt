-- What the .aux files of a job ask for, defined on the list of all their lines.
use Rattle.std.specs.Prelude.{ℕ, ◌+◌, ◌==◌, Bool, not, List, [], ◌∷◌, ◌++◌, length, map, filter, codes, Option, Some, None, slice_get, if◌then◌else◌}
use Rattle.std.specs.List.{before_first}
use Rattle.std.specs.Str.{bytes_eq}
use Rattle.bt_bib.specs.declared.aux_line.Command.TheVariants.{Citation, Database, Style, Nested}
use Rattle.bt_log.specs.declared.message.Message.{Message}
use Rattle.bt_log.specs.declared.message.Rank.TheVariants.{FileLine, Error, Fatal}
use Rattle.bt_log.specs.declared.message.FileKind.TheVariants.{Aux}
use Rattle.bt_log.specs.declared.message.FileNote.TheVariants.{RootAux, NestedAux, StyleFile, NotOpened}
use Rattle.bt_log.specs.declared.message.Place.TheVariants.{Line, WholeFile}
use Rattle.bt_log.specs.Message.{plain, of_file, skipping, at}
use Rattle.bt_job.specs.declared.files.File.{File}
use Rattle.bt_job.specs.declared.citations.Citations.{Citations}
use Rattle.bt_text.specs.NameList.{is_among}
use Rattle.bt_job.specs.FileNames.{text_of, each_once}
use Rattle.bt_job.specs.Faults.{LineFault, WrongFile, said, database_fault, style_fault, right_parts}
use Rattle.bt_job.specs.Lines.{JobLine, first_with, line_parts, cited, database_names, style_names, line_fault, job_lines}

-- Keys

abbrev pub is_star : List ℕ → Bool
is_star part = bytes_eq part (codes "*")

-- the keys among what was cited, each in its first spelling
abbrev pub keys_of : List (List ℕ) → List (List ℕ)
keys_of parts = each_once (filter (λ part. not (is_star part)) parts)

-- how many keys come before the `*`, if it was cited
abbrev pub star_of : List (List ℕ) → Option ℕ
star_of parts =
    if is_among parts (codes "*") then Some (length (keys_of (before_first is_star parts))) else None

-- Files

-- the databases: the names in the first \bibdata, before the first wrong one
abbrev pub databases : List File → List JobLine → List (List ℕ)
databases files lines =
    right_parts (database_fault files) [] (database_names (line_parts (first_with Database lines)))

-- the style: the name in the first \bibstyle, unless it is wrong
abbrev pub styles : List File → List JobLine → List (List ℕ)
styles files lines =
    right_parts (style_fault files) [] (style_names (line_parts (first_with Style lines)))

-- a name that was looked up and isn't there
abbrev pub missed : Option LineFault → List (List ℕ)
missed (Some (WrongFile (NotOpened kind) name)) = name ∷ []
missed _ = []

-- Lines one by one

-- what each line yields after the lines before it, in order
abbrev pub along : {A : Type 0} → (List JobLine → JobLine → List A) → List JobLine → List JobLine → List A
along f before [] = []
along f before (line ∷ lines) = f before line ++ along f (before ++ line ∷ []) lines

-- all names that were looked up and aren't there, each once
abbrev pub wanted : List File → List ℕ → List JobLine → List (List ℕ)
wanted files root lines =
    each_once (along (λ before line. missed (line_fault files root before line)) [] lines)

-- Messages

-- the line of the log where a file begins, by its level below the root
abbrev pub file_line : ℕ → List ℕ → Message
file_line level file = of_file FileLine (if level == 0 then RootAux else NestedAux level) file

-- The messages of a line that has this fault, or none. Without a fault the log names the files that it opens.
abbrev pub line_messages : JobLine → Option LineFault → List Message
line_messages line (Some fault) =
    skipping (said fault) (Line line.file line.item.line None) (codes "command") ∷ []
line_messages line None = elim line.item.command [
  | Style ↦ map (of_file FileLine StyleFile) (style_names line.item.parts)
  | Nested ↦ map (file_line (line.level + 1)) line.item.parts
  | _ ↦ []
]

-- the messages of all lines, under that of the root file
abbrev pub messages : List File → List ℕ → List JobLine → List Message
messages files root lines =
    file_line 0 root ∷ along (λ before line. line_messages line (line_fault files root before line)) [] lines

-- what is missing about a command, given its first line and what it named
abbrev pub missing_of : Option JobLine → List (List ℕ) → List ℕ → List ℕ → List (List ℕ)
missing_of None names command nothing = command ∷ []
missing_of (Some line) [] command nothing = nothing ∷ []
missing_of (Some line) (name ∷ names) command nothing = []

-- what is missing at the end
abbrev pub lacks : List File → List JobLine → List (List ℕ)
lacks files lines =
    missing_of (first_with Citation lines) (cited lines) (codes "\\citation commands") (codes "cite keys")
    ++ missing_of (first_with Database lines) (databases files lines) (codes "\\bibdata command")
    (codes "database files")
    ++ missing_of (first_with Style lines) (styles files lines) (codes "\\bibstyle command") (codes "style file")

abbrev pub told_missing : List ℕ → List ℕ → Message
told_missing root what = at (WholeFile root) (plain Error (codes "I found no " ++ what))

-- Jobs

-- what these lines of a job ask for
abbrev pub asked_by : List File → List ℕ → List JobLine → Citations
asked_by files root lines = record {
  keys = keys_of (cited lines);
  star = star_of (cited lines);
  databases = databases files lines;
  style = slice_get (styles files lines) 0;
  log = messages files root lines ++ map (told_missing root) (lacks files lines);
  wanted = wanted files root lines;
}

-- a root file that isn't there
abbrev pub without_root : List ℕ → Citations
without_root root = record {
  keys = [];
  star = None;
  databases = [];
  style = None;
  log = of_file Fatal (NotOpened Aux) root ∷ [];
  wanted = root ∷ [];
}

-- what the files of a session with this root name ask for
unfoldable pub citations : List File → List ℕ → Citations
citations files root =
    (let file = root ++ codes ".aux" in
    elim (text_of files file) [ None ↦ without_root file | Some text ↦ asked_by files file (job_lines files file) ])
