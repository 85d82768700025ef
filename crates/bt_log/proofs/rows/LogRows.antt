-- Worked examples: messages in words, and the status and the bytes of logs.
use Rattle.std.proofs.Common.{◌≡◌, List, [], ◌∷◌, ◌++◌, Some, None, refl}
use Rattle.std.specs.Prelude.{codes}
use Rattle.std.specs.Fmt.{digits}
use Rattle.bt_log.specs.declared.message.Rank.TheVariants.{FileLine, Note, CallCount, Warning, Error, Fatal}
use Rattle.bt_log.specs.declared.message.FileKind.TheVariants.{Aux, Bib, Bst}
use Rattle.bt_log.specs.declared.message.FileNote.TheVariants.{RootAux, NestedAux, StyleFile, DatabaseFile, NotOpened, DatabaseTwice, AuxTwice, WrongExtension, BadFileName}
use Rattle.bt_log.specs.declared.message.Place.TheVariants.{Line, DatabaseLine, WholeFile, Step}
use Rattle.bt_log.specs.declared.message.Message.{Message}
use Rattle.bt_log.specs.Message.{plain, of_file, at}
use Rattle.bt_log.specs.Wording.{spelled}
use Rattle.bt_log.specs.Log.{status_of, last_line, lines_bytes, log_bytes, terse_bytes}

-- Messages in words

-- an error at a line of a file, with its second line
error_at_line : spelled (record (plain Error (codes "No \"}\"")) { place = Some (Line (codes "job.aux") 12 None); second = Some (codes "I'm skipping whatever remains of this command") })
    ≡ codes "No \"}\"---line 12 of file job.aux\nI'm skipping whatever remains of this command"
unfolding digits
error_at_line = refl

-- The place of a warning is on a line of its own, and its byte isn't reported.
warning_at_line : spelled (at (Line (codes "x.bib") 3 (Some 40)) (plain Warning (codes "Warning--string name \"nix\" is undefined")))
    ≡ codes "Warning--string name \"nix\" is undefined\n--line 3 of file x.bib"
unfolding digits
warning_at_line = refl

-- a file without a name
numbered_database : spelled (at (DatabaseLine 2 3 None) (plain Error (codes "Repeated entry"))) ≡ codes "Repeated entry---line 3 of database #2"
unfolding digits
numbered_database = refl

-- a file at its end
whole_file : spelled (at (WholeFile (codes "job.aux")) (plain Error (codes "I found no style file"))) ≡ codes "I found no style file---while reading file job.aux"
whole_file = refl

-- an error of a step for an entry, and of one for none
step_error : spelled (at (Step (codes "s.bst") 7) (record (plain Error (codes "The literal stack isn't empty")) { entry = Some (codes "a") }))
    ≡ codes "The literal stack isn't empty for entry a\nwhile executing---line 7 of file s.bst"
unfolding digits
step_error = refl

step_for_none : spelled (at (Step (codes "s.bst") 7) (plain Fatal (codes "The limit of 1000000 ticks was passed")))
    ≡ codes "The limit of 1000000 ticks was passed\nwhile executing---line 7 of file s.bst"
unfolding digits
step_for_none = refl

-- What a style logs stays as it is.
step_warning : spelled (at (Step (codes "s.bst") 7) (record (plain Warning (codes "Warning--beware")) { entry = Some (codes "a") })) ≡ codes "Warning--beware"
step_warning = refl

step_note : spelled (at (Step (codes "s.bst") 7) (plain Note (codes "3"))) ≡ codes "3"
step_note = refl

-- The entry of a message without a place isn't reported: the words name it.
about_entry : spelled (record (plain Error (codes "A bad cross reference---entry \"a\"")) { entry = Some (codes "a"); second = Some (codes "refers to entry \"p\", which doesn't exist") })
    ≡ codes "A bad cross reference---entry \"a\"\nrefers to entry \"p\", which doesn't exist"
about_entry = refl

-- Files that messages name

nested_file : spelled (of_file FileLine (NestedAux 2) (codes "c.aux")) ≡ codes "A level-2 auxiliary file: c.aux"
unfolding digits
nested_file = refl

style_file : spelled (of_file FileLine StyleFile (codes "s.bst")) ≡ codes "The style file: s.bst"
style_file = refl

database_file : spelled (of_file FileLine (DatabaseFile 12) (codes "x.bib")) ≡ codes "Database file #12: x.bib"
unfolding digits
database_file = refl

missing_database : spelled (at (Line (codes "job.aux") 2 None) (of_file Error (NotOpened Bib) (codes "no.bib"))) ≡ codes "I couldn't open database file no.bib---line 2 of file job.aux"
unfolding digits
missing_database = refl

missing_root : spelled (of_file Fatal (NotOpened Aux) (codes "job.aux")) ≡ codes "I couldn't open auxiliary file job.aux"
missing_root = refl

missing_style : spelled (of_file Error (NotOpened Bst) (codes "s.bst")) ≡ codes "I couldn't open style file s.bst"
missing_style = refl

named_twice : spelled (of_file Error DatabaseTwice (codes "x.bib")) ≡ codes "This database file appears more than once: x.bib"
named_twice = refl

read_twice : spelled (of_file Error AuxTwice (codes "job.aux")) ≡ codes "Already encountered file job.aux"
read_twice = refl

wrong_extension : spelled (of_file Error WrongExtension (codes "n.AUX")) ≡ codes "n.AUX has a wrong extension"
wrong_extension = refl

bad_name : spelled (of_file Error BadFileName (codes "a b.bib")) ≡ codes "a b.bib isn't a file name of this profile"
bad_name = refl

-- Logs

-- the line of a file, and a note
abbrev quiet : List Message
quiet = of_file FileLine RootAux (codes "job.aux") ∷ plain Note (codes "note") ∷ []

-- a warning
abbrev warning : Message
warning = plain Warning (codes "w")

-- an error
abbrev error : Message
error = plain Error (codes "e")

-- a fatal message
abbrev fatal : Message
fatal = plain Fatal (codes "f")

all_well : status_of quiet ≡ 0
all_well = refl

no_last_line : last_line quiet ≡ []
no_last_line = refl

one_warning : last_line (warning ∷ quiet) ≡ codes "(There was 1 warning)\n"
one_warning = refl

two_warnings : last_line (warning ∷ quiet ++ warning ∷ []) ≡ codes "(There were 2 warnings)\n"
unfolding digits
two_warnings = refl

-- Only errors are counted.
one_error : last_line (warning ∷ error ∷ warning ∷ []) ≡ codes "(There was 1 error message)\n"
one_error = refl

three_errors : last_line (error ∷ warning ∷ error ∷ error ∷ []) ≡ codes "(There were 3 error messages)\n"
unfolding digits
three_errors = refl

fatal_status : status_of (error ∷ fatal ∷ warning ∷ []) ≡ 3
fatal_status = refl

fatal_line : last_line (error ∷ fatal ∷ warning ∷ []) ≡ codes "(That was a fatal error)\n"
fatal_line = refl

whole_log : log_bytes (quiet ++ warning ∷ []) ≡ codes "The top-level auxiliary file: job.aux\nnote\nw\n(There was 1 warning)\n"
whole_log = refl

-- The line of the file is left out; the note and the last line stay.
terse_log : terse_bytes (quiet ++ warning ∷ []) ≡ codes "note\nw\n(There was 1 warning)\n"
terse_log = refl

-- The count of a function's calls is left out too, and doesn't affect the status.
terse_counts : terse_bytes (quiet ++ plain CallCount (codes "skip$ -- 3") ∷ []) ≡ codes "note\n"
terse_counts = refl

two_lines : lines_bytes (codes "a" ∷ [] ∷ []) ≡ codes "a\n\n"
two_lines = refl
