-- Worked examples: what whole texts mean.
use Rattle.std.specs.Prelude.{codes}
use Rattle.std.proofs.Common.{◌≡◌, refl, ℕ, List, [], ◌∷◌, ◌++◌, length, None}
use Rattle.bt_job.specs.declared.files.File.{File}
use Rattle.bt_log.specs.declared.message.Message.{Message}
use Rattle.bt_log.specs.declared.message.Rank.TheVariants.{FileLine, Error}
use Rattle.bt_log.specs.declared.message.FileNote.TheVariants.{RootAux, StyleFile}
use Rattle.bt_log.specs.declared.message.Place.TheVariants.{Line}
use Rattle.bt_log.specs.Message.{plain, of_file, at}
use Rattle.bt_text.specs.LineBreaks.{near_break}
use Rattle.bt_text.specs.Widths.{widths}
use Rattle.bt_bib.specs.AuxLine.{aux_lines}
use Rattle.bt_bib.specs.Enclosure.{enclosed}
use Rattle.bt_bib.specs.Fields.{field, next_field}
use Rattle.bt_bib.specs.Many.{many}
use Rattle.bt_bib.specs.Names.{word, name_ended as bib_ended, name}
use Rattle.bt_bib.specs.Pieces.{opening, piece, next_piece}
use Rattle.bt_bib.specs.BibText.{pieces_of}
use Rattle.bt_bib.specs.Scan.{sign}
use Rattle.bt_bib.specs.Values.{part, next_part, value as bib_value}
use Rattle.bt_job.specs.Lines.{cited, line_fault, job_lines, with_line}
use Rattle.bt_job.specs.Citations.{citations}
use Rattle.bt_resolve.specs.Faults.{unclosed_entry, unclosed_command, fault_words}
use Rattle.bt_resolve.specs.Fields.{given_value}
use Rattle.bt_resolve.specs.Inherited.{values_after, is_left_out, final_crossref, entries_seen}
use Rattle.bt_resolve.specs.Listed.{listed}
use Rattle.bt_resolve.specs.Macros.{macro_before}
use Rattle.bt_resolve.specs.Messages.{stored_messages, item_messages}
use Rattle.bt_resolve.specs.References.{reference_messages, missing_messages, list_messages}
use Rattle.bt_resolve.specs.Resolved.{stored_entries, preamble, messages, resolved}
use Rattle.bt_resolve.specs.Stored.{stored_of, stored_among}
use Rattle.bt_resolve.specs.Values.{value as resolve_value, field_value, value_warnings}
use Rattle.bt_style.specs.Bodies.{body_at}
use Rattle.bt_style.specs.Builtins.{table}
use Rattle.bt_style.specs.Commands.{arguments_at, command_at}
use Rattle.bt_style.specs.Declares.{names_at}
use Rattle.bt_style.specs.Elements.{size_at, number_at, quoted_at, word_element}
use Rattle.bt_style.specs.Names.{builtin_named, target_named as style_meaning, macro_named}
use Rattle.bt_style.specs.Reader.{commands_at, reading, style_of}
use Rattle.bt_style.specs.Token.{literal_piece, piece_at, tokens_after}
use Rattle.bt_style.specs.Verbs.{all_verbs, verb_named}
use Rattle.bt_machine.specs.Eval.{eval_within}
use Rattle.bt_run.specs.Counts.{all_calls, counts_told}
use Rattle.bt_run.specs.Work.{total_cost}
use Rattle.bt_run.specs.Meaning.{Meaning, run_of, meaning, trace}
use Rattle.bt_run.specs.ReadCommand.{is_definition}
use Rattle.bt_run.specs.SortCommand.{put_among, sorted}
use Rattle.std.specs.Fmt.{digits}

-- what is shown, how many steps were carried out, and what they cost
abbrev Run : Type 0
Run = Meaning × ℕ × ℕ

-- what texts mean and the steps of their run, with all that it is computed by
unfoldable run : List File → ℕ → Run
unfolding near_break widths aux_lines enclosed field next_field many word bib_ended name opening piece next_piece pieces_of sign part next_part bib_value cited line_fault with_line job_lines citations unclosed_entry unclosed_command fault_words given_value values_after is_left_out final_crossref entries_seen listed macro_before stored_messages item_messages reference_messages missing_messages list_messages stored_entries preamble messages resolved stored_of stored_among resolve_value field_value value_warnings body_at table arguments_at command_at names_at size_at number_at quoted_at word_element builtin_named style_meaning macro_named commands_at reading style_of literal_piece piece_at tokens_after all_verbs verb_named eval_within all_calls counts_told run_of meaning trace is_definition put_among sorted digits
run files min = (meaning files (codes "job") min, length (trace files (codes "job") min), total_cost (trace files (codes "job") min))

abbrev file : List ℕ → List ℕ → File
file name text = record { name = name; text = text }

-- the texts of a root file, a style and a database
abbrev texts : List ℕ → List ℕ → List ℕ → List File
texts aux style database = file (codes "job.aux") aux ∷ file (codes "s.bst") style ∷ file (codes "x.bib") database ∷ []

-- a root file that cites these keys
abbrev cites : List ℕ → List ℕ
cites keys = codes "\\citation{" ++ keys ++ codes "}\n\\bibdata{x}\n\\bibstyle{s}\n"

-- a run without the lines of files and the counts of calls
record Seen : Type 0 where
  bbl : List ℕ
  terse : List ℕ
  status : ℕ
  steps : ℕ
  ticks : ℕ

abbrev seen : Run → Seen
seen (m, steps, ticks) = record { bbl = m.bbl; terse = m.terse; status = m.status; steps = steps; ticks = ticks }

-- with min-crossrefs, texts give these bytes of the bibliography and of the log, this status, and so many steps and ticks
abbrev Shows : List File → ℕ → List ℕ → List ℕ → ℕ → ℕ → ℕ → Type 0
Shows files min bbl terse status steps ticks =
    seen (run files min) ≡ record { bbl = bbl; terse = terse; status = status; steps = steps; ticks = ticks }

-- Whole logs

-- what is shown in bytes
record Written : Type 0 where
  bbl : List ℕ
  blg : List ℕ
  terse : List ℕ
  status : ℕ
  wanted : List (List ℕ)

abbrev written : Run → Written × ℕ × ℕ
written (m, steps, ticks) = (record { bbl = m.bbl; blg = m.blg; terse = m.terse; status = m.status; wanted = m.wanted }, steps, ticks)

no_files : written (run [] 2) ≡ (
  record {
    bbl = [];
    blg = codes "I couldn't open auxiliary file job.aux\n(That was a fatal error)\n";
    terse = codes "I couldn't open auxiliary file job.aux\n(That was a fatal error)\n";
    status = 3;
    wanted = codes "job.aux" ∷ [];
  },
  0,
  0,
)
unfolding run
no_files = refl

-- a style of one function, which writes the key
abbrev keys_style : List ℕ
keys_style = codes "ENTRY {}{}{}\nFUNCTION {misc} {}\nFUNCTION {f} {\"key \" write$ cite$ write$ newline$}\nREAD\nITERATE {f}\n"

two_citations : written (run (texts (cites (codes "b,a")) keys_style (codes "@misc{a}@misc{b}")) 2) ≡ (
  record {
    bbl = codes "key b\nkey a\n";
    blg = codes "The top-level auxiliary file: job.aux\nThe style file: s.bst\nDatabase file #1: x.bib\nThe built-in function-call counts, 8 in all, are:\n> -- 0\n< -- 0\n= -- 0\n+ -- 0\n- -- 0\n* -- 0\n:= -- 0\nadd.period$ -- 0\ncall.type$ -- 0\nchange.case$ -- 0\nchr.to.int$ -- 0\ncite$ -- 2\nduplicate$ -- 0\nempty$ -- 0\nformat.name$ -- 0\nif$ -- 0\nint.to.chr$ -- 0\nint.to.str$ -- 0\nmissing$ -- 0\nnewline$ -- 2\nnum.names$ -- 0\npop$ -- 0\npreamble$ -- 0\npurify$ -- 0\nquote$ -- 0\nskip$ -- 0\nstack$ -- 0\nsubstring$ -- 0\nswap$ -- 0\ntext.length$ -- 0\ntext.prefix$ -- 0\ntop$ -- 0\ntype$ -- 0\nwarning$ -- 0\nwhile$ -- 0\nwidth$ -- 0\nwrite$ -- 4\n";
    terse = [];
    status = 0;
    wanted = [];
  },
  2,
  12,
)
unfolding run
two_citations = refl

-- a name that isn't defined where it stands
abbrev faulty_texts : List File
faulty_texts = texts (cites (codes "a")) (codes "ENTRY {}{}{}\nFUNCTION {f} {g}\nFUNCTION {g} {skip$}\n") (codes "@misc{a}")

faulty_style : written (run faulty_texts 2) ≡ (
  record {
    bbl = [];
    blg = codes "The top-level auxiliary file: job.aux\nThe style file: s.bst\nThis name isn't defined---line 2 of file s.bst\n(There was 1 error message)\n";
    terse = codes "This name isn't defined---line 2 of file s.bst\n(There was 1 error message)\n";
    status = 2;
    wanted = [];
  },
  0,
  0,
)
unfolding run
faulty_style = refl

-- the same messages in their parts
abbrev in_parts : Run → List Message
in_parts (m, steps, ticks) = m.messages

faulty_style_messages : in_parts (run faulty_texts 2) ≡
    of_file FileLine RootAux (codes "job.aux")
    ∷ of_file FileLine StyleFile (codes "s.bst")
    ∷ at (Line (codes "s.bst") 2 None) (plain Error (codes "This name isn't defined"))
    ∷ []
unfolding run
faulty_style_messages = refl

-- the same functions in the other order
right_order : Shows (texts (cites (codes "a")) (codes "ENTRY {}{}{}\nFUNCTION {g} {skip$}\nFUNCTION {f} {g}\n") (codes "@misc{a}")) 2 [] [] 0 0 0
unfolding run
right_order = refl

-- a nested file, a database and a style that aren't there
missing_files : written (run (file (codes "job.aux") (codes "\\@input{n.aux}\n\\citation{a}\n\\bibdata{x}\n\\bibstyle{s}\n") ∷ []) 2) ≡ (
  record {
    bbl = [];
    blg = codes "The top-level auxiliary file: job.aux\nI couldn't open auxiliary file n.aux---line 1 of file job.aux\nI'm skipping whatever remains of this command\nI couldn't open database file x.bib---line 3 of file job.aux\nI'm skipping whatever remains of this command\nI couldn't open style file s.bst---line 4 of file job.aux\nI'm skipping whatever remains of this command\nI found no database files---while reading file job.aux\nI found no style file---while reading file job.aux\n(There were 5 error messages)\n";
    terse = codes "I couldn't open auxiliary file n.aux---line 1 of file job.aux\nI'm skipping whatever remains of this command\nI couldn't open database file x.bib---line 3 of file job.aux\nI'm skipping whatever remains of this command\nI couldn't open style file s.bst---line 4 of file job.aux\nI'm skipping whatever remains of this command\nI found no database files---while reading file job.aux\nI found no style file---while reading file job.aux\n(There were 5 error messages)\n";
    status = 2;
    wanted = codes "n.aux" ∷ codes "x.bib" ∷ codes "s.bst" ∷ [];
  },
  0,
  0,
)
unfolding run
missing_files = refl

-- Databases, under a style that writes the titles

abbrev titles_style : List ℕ
titles_style = codes "ENTRY {title}{}{}\nFUNCTION {misc} {title write$ newline$}\nREAD\nITERATE {call.type$}\n"

-- the texts where these keys are cited from this database
abbrev titles : List ℕ → List ℕ → List File
titles keys database = texts (cites keys) titles_style database

type_without_function : Shows (texts (cites (codes "a")) (codes "ENTRY {title}{}{}\nREAD\nFUNCTION {f} {cite$ write$ newline$}\nITERATE {f}\n") (codes "@misc{a}")) 2
    (codes "a\n") (codes "Warning--entry type for \"a\" isn't style-file defined\n--line 1 of file x.bib\n(There was 1 warning)\n") 1 1 4
unfolding run
type_without_function = refl

undefined_macro : Shows (titles (codes "a") (codes "@misc{a, title = {a  b\nc} # nix}")) 2
    (codes "a b c\n") (codes "Warning--string name \"nix\" is undefined\n--line 2 of file x.bib\n(There was 1 warning)\n") 1 1 4
unfolding run
undefined_macro = refl

-- an entry inside the braces of a comment is read
entry_in_comment : Shows (titles (codes "a") (codes "@comment{@misc{a, title = {T}}}")) 2 (codes "T\n") [] 0 1 4
unfolding run
entry_in_comment = refl

-- a quote inside braces doesn't end a value
parentheses : Shows (titles (codes "a") (codes "@misc(a, title = \"x {\"} y\",)")) 2 (codes "x {\"} y\n") [] 0 1 4
unfolding run
parentheses = refl

two_spellings : Shows (texts (codes "\\citation{Foo}\n\\citation{foo}\n\\bibdata{x}\n\\bibstyle{s}\n") titles_style (codes "@misc{foo, title = {T}}")) 2
    (codes "T\n") (codes "Case mismatch error between cite keys foo and Foo---line 2 of file job.aux\nI'm skipping whatever remains of this command\n(There was 1 error message)\n") 2 1 4
unfolding run
two_spellings = refl

repeated_entry : Shows (titles (codes "a") (codes "@misc{a, title = {A}}\n@misc{A, title = {B}}\n")) 2
    (codes "A\n") (codes "Repeated entry---line 2 of file x.bib\nI'm skipping whatever remains of this entry\n(There was 1 error message)\n") 2 1 4
unfolding run
repeated_entry = refl

all_entries : Shows (texts (codes "\\citation{b}\n\\citation{*}\n\\bibdata{x}\n\\bibstyle{s}\n") titles_style (codes "@misc{a, title = {A}}\n@misc{b, title = {B}}\n@misc{c, title = {C}}\n")) 2
    (codes "B\nA\nC\n") [] 0 3 12
unfolding run
all_entries = refl

-- a macro that is defined again between two entries
macro_again : Shows (titles (codes "a,b") (codes "@string{m = \"1\"}\n@misc{a, title = m}\n@string{M = \"2\"}\n@misc{b, title = m # { x}}\n")) 2 (codes "1\n2 x\n") [] 0 2 8
unfolding run
macro_again = refl

-- a macro in its own definition
macro_in_itself : Shows (titles (codes "a") (codes "@string{m = \"1\"}\n@string{m = m # \"x\"}\n@misc{a, title = m}\n")) 2
    (codes "x\n") (codes "Warning--string name \"m\" is used in its own definition\n--line 2 of file x.bib\n(There was 1 warning)\n") 1 1 4
unfolding run
macro_in_itself = refl

-- seventeen macros, each twice the one before: the last one is too long, and stands for the empty text
doubled_macros : Shows (titles (codes "a") (codes "@string{a = \"xx\"}\n@string{b = a # a}\n@string{c = b # b}\n@string{d = c # c}\n@string{e = d # d}\n@string{f = e # e}\n@string{g = f # f}\n@string{h = g # g}\n@string{i = h # h}\n@string{j = i # i}\n@string{k = j # j}\n@string{l = k # k}\n@string{m = l # l}\n@string{n = m # m}\n@string{o = n # n}\n@string{p = o # o}\n@string{q = p # p}\n@misc{a, title = q # {T}}\n")) 2
    (codes "T\n") (codes "Warning--the value of \"q\" is over 65536 bytes\n--line 17 of file x.bib\n(There was 1 warning)\n") 1 1 4
unfolding run
doubled_macros = refl

-- the closing brace of an entry is missing
no_closing_brace : Shows (titles (codes "a,b") (codes "@misc{a, title = {A}\n@misc{b, title = {B}}\n")) 2
    (codes "A\nB\n") (codes "I was expecting a `,' or a `}'---line 2 of file x.bib\nI'm skipping whatever remains of this entry\n(There was 1 error message)\n") 2 2 8
unfolding run
no_closing_brace = refl

-- the closing brace of a value is missing too
endless_value : Shows (titles (codes "a,b") (codes "@misc{a, title = {A\n@misc{b, title = {B}}\n")) 2
    (codes "\n") (codes "Illegal end of database file---line 3 of file x.bib\nI'm skipping whatever remains of this entry\nWarning--I didn't find a database entry for \"b\"\nwrite$ got a value of the wrong kind for entry a\nwhile executing---line 4 of file s.bst\n(There were 2 error messages)\n") 2 1 4
unfolding run
endless_value = refl

-- Cross references

-- a style that writes each title, and whether there is a cross reference
abbrev references_style : List ℕ
references_style = codes "ENTRY {title}{}{}\nFUNCTION {misc} {title write$ crossref missing$ int.to.str$ write$ newline$}\nREAD\nITERATE {call.type$}\n"

abbrev parent_and_children : List ℕ
parent_and_children = codes "@misc{a, crossref = {P}}\n@misc{p, title = {Parent}}\n@misc{b, crossref = {p}}\n"

-- an uncited parent of two cited entries is listed
both_cited : Shows (texts (cites (codes "a,b")) references_style parent_and_children) 2 (codes "Parent0\nParent0\nParent1\n") [] 0 3 24
unfolding run
both_cited = refl

-- of one it isn't, but for min-crossrefs 1
one_cited : Shows (texts (cites (codes "a")) references_style parent_and_children) 2 (codes "Parent1\n") [] 0 1 8
unfolding run
one_cited = refl

one_is_enough : Shows (texts (cites (codes "a")) references_style parent_and_children) 1 (codes "Parent0\nParent1\n") [] 0 2 16
unfolding run
one_is_enough = refl

abbrev keys_of_entries : List ℕ
keys_of_entries = codes "ENTRY {title}{}{}\nFUNCTION {misc} {}\nFUNCTION {f} {\"key \" write$ cite$ write$ newline$}\nREAD\nITERATE {f}\n"

abbrev chain : List ℕ
chain = codes "@misc{a, crossref = {b}}\n@misc{b, crossref = {c}}\n@misc{c, title = {T}}\n"

-- an entry whose parent has a parent too
nested_references : Shows (texts (cites (codes "a")) keys_of_entries chain) 1
    (codes "key a\nkey b\nkey c\n") (codes "Warning--you've nested cross references--entry \"a\"\nrefers to entry \"b\", which also refers to something\n(There was 1 warning)\n") 1 3 18
unfolding run
nested_references = refl

nested_alone : Shows (texts (cites (codes "a")) keys_of_entries chain) 2
    (codes "key a\n") (codes "Warning--you've nested cross references--entry \"a\"\nrefers to entry \"b\", which also refers to something\n(There was 1 warning)\n") 1 1 6
unfolding run
nested_alone = refl

parent_in_front : Shows (titles (codes "a") (codes "@misc{p, title = {T}}\n@misc{a, title = {U}, crossref = {p}}\n")) 2
    (codes "U\n") (codes "A bad cross reference---entry \"a\"\nrefers to entry \"p\", which doesn't exist\n(There was 1 error message)\n") 2 1 4
unfolding run
parent_in_front = refl

-- Steps

-- the held line goes from step to step
one_line : Shows (texts (cites (codes "a,b,c")) (codes "ENTRY {title}{}{}\nFUNCTION {misc} {title write$}\nREAD\nITERATE {call.type$}\nEXECUTE {newline$}\n") (codes "@misc{a, title = {A}}@misc{b, title = {B}}@misc{c, title = {C}}")) 2
    (codes "ABC\n") [] 0 4 10
unfolding run
one_line = refl

backwards : Shows (texts (cites (codes "b,a")) (codes "ENTRY {}{}{}\nFUNCTION {misc} {}\nFUNCTION {f} {\"key \" write$ cite$ write$ newline$}\nREAD\nREVERSE {f}\n") (codes "@misc{a}@misc{b}")) 2 (codes "key a\nkey b\n") [] 0 2 12
unfolding run
backwards = refl

-- sort keys in small letters, without braces
by_title : Shows (texts (cites (codes "a,b,c")) (codes "ENTRY {title}{}{}\nFUNCTION {misc} {title write$ newline$}\nFUNCTION {k} {title purify$ \"l\" change.case$ 'sort.key$ :=}\nREAD\nITERATE {k}\nSORT\nITERATE {call.type$}\n") (codes "@misc{a, title = {{b}}}@misc{b, title = {A}}@misc{c, title = {B}}")) 2
    (codes "A\n{b}\nB\n") [] 0 6 33
unfolding run
by_title = refl

-- a style that carries out a function of this body
abbrev executed : List ℕ → List File
executed body = texts (cites (codes "a")) (codes "FUNCTION {misc} {}\nFUNCTION {f} " ++ body ++ codes "\nENTRY {}{}{} READ\nEXECUTE {f}\n") (codes "@misc{a}")

-- errors of a step go on, each with the line of its command
no_entry_here : Shows (executed (codes "{cite$ write$ newline$ #1}")) 2
    (codes "\n") (codes "You can't mess with entries here\nwhile executing---line 4 of file s.bst\nThe literal stack isn't empty\nwhile executing---line 4 of file s.bst\n(There were 2 error messages)\n") 2 1 5
unfolding run
no_entry_here = refl

-- notes count as nothing
stack_told : Shows (executed (codes "{#1 \"t\" 'skip$ {} stack$}")) 2 [] (codes "`{}'\n`skip$'\nt\n1\n") 0 1 6
unfolding run
stack_told = refl

out_of_range : Shows (executed (codes "{#2147483647 #1 + int.to.str$ write$ newline$}")) 2
    (codes "0\n") (codes "The result of + is out of range\nwhile executing---line 4 of file s.bst\n(There was 1 error message)\n") 2 1 7
unfolding run
out_of_range = refl

-- a step without its field fails, and the next goes on
missing_title : Shows (titles (codes "a,b") (codes "@misc{a}\n@misc{b, title = {B}}\n")) 2
    (codes "\nB\n") (codes "write$ got a value of the wrong kind for entry a\nwhile executing---line 4 of file s.bst\n(There was 1 error message)\n") 2 2 8
unfolding run
missing_title = refl

-- a full stack stops the run: no later step is carried out
full_stack : Shows (executed (codes "{{#1} {#1} while$}")) 2
    [] (codes "The limit of 1000 stack values was passed\nwhile executing---line 4 of file s.bst\n(That was a fatal error)\n") 3 1 2005
unfolding run
full_stack = refl

-- a text over the limit stops it too
long_text : Shows (executed (codes "{\"a\" {#1} {duplicate$ *} while$}")) 2
    [] (codes "The limit of 65536 bytes was passed\nwhile executing---line 4 of file s.bst\n(That was a fatal error)\n") 3 1 56
unfolding run
long_text = refl
