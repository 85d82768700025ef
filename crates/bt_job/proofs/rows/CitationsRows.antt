-- Worked examples: what whole sessions ask for.
use Rattle.std.proofs.Common.{◌≡◌, ℕ, List, [], ◌∷◌, map, Option, Some, None, refl}
use Rattle.std.specs.Prelude.{codes}
use Rattle.std.specs.Fmt.{digits}
use Rattle.bt_job.specs.declared.files.File.{File}
use Rattle.bt_log.specs.declared.message.Rank.{Rank}
use Rattle.bt_log.specs.declared.message.Rank.TheVariants.{FileLine, Error, Fatal}
use Rattle.bt_log.specs.declared.message.FileKind.TheVariants.{Aux}
use Rattle.bt_log.specs.declared.message.FileNote.TheVariants.{RootAux, StyleFile, NotOpened, AuxTwice}
use Rattle.bt_log.specs.declared.message.Said.TheVariants.{OfFile}
use Rattle.bt_job.specs.declared.citations.Citations.{Citations}
use Rattle.bt_bib.specs.AuxLine.{aux_lines}
use Rattle.bt_log.specs.Message.{of_file}
use Rattle.bt_log.specs.Wording.{spelled}
use Rattle.bt_log.specs.Log.{status_of, log_bytes}
use Rattle.bt_job.specs.Lines.{cited, line_fault, with_line, job_lines}
use Rattle.bt_job.specs.Citations.{citations}

-- a file of this name and text
abbrev file : List ℕ → List ℕ → File
file name text = record { name = name; text = text }

-- an empty style and an empty database
abbrev others : List File
others = file (codes "s.bst") [] ∷ file (codes "x.bib") [] ∷ []

-- what job asks for, with some text of job.aux, and s.bst and x.bib
abbrev asked_by : List ℕ → Citations
asked_by text = citations (file (codes "job.aux") text ∷ others) (codes "job")

-- the messages of the log in words, with their ranks
abbrev log : Citations → List (Rank × List ℕ)
log r = map (λ m. (m.rank, spelled m)) r.log

-- the line of the root
abbrev top : Rank × List ℕ
top = (FileLine, codes "The top-level auxiliary file: job.aux")

-- the line of the style
abbrev style : Rank × List ℕ
style = (FileLine, codes "The style file: s.bst")

-- Without a root file.
no_root : citations [] (codes "job") ≡ record {
  keys = [];
  star = None;
  databases = [];
  style = None;
  log = of_file Fatal (NotOpened Aux) (codes "job.aux") ∷ [];
  wanted = codes "job.aux" ∷ [];
}
unfolding citations
no_root = refl

no_root_log : log_bytes (citations [] (codes "job")).log ≡ codes "I couldn't open auxiliary file job.aux\n(That was a fatal error)\n"
unfolding citations
no_root_log = refl

no_root_status : status_of (citations [] (codes "job")).log ≡ 3
unfolding citations
no_root_status = refl

-- A key in two spellings.

two_spellings : log (asked_by (codes "\\citation{Foo}\n\\citation{foo}\n\\bibdata{x}\n\\bibstyle{s}\n"))
    ≡ top
    ∷ (Error, codes "Case mismatch error between cite keys foo and Foo---line 2 of file job.aux\nI'm skipping whatever remains of this command")
    ∷ style ∷ []
unfolding digits aux_lines cited line_fault with_line job_lines citations
two_spellings = refl

first_spelling : (asked_by (codes "\\citation{Foo}\n\\citation{foo}\n\\bibdata{x}\n\\bibstyle{s}\n")).keys ≡ codes "Foo" ∷ []
unfolding digits aux_lines cited line_fault with_line job_lines citations
first_spelling = refl

two_spellings_bytes : log_bytes (asked_by (codes "\\citation{Foo}\n\\citation{foo}\n\\bibdata{x}\n\\bibstyle{s}\n")).log
    ≡ codes "The top-level auxiliary file: job.aux\nCase mismatch error between cite keys foo and Foo---line 2 of file job.aux\nI'm skipping whatever remains of this command\nThe style file: s.bst\n(There was 1 error message)\n"
unfolding digits aux_lines cited line_fault with_line job_lines citations
two_spellings_bytes = refl

-- what is asked for
abbrev asked : Citations → List (List ℕ) × Option ℕ × List (List ℕ) × Option (List ℕ) × List (List ℕ)
asked r = (r.keys, r.star, r.databases, r.style, r.wanted)

-- The lines of a nested file come in its place, between a and d; it nests a third one.
abbrev nested : Citations
nested = citations
    (file (codes "job.aux") (codes "\\citation{a}\n\\@input{n.aux}\n\\citation{d,A}\n\\bibstyle{s}\n")
    ∷ file (codes "m.aux") (codes "\\citation{c}\n\\bibdata{x}")
    ∷ file (codes "n.aux") (codes "\\citation{b}\n\\@input{m.aux}\n\\citation{*}")
    ∷ others)
    (codes "job")

nested_asks : asked nested ≡ (codes "a" ∷ codes "b" ∷ codes "c" ∷ codes "d" ∷ [], Some 3, codes "x.bib" ∷ [], Some (codes "s.bst"), [])
unfolding digits aux_lines cited line_fault with_line job_lines citations
nested_asks = refl

nested_log : log nested
    ≡ top
    ∷ (FileLine, codes "A level-1 auxiliary file: n.aux")
    ∷ (FileLine, codes "A level-2 auxiliary file: m.aux")
    ∷ (Error, codes "Case mismatch error between cite keys A and a---line 3 of file job.aux\nI'm skipping whatever remains of this command")
    ∷ style ∷ []
unfolding digits aux_lines cited line_fault with_line job_lines citations
nested_log = refl

-- A file that names itself, and one that is named twice.
names_itself : log (asked_by (codes "\\@input{job.aux}\n\\citation{a}\n\\bibdata{x}\n\\bibstyle{s}"))
    ≡ top
    ∷ (Error, codes "Already encountered file job.aux---line 1 of file job.aux\nI'm skipping whatever remains of this command")
    ∷ style ∷ []
unfolding digits aux_lines cited line_fault with_line job_lines citations
names_itself = refl

-- two files that name each other
abbrev ring : Citations
ring = citations (file (codes "job.aux") (codes "\\@input{n.aux}\n\\citation{a}") ∷ file (codes "n.aux") (codes "\\bibdata{x}\n\\@input{job.aux}\n\\bibstyle{s}") ∷ others) (codes "job")

ring_log : log ring
    ≡ top
    ∷ (FileLine, codes "A level-1 auxiliary file: n.aux")
    ∷ (Error, codes "Already encountered file job.aux---line 2 of file n.aux\nI'm skipping whatever remains of this command")
    ∷ style ∷ []
unfolding digits aux_lines cited line_fault with_line job_lines citations
ring_log = refl

-- A nested file that isn't there is met and wanted once; what follows is read.
abbrev gone : Citations
gone = asked_by (codes "\\citation{a}\n\\@input{n.aux}\n\\@input{n.aux}\n\\bibdata{x}\n\\bibstyle{s}\n")

gone_asks : asked gone ≡ (codes "a" ∷ [], None, codes "x.bib" ∷ [], Some (codes "s.bst"), codes "n.aux" ∷ [])
unfolding digits aux_lines cited line_fault with_line job_lines citations
gone_asks = refl

gone_log : log gone
    ≡ top
    ∷ (Error, codes "I couldn't open auxiliary file n.aux---line 2 of file job.aux\nI'm skipping whatever remains of this command")
    ∷ (Error, codes "Already encountered file n.aux---line 3 of file job.aux\nI'm skipping whatever remains of this command")
    ∷ style ∷ []
unfolding digits aux_lines cited line_fault with_line job_lines citations
gone_log = refl

-- The names of files stay apart from the words.
gone_said : map (λ m. m.said) gone.log
    ≡ OfFile RootAux (codes "job.aux")
    ∷ OfFile (NotOpened Aux) (codes "n.aux")
    ∷ OfFile AuxTwice (codes "n.aux")
    ∷ OfFile StyleFile (codes "s.bst") ∷ []
unfolding digits aux_lines cited line_fault with_line job_lines citations
gone_said = refl

-- A database that is named twice: the rest of the command isn't read.
abbrev twice : Citations
twice = asked_by (codes "\\citation{*}\n\\bibdata{x,x.bib,no}\n\\bibdata{y}\n\\bibstyle{s}\n")

twice_asks : asked twice ≡ ([], Some 0, codes "x.bib" ∷ [], Some (codes "s.bst"), [])
unfolding digits aux_lines cited line_fault with_line job_lines citations
twice_asks = refl

twice_log : log twice
    ≡ top
    ∷ (Error, codes "This database file appears more than once: x.bib---line 2 of file job.aux\nI'm skipping whatever remains of this command")
    ∷ (Error, codes "Illegal, another \\bibdata command---line 3 of file job.aux\nI'm skipping whatever remains of this command")
    ∷ style ∷ []
unfolding digits aux_lines cited line_fault with_line job_lines citations
twice_log = refl

-- Names outside the profile, wrong endings, names that aren't there; and what is missing at the end.
ill_named : log (asked_by (codes "\\@input{n.AUX}\n\\bibdata{no,x}\n\\bibstyle{a b}\n\\@input{a&b.aux}\n"))
    ≡ top
    ∷ (Error, codes "n.AUX has a wrong extension---line 1 of file job.aux\nI'm skipping whatever remains of this command")
    ∷ (Error, codes "I couldn't open database file no.bib---line 2 of file job.aux\nI'm skipping whatever remains of this command")
    ∷ (Error, codes "White space in argument---line 3 of file job.aux\nI'm skipping whatever remains of this command")
    ∷ (Error, codes "a&b.aux isn't a file name of this profile---line 4 of file job.aux\nI'm skipping whatever remains of this command")
    ∷ (Error, codes "I found no \\citation commands---while reading file job.aux")
    ∷ (Error, codes "I found no database files---while reading file job.aux")
    ∷ (Error, codes "I found no style file---while reading file job.aux")
    ∷ []
unfolding digits aux_lines cited line_fault with_line job_lines citations
ill_named = refl
