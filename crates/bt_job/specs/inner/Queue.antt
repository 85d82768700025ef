-- The lines of a job as the code reads them: a queue of the lines to come.
use Rattle.std.specs.Prelude.{◌≡◌, ◌≤◌, ℕ, zero, suc, ◌+◌, List, [], ◌∷◌, ◌++◌, length, sum_by, if◌then◌else◌}
use Rattle.bt_bib.specs.AuxLine.{aux_lines}
use Rattle.bt_job.specs.declared.files.File.{File}
use Rattle.bt_text.specs.NameList.{is_among}
use Rattle.bt_job.specs.Lines.{JobLine, lines_of, input_names, opened_by, job_lines}

-- Some lines, followed by the next ones, each with the lines of the file that it opens after it, and at most `bound`
-- lines more. The exact bound doesn't matter if it is large enough (AnyBoundServes).
unfoldable pub read_on : ℕ → List File → List ℕ → List JobLine → List JobLine → List JobLine
read_on zero files root before next = before
read_on (suc bound) files root before [] = before
read_on (suc bound) files root before (line ∷ later) =
    read_on bound files root (before ++ line ∷ []) (opened_by files root before line ++ later)

-- how many lines the files have
abbrev pub line_count : List File → ℕ
line_count files = sum_by (λ f. length (aux_lines f.text)) files

-- the same with a bound that is large enough, since no file is opened twice
abbrev pub read_all : List File → List ℕ → List JobLine → List JobLine → List JobLine
read_all files root before next = read_on (length next + line_count files) files root before next

-- how many lines the files have that no line has opened
abbrev pub unopened : List File → List (List ℕ) → ℕ
unopened [] names = 0
unopened (f ∷ fs) names = (if is_among names f.name then 0 else length (aux_lines f.text)) + unopened fs names

-- Laws

-- All bounds that are at least the number of lines that can still come give the same result.
abbrev pub AnyBoundServes : Type 0
AnyBoundServes =
    (m n : ℕ) (files : List File) (root : List ℕ) (before next : List JobLine)
    → length next + unopened files (root ∷ input_names before) ≤ m
    → length next + unopened files (root ∷ input_names before) ≤ n
    → read_on m files root before next ≡ read_on n files root before next

-- After a line come the lines of the file that it opens, then the others.
abbrev pub NestedInPlace : Type 0
NestedInPlace =
    (files : List File) (root : List ℕ) (before : List JobLine) (line : JobLine) (later : List JobLine)
    → read_all files root before (line ∷ later)
    ≡ read_all files root (before ++ line ∷ []) (opened_by files root before line ++ later)

-- Reading the queue to its end gives the lines of the job.
abbrev pub QueueIsNesting : Type 0
QueueIsNesting = (files : List File) (root : List ℕ) → read_all files root [] (lines_of files 0 root) ≡ job_lines files root
