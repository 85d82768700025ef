-- The bound on how deep files nest is never reached.
use Rattle.std.specs.Prelude.{◌≡◌, ◌≤◌, ℕ, List, [], fold, length}
use Rattle.bt_job.specs.declared.files.File.{File}
use Rattle.bt_job.specs.Lines.{lines_of, with_line, job_lines}

-- All bounds that are at least the number of files give the same lines.
abbrev pub AnyDepthServes : Type 0
AnyDepthServes =
    (deep : ℕ) (files : List File) (root : List ℕ) → length files ≤ deep
    → fold (with_line files root deep) [] (lines_of files 0 root) ≡ job_lines files root
