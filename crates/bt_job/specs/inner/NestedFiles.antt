-- The state after the root file, with the lines of each nested file in its place, step by step as in the code.
use Rattle.std.specs.Prelude.{ℕ, zero, suc, ◌+◌, Bool, false, not, ◌==◌, ◌&&◌, List, [], ◌∷◌, length, codes, Option, Some, None, if◌then◌else◌}
use Rattle.std.specs.Option.{is_none}
use Rattle.bt_bib.specs.declared.aux_line.Command.TheVariants.{Nested}
use Rattle.bt_bib.specs.declared.aux_line.AuxItem.{AuxItem}
use Rattle.bt_job.specs.declared.files.File.{File}
use Rattle.bt_log.specs.declared.message.Rank.TheVariants.{Fatal}
use Rattle.bt_log.specs.declared.message.FileKind.TheVariants.{Aux}
use Rattle.bt_log.specs.declared.message.FileNote.TheVariants.{NotOpened}
use Rattle.bt_log.specs.Message.{of_file}
use Rattle.bt_job.specs.declared.progress.Progress.{Progress}
use Rattle.bt_job.specs.declared.citations.Citations.{Citations}
use Rattle.bt_job.specs.declared.progress.Outcome.{Outcome}
use Rattle.bt_job.specs.declared.progress.Outcome.TheVariants.{Taken, Wrong, Opens}
use Rattle.bt_bib.specs.AuxLine.{aux_lines}
use Rattle.bt_job.specs.FileNames.{text_of}
use Rattle.bt_job.specs.Citations.{file_line, told_missing}
use Rattle.bt_job.specs.inner.LineEffects.{told, logged_at, meeting, wanting, item_taken}

-- Files in their places

-- The state after a line: its error is reported, and if it opens a file, that file's lines are taken in its place.
abbrev pub in_place : (List ℕ → Progress → Progress) → List ℕ → ℕ → Progress × Outcome → Progress
in_place nested file line (r, Taken) = r
in_place nested file line (r, Wrong said) = logged_at file line said r
in_place nested file line (r, Opens name) = nested name r

-- the lines of a file that matter, in order
unfoldable pub lines_taken : (List ℕ → Progress → Progress) → List File → List ℕ → List AuxItem → Progress → Progress
lines_taken nested files file [] r = r
lines_taken nested files file (item ∷ items) r =
    lines_taken nested files file items (in_place nested file item.line (item_taken files item r))

-- a file that has this text
abbrev pub opened : (List ℕ → Progress → Progress) → List File → ℕ → List ℕ → Option (List ℕ) → Progress → Progress
opened nested files level file None r = r
opened nested files level file (Some text) r =
    lines_taken nested files file (aux_lines text) (told (file_line level file) r)

-- A file at this level below the root, with as many levels below it as the bound allows. The exact bound doesn't matter
-- if it exceeds the number of files that weren't met, since a file is opened at most once.
unfoldable pub file_taken : ℕ → List File → ℕ → List ℕ → Progress → Progress
file_taken zero files level file r = r
file_taken (suc bound) files level file r =
    opened (file_taken bound files (level + 1)) files level file (text_of files file) r

-- Whole runs

-- what is asked for before a file was read
abbrev pub nothing_met : Progress
nothing_met = record {
  keys = [];
  star = None;
  databases = [];
  style = None;
  log = [];
  wanted = [];
  met = [];
  citation_met = false;
  database_met = false;
  style_met = false;
}

-- with an error for something missing in the root's files
abbrev pub missing : List ℕ → List ℕ → Progress → Progress
missing what file r = told (told_missing file what) r

-- whether a list has no element
abbrev pub is_empty : {A : Type 0} → List A → Bool
is_empty xs = length xs == 0

-- the error for a command that wasn't met, else for one that named nothing
abbrev pub missing_one : Bool → Bool → List ℕ → List ℕ → List ℕ → Progress → Progress
missing_one met nothing command named file r =
    if not met then missing command file r
    else if nothing then missing named file r
    else r

-- the errors at the end of the root
unfoldable pub ended : List ℕ → Progress → Progress
ended file r =
    missing_one r.style_met (is_none r.style) (codes "\\bibstyle command") (codes "style file") file
    (missing_one r.database_met (is_empty r.databases) (codes "\\bibdata command") (codes "database files") file
    (missing_one r.citation_met (is_empty r.keys && is_none r.star) (codes "\\citation commands") (codes "cite keys")
    file r))

-- a root file that has this text
abbrev pub rooted : List File → List ℕ → Option (List ℕ) → Progress
rooted files file None = wanting file (told (of_file Fatal (NotOpened Aux) file) nothing_met)
rooted files file (Some text) =
    ended file (file_taken (length files + 1) files 0 file (meeting Nested file nothing_met))

-- what was asked for
abbrev pub asked_for : Progress → Citations
asked_for r =
    record { keys = r.keys; star = r.star; databases = r.databases; style = r.style; log = r.log; wanted = r.wanted }
