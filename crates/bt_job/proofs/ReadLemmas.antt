-- The code's steps through the files in their places, and the list of all lines.
use Rattle.std.proofs.Common.{◌≡◌, ℕ, zero, suc, ◌+◌, ◌<◌, ◌≤◌, List, [], ◌∷◌, ◌++◌, length, map, Some, refl, sym, ap, subst, ◌∙◌, arith}
use Rattle.bt_bib.specs.declared.aux_line.AuxItem.{AuxItem}
use Rattle.bt_bib.specs.AuxLine.{aux_lines}
use Rattle.bt_job.specs.declared.files.File.{File}
use Rattle.bt_job.specs.declared.progress.Progress.{Progress}
use Rattle.bt_job.specs.declared.progress.Outcome.{Outcome}
use Rattle.bt_job.specs.declared.progress.Outcome.TheVariants.{Taken, Wrong, Opens}
use Rattle.bt_job.specs.FileNames.{text_of}
use Rattle.bt_job.specs.Lines.{JobLine, input_names, opened_by}
use Rattle.bt_job.specs.inner.Queue.{read_on, unopened}
use Rattle.bt_job.specs.inner.Cases.{lines_in}
use Rattle.bt_job.specs.Citations.{file_line}
use Rattle.bt_job.specs.inner.LineEffects.{told, logged_at, item_taken}
use Rattle.bt_job.specs.inner.NestedFiles.{in_place, lines_taken, opened, file_taken}
use Rattle.bt_job.proofs.NestingLemmas.{line_cons, lines_nil, file_suc}
use Rattle.bt_job.proofs.LineLemmas.{Holds, Steps}
use Rattle.bt_job.proofs.FileStepLemmas.{line_steps}
use Rattle.bt_job.proofs.WholeLemmas.{AreParted, lines_parted}
use Rattle.bt_job.proofs.BoundLemmas.{weight, weight_line, weight_opens, read_more, left_less}

-- how many files no line has opened
abbrev pub closed : List File → List ℕ → List JobLine → ℕ
closed files root lines = weight (λ t. 1) files (root ∷ input_names lines)

-- how many lines can still come
abbrev pub to_come : List File → List ℕ → List JobLine → List JobLine → ℕ
to_come files root before next = length next + unopened files (root ∷ input_names before)

-- Reading some lines reaches the later ones after others, and what the code has then holds of these others.
pub record Reaches (files : List File) (root : List ℕ) (bound : ℕ) (before next later : List JobLine) (r : Progress) : Type 0 where
  pub lines : List JobLine
  pub left : ℕ
  pub same : read_on bound files root before next ≡ read_on left files root lines later
  pub holds : Holds files root lines r
  pub fits : to_come files root lines later ≤ left
  pub fewer : closed files root lines ≤ closed files root before

-- a nested file at this level
abbrev ReadsFile : List File → List ℕ → ℕ → ℕ → (List ℕ → Progress → Progress) → Type 0
ReadsFile files root files_left level nested =
    (name text : List ℕ) (before later : List JobLine) (r : Progress) (bound : ℕ) → text_of files name ≡ Some text → Holds files root before (told (file_line level name) r)
    → closed files root before < files_left → to_come files root before (lines_in level name (Some text) ++ later) ≤ bound
    → Reaches files root bound before (lines_in level name (Some text) ++ later) later (nested name r)

-- the lines of a file as lines of the job that count
abbrev of_file : ℕ → List ℕ → List AuxItem → List JobLine
of_file level file items = map (λ item. record { level = level; file = file; item = item }) items

-- one more step in front
reaches_more : (files : List File) (root : List ℕ) (bound : ℕ) (before : List JobLine) (line : JobLine) (next later : List JobLine) (r : Progress)
    → Reaches files root bound (before ++ line ∷ []) (opened_by files root before line ++ next) later r → Reaches files root (suc bound) before (line ∷ next) later r
reaches_more files root bound before line next later r h = record {
  lines = h.lines;
  left = h.left;
  same = read_more bound files root before line next ∙ h.same;
  holds = h.holds;
  fits = h.fits;
  fewer = omega (arith, h.fewer, weight_line (λ t. 1) files root before line);
}

-- a nested file, then the lines after it
reaches_then : (files : List File) (root : List ℕ) (bound : ℕ) (before next between later : List JobLine) (q r : Progress) (h : Reaches files root bound before next between q)
    → Reaches files root h.left h.lines between later r → Reaches files root bound before next later r
reaches_then files root bound before next between later q r h k = record {
  lines = k.lines;
  left = k.left;
  same = h.same ∙ k.same;
  holds = k.holds;
  fits = k.fits;
  fewer = omega (arith, h.fewer, k.fewer);
}

-- the result of the lines after a line
abbrev Later : List File → List ℕ → ℕ → (List ℕ → Progress → Progress) → ℕ → List ℕ → List AuxItem → List JobLine → Type 0
Later files root files_left nested level file items later =
    (before : List JobLine) (r : Progress) (bound : ℕ) → Holds files root before r → closed files root before ≤ files_left → to_come files root before (of_file level file items ++ later) ≤ bound
    → Reaches files root bound before (of_file level file items ++ later) later (lines_taken nested files file items r)

-- a line, given its outcome, and those after it
line_reaches : (files : List File) (root : List ℕ) (files_left : ℕ) (nested : List ℕ → Progress → Progress) (level : ℕ) (file : List ℕ) (item : AuxItem) (items : List AuxItem) (before later : List JobLine) (bound : ℕ) (x : Progress × Outcome)
    → ReadsFile files root files_left (level + 1) nested → Later files root files_left nested level file items later → closed files root before ≤ files_left
    → (let line : JobLine = record { level = level; file = file; item = item } in Steps files root before line x
    → to_come files root (before ++ line ∷ []) (opened_by files root before line ++ (of_file level file items ++ later)) ≤ bound
    → Reaches files root bound (before ++ line ∷ []) (opened_by files root before line ++ (of_file level file items ++ later)) later (lines_taken nested files file items (in_place nested file item.line x)))
line_reaches files root files_left nested level file item items before later bound (r, Taken) reads behind few steps fits =
    let line : JobLine = record { level = level; file = file; item = item } in
    subst (λ ls. to_come files root (before ++ line ∷ []) (ls ++ (of_file level file items ++ later)) ≤ bound → Reaches files root bound (before ++ line ∷ []) (ls ++ (of_file level file items ++ later)) later (lines_taken nested files file items r)) (sym steps.1)
    (behind (before ++ line ∷ []) r bound steps.0 (omega (arith, few, weight_line (λ t. 1) files root before line))) fits
line_reaches files root files_left nested level file item items before later bound (r, Wrong said) reads behind few steps fits =
    let line : JobLine = record { level = level; file = file; item = item } in
    subst (λ ls. to_come files root (before ++ line ∷ []) (ls ++ (of_file level file items ++ later)) ≤ bound → Reaches files root bound (before ++ line ∷ []) (ls ++ (of_file level file items ++ later)) later (lines_taken nested files file items (logged_at file item.line said r))) (sym steps.1)
    (behind (before ++ line ∷ []) (logged_at file item.line said r) bound steps.0 (omega (arith, few, weight_line (λ t. 1) files root before line))) fits
line_reaches files root files_left nested level file item items before later bound (r, Opens name) reads behind few steps fits =
    let line : JobLine = record { level = level; file = file; item = item } in
    let opens = steps.opens ∙ ap (lines_in (level + 1) name) steps.there in
    let names : closed files root (before ++ line ∷ []) ≡ weight (λ t. 1) files (root ∷ input_names before ++ name ∷ []) = ap (λ ns. weight (λ t. 1) files (root ∷ ns)) steps.more in
    let fewer : closed files root (before ++ line ∷ []) < files_left = omega (arith, few, names, weight_opens (λ t. 1) files (root ∷ input_names before) name steps.text steps.new steps.there) in
    subst (λ ls. to_come files root (before ++ line ∷ []) (ls ++ (of_file level file items ++ later)) ≤ bound → Reaches files root bound (before ++ line ∷ []) (ls ++ (of_file level file items ++ later)) later (lines_taken nested files file items (nested name r))) (sym opens)
    (λ enough.
    let h = reads name steps.text (before ++ line ∷ []) (of_file level file items ++ later) r bound steps.there steps.holds fewer enough in
    reaches_then files root bound (before ++ line ∷ []) _ (of_file level file items ++ later) later (nested name r) (lines_taken nested files file items (nested name r)) h
    (behind h.lines (nested name r) h.left h.holds (omega (arith, h.fewer, fewer)) h.fits))
    fits

-- the lines of a file
lines_reach : (files : List File) (root : List ℕ) (files_left : ℕ) (nested : List ℕ → Progress → Progress) (level : ℕ) (file : List ℕ) (items : List AuxItem) (later : List JobLine)
    → ReadsFile files root files_left (level + 1) nested → AreParted items → Later files root files_left nested level file items later
lines_reach files root files_left nested level file [] later reads parted before r bound holds few fits = record {
  lines = before;
  left = bound;
  same = refl;
  holds = subst (Holds files root before) (sym (lines_nil nested files file r)) holds;
  fits = fits;
  fewer = omega arith;
}
lines_reach files root files_left nested level file (item ∷ items) later reads parted before r zero holds few fits =
    let line : JobLine = record { level = level; file = file; item = item } in
    let one : length (line ∷ (of_file level file items ++ later)) ≡ suc (length (of_file level file items ++ later)) = refl in absurd (omega (arith, one, fits))
lines_reach files root files_left nested level file (item ∷ items) later reads parted before r (suc bound) holds few fits =
    let line : JobLine = record { level = level; file = file; item = item } in
    let behind = of_file level file items ++ later in
    reaches_more files root bound before line behind later (lines_taken nested files file (item ∷ items) r)
    (subst (Reaches files root bound (before ++ line ∷ []) (opened_by files root before line ++ behind) later) (sym (line_cons nested files file item items r))
    (line_reaches files root files_left nested level file item items before later bound (item_taken files item r) reads
    (lines_reach files root files_left nested level file items later reads parted.1) few (line_steps files root before r line holds parted.0)
    (left_less files root before line behind bound fits)))

-- a file, and those that it nests
pub file_reaches : (files_left : ℕ) (files : List File) (root : List ℕ) (level : ℕ) → ReadsFile files root files_left level (file_taken files_left files level)
file_reaches zero files root level name text before later r bound there holds few fits = absurd (omega (arith, few))
file_reaches (suc files_left) files root level name text before later r bound there holds few fits =
    let nested = file_taken files_left files (level + 1) in
    subst (Reaches files root bound before (lines_in level name (Some text) ++ later) later)
    (sym (file_suc files_left files level name r ∙ ap (λ t. opened nested files level name t r) there))
    (lines_reach files root files_left nested level name (aux_lines text) later (file_reaches files_left files root (level + 1)) (lines_parted text)
    before (told (file_line level name) r) bound holds (omega (arith, few)) fits)
