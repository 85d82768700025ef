-- No file is opened twice, so the bound on the lines doesn't matter, and the queue of lines gives the lines of the job.
use Rattle.std.specs.Prelude.{not, eqb, codes, flat_map, fold}
use Rattle.std.specs.List.{ends_with}
use Rattle.std.specs.Option.{is_some, option_or, option_map}
use Rattle.std.specs.Str.{bytes_eq}
use Rattle.std.proofs.lemmas.List.{length-map}
use Rattle.std.proofs.lemmas.List.Sums.{sum_by-cons}
use Rattle.std.proofs.Common.{◌≡◌, ℕ, zero, suc, ◌+◌, ◌≤◌, Bool, true, false, cond, List, [], ◌∷◌, ◌++◌, length, length-append, append_assoc, append-nil, Option, Some, None, refl, sym, ap, ◌∙◌, arith}
use Rattle.std.proofs.lemmas.Bool.{or_left, or_right}
use Rattle.bt_bib.specs.declared.aux_line.Command.{Command}
use Rattle.bt_bib.specs.declared.aux_line.Command.TheVariants.{Citation, Database, Style, Nested}
use Rattle.bt_bib.specs.declared.aux_argument.AuxFault.{AuxFault}
use Rattle.bt_bib.specs.AuxLine.{aux_lines}
use Rattle.bt_log.specs.declared.message.FileKind.TheVariants.{Aux}
use Rattle.bt_log.specs.declared.message.FileNote.TheVariants.{NotOpened, AuxTwice, WrongExtension, BadFileName}
use Rattle.bt_job.specs.declared.files.File.{File}
use Rattle.bt_text.specs.NameList.{is_among}
use Rattle.bt_job.specs.FileNames.{is_file_name, text_of}
use Rattle.bt_job.specs.Faults.{LineFault, WrongFile, IllEnded, input_fault, first_fault}
use Rattle.bt_job.specs.Lines.{JobLine, lines_of, has_command, input_names, line_fault, opened_by, job_lines, with_line}
use Rattle.bt_job.specs.inner.Queue.{read_on, line_count, unopened, read_all, AnyBoundServes, NestedInPlace, QueueIsNesting}
use Rattle.bt_job.specs.inner.Cases.{lines_in, lines_opened}
use Rattle.bt_job.proofs.NestLemmas.{IsQueue, Lowers, nested, nests}
use Rattle.bt_job.proofs.NameLemmas.{is_among-append, same_bytes, name_itself}
use Rattle.bt_job.proofs.PartLemmas.{first_wrong, first_more}
use Rattle.bt_job.proofs.LineLemmas.{line_at, same_inputs, more_inputs, fault_of_line}

-- The weight of the files that aren't among these names, where each weighs by its text
abbrev pub weight : (List ℕ → ℕ) → List File → List (List ℕ) → ℕ
weight weigh [] names = 0
weight weigh (f ∷ fs) names = cond (is_among names f.name) 0 (weigh f.text) + weight weigh fs names

-- the names of these are among those
abbrev Within : List (List ℕ) → List (List ℕ) → Type 0
Within names more = (n : List ℕ) → is_among names n ≡ true → is_among more n ≡ true

weight_here : (a b : Bool) (n : ℕ) → (a ≡ true → b ≡ true) → cond b 0 n ≤ cond a 0 n
weight_here true b n h = let is : b ≡ true = h refl in rw is (omega arith)
weight_here false true n h = omega arith
weight_here false false n h = omega arith

-- more names weigh no more
weight_more : (weigh : List ℕ → ℕ) (files : List File) (names more : List (List ℕ)) → Within names more → weight weigh files more ≤ weight weigh files names
weight_more weigh [] names more h = omega arith
weight_more weigh (f ∷ fs) names more h =
    let here : cond (is_among more f.name) 0 (weigh f.text) ≤ cond (is_among names f.name) 0 (weigh f.text) = weight_here (is_among names f.name) (is_among more f.name) (weigh f.text) (h f.name) in
    omega (arith, here, weight_more weigh fs names more h)

within_one : (names : List (List ℕ)) (name : List ℕ) → Within names (names ++ name ∷ [])
within_one names name n h = is_among-append names name n ∙ or_left (is_among names n) (bytes_eq name n) h

within_some : (names parts : List (List ℕ)) → Within names (names ++ parts)
within_some names [] n h = ap (λ ns. is_among ns n) (append-nil names) ∙ h
within_some names (p ∷ ps) n h =
    ap (λ ns. is_among ns n) (sym (append_assoc names (p ∷ []) ps))
    ∙ within_some (names ++ p ∷ []) ps n (within_one names p n h)

-- the file of a new name weighs no more afterwards
weight_opens_here : (b : Bool) (weigh : List ℕ → ℕ) (f : File) (fs : List File) (names : List (List ℕ)) (name t : List ℕ) → bytes_eq f.name name ≡ b → is_among names name ≡ false
    → cond b (Some f.text) (text_of fs name) ≡ Some t → (text_of fs name ≡ Some t → weight weigh fs (names ++ name ∷ []) + weigh t ≤ weight weigh fs names)
    → weight weigh (f ∷ fs) (names ++ name ∷ []) + weigh t ≤ weight weigh (f ∷ fs) names
weight_opens_here true weigh f fs names name t same new there later =
    let is = same_bytes f.name name same in
    let text : f.text ≡ t = ap (λ o. elim o as (λ x. List ℕ) [ None ↦ t | Some x ↦ x ]) there in
    let before : ◌≡◌ {A = ℕ} (cond (is_among names f.name) 0 (weigh f.text)) (weigh t) =
    ap (λ (n : List ℕ). cond (is_among names n) 0 (weigh f.text)) is ∙ ap (λ b. cond b 0 (weigh f.text)) new ∙ ap weigh text in
    let met : is_among (names ++ name ∷ []) name ≡ true = is_among-append names name name ∙ or_right (is_among names name) (bytes_eq name name) (name_itself name) in
    let now : ◌≡◌ {A = ℕ} (cond (is_among (names ++ name ∷ []) f.name) 0 (weigh f.text)) 0 =
    ap (λ (n : List ℕ). cond (is_among (names ++ name ∷ []) n) 0 (weigh f.text)) is ∙ ap (λ b. cond b 0 (weigh f.text)) met in
    omega (arith, before, now, weight_more weigh fs names (names ++ name ∷ []) (within_one names name))
weight_opens_here false weigh f fs names name t same new there later =
    let here : cond (is_among (names ++ name ∷ []) f.name) 0 (weigh f.text) ≤ cond (is_among names f.name) 0 (weigh f.text) =
    weight_here (is_among names f.name) (is_among (names ++ name ∷ []) f.name) (weigh f.text) (within_one names name f.name) in
    omega (arith, here, later there)

pub weight_opens : (weigh : List ℕ → ℕ) (files : List File) (names : List (List ℕ)) (name t : List ℕ) → is_among names name ≡ false → text_of files name ≡ Some t → weight weigh files (names ++ name ∷ []) + weigh t ≤ weight weigh files names
weight_opens weigh [] names name t new there = cc
weight_opens weigh (f ∷ fs) names name t new there = weight_opens_here (bytes_eq f.name name) weigh f fs names name t refl new there (weight_opens weigh fs names name t new)

-- no file weighs more than all
pub weight_all : (files : List File) (names : List (List ℕ)) → weight (λ t. 1) files names ≤ length files
weight_all [] names = omega arith
weight_all (f ∷ fs) names = let here : cond (is_among names f.name) 0 1 ≤ 1 = elim (is_among names f.name) as (λ b. cond b 0 1 ≤ 1) [ true ↦ omega arith | false ↦ omega arith ] in omega (arith, here, weight_all fs names)

-- Lines

abbrev pub count : List ℕ → ℕ
count text = length (aux_lines text)

pub unopened_is : (files : List File) (names : List (List ℕ)) → unopened files names ≡ weight count files names
unopened_is [] names = refl
unopened_is (f ∷ fs) names = ap (λ n. cond (is_among names f.name) 0 (count f.text) + n) (unopened_is fs names)

-- the names of all lines, with one more line
within_line : (root : List ℕ) (lines : List JobLine) (line : JobLine) → Within (root ∷ input_names lines) (root ∷ input_names (lines ++ line ∷ []))
within_line root lines line n h = go (has_command Nested line) refl
  where
    go : (b : Bool) → has_command Nested line ≡ b → is_among (root ∷ input_names (lines ++ line ∷ [])) n ≡ true
    go true e = ap (λ ns. is_among (root ∷ ns) n) (more_inputs lines line e) ∙ within_some (root ∷ input_names lines) line.item.parts n h
    go false e = ap (λ ns. is_among (root ∷ ns) n) (same_inputs lines line e) ∙ h

pub weight_line : (weigh : List ℕ → ℕ) (files : List File) (root : List ℕ) (lines : List JobLine) (line : JobLine) → weight weigh files (root ∷ input_names (lines ++ line ∷ [])) ≤ weight weigh files (root ∷ input_names lines)
weight_line weigh files root lines line = weight_more weigh files (root ∷ input_names lines) (root ∷ input_names (lines ++ line ∷ [])) (within_line root lines line)

-- a name without a fault is new, and its file is there
record IsNew (files : List File) (before : List (List ℕ)) (name : List ℕ) : Type 0 where
  text : List ℕ
  there : text_of files name ≡ Some text
  new : is_among before name ≡ false

new_by : (files : List File) (before : List (List ℕ)) (name : List ℕ) (e f a : Bool) (t : Option (List ℕ)) → is_among before name ≡ a → text_of files name ≡ t
    → cond (not e) (Some (WrongFile WrongExtension name)) (cond (not f) (Some (WrongFile BadFileName name)) (cond a (Some (WrongFile AuxTwice name)) (cond (not (is_some t)) (Some (WrongFile (NotOpened Aux) name)) None))) ≡ None → IsNew files before name
new_by files before name false f a t is_a is_t none = let wrong : true ≡ false = ap is_some none in cc
new_by files before name true false a t is_a is_t none = let wrong : true ≡ false = ap is_some none in cc
new_by files before name true true true t is_a is_t none = let wrong : true ≡ false = ap is_some none in cc
new_by files before name true true false None is_a is_t none = let wrong : true ≡ false = ap is_some none in cc
new_by files before name true true false (Some text) is_a is_t none = record { text = text; there = is_t; new = is_a }

pub length_lines : (files : List File) (level : ℕ) (name t : List ℕ) → text_of files name ≡ Some t → length (lines_of files level name) ≡ count t
length_lines files level name t there = ap (λ o. length (lines_in level name o)) there ∙ length-map (aux_lines t) (λ item. record { level = level; file = name; item = item })

pub no_or : (o p : Option LineFault) → option_or o p ≡ None → o ≡ None
no_or None p h = refl
no_or (Some f) p h = h

-- names without a fault open no more lines than were unopened
names_open : (files : List File) (level : ℕ) (parts before : List (List ℕ)) → first_fault (input_fault files) before parts ≡ None
    → length (flat_map (lines_of files level) parts) + weight count files (before ++ parts) ≤ weight count files before
names_open files level [] before none = let same : weight count files (before ++ []) ≡ weight count files before = ap (weight count files) (append-nil before) in omega (arith, same)
names_open files level (p ∷ ps) before none = go (input_fault files before p) refl (λ e. names_open files level ps (before ++ p ∷ []) (sym (first_more (input_fault files) before p ps e) ∙ none))
  where
    go : (o : Option LineFault) → input_fault files before p ≡ o
        → (input_fault files before p ≡ None → length (flat_map (lines_of files level) ps) + weight count files (before ++ p ∷ [] ++ ps) ≤ weight count files (before ++ p ∷ []))
        → length (flat_map (lines_of files level) (p ∷ ps)) + weight count files (before ++ p ∷ ps) ≤ weight count files before
    go None e later =
        let new = new_by files before p (ends_with eqb p (codes ".aux")) (is_file_name p) (is_among before p) (text_of files p) refl refl e in
        let opened : length (lines_of files level p) ≡ count new.text = length_lines files level p new.text new.there in
        let joined : length (flat_map (lines_of files level) (p ∷ ps)) ≡ length (lines_of files level p) + length (flat_map (lines_of files level) ps) = length-append (lines_of files level p) (flat_map (lines_of files level) ps) in
        let same : weight count files (before ++ p ∷ [] ++ ps) ≡ weight count files (before ++ p ∷ ps) = ap (weight count files) (append_assoc before (p ∷ []) ps) in
        omega (arith, opened, joined, same, later e, weight_opens count files before p new.text new.new new.there)
    go (Some f) e later = let wrong : Some f ≡ None = sym (first_wrong (input_fault files) before p ps f e) ∙ none in cc

-- a line opens no more lines than were unopened
line_opens : (files : List File) (root : List ℕ) (lines : List JobLine) (level : ℕ) (file : List ℕ) (n : ℕ) (c : Command) (parts : List (List ℕ)) (end : Option AuxFault) (o : Option LineFault)
    → (let line = line_at level file n c parts end in line_fault files root lines line ≡ o → length (lines_opened files line o) + weight count files (root ∷ input_names (lines ++ line ∷ [])) ≤ weight count files (root ∷ input_names lines))
line_opens files root lines level file n c parts end (Some f) e = omega (arith, weight_line count files root lines (line_at level file n c parts end))
line_opens files root lines level file n Citation parts end None e = omega (arith, weight_line count files root lines (line_at level file n Citation parts end))
line_opens files root lines level file n Database parts end None e = omega (arith, weight_line count files root lines (line_at level file n Database parts end))
line_opens files root lines level file n Style parts end None e = omega (arith, weight_line count files root lines (line_at level file n Style parts end))
line_opens files root lines level file n Nested parts end None e =
    let line = line_at level file n Nested parts end in
    let none : first_fault (input_fault files) (root ∷ input_names lines) parts ≡ None = no_or _ (option_map IllEnded end) (sym (fault_of_line files root lines line) ∙ e) in
    let same : weight count files (root ∷ input_names (lines ++ line ∷ [])) ≡ weight count files (root ∷ input_names lines ++ parts) = ap (λ ns. weight count files (root ∷ ns)) (more_inputs lines line refl) in
    omega (arith, same, names_open files (level + 1) parts (root ∷ input_names lines) none)

pub opens_fewer : (files : List File) (root : List ℕ) (lines : List JobLine) (line : JobLine)
    → length (opened_by files root lines line) + unopened files (root ∷ input_names (lines ++ line ∷ [])) ≤ unopened files (root ∷ input_names lines)
opens_fewer files root lines line =
    let fewer = line_opens files root lines line.level line.file line.item.line line.item.command line.item.parts line.item.fault (line_fault files root lines line) refl in
    omega (arith, fewer, unopened_is files (root ∷ input_names (lines ++ line ∷ [])), unopened_is files (root ∷ input_names lines))

-- Laws

pub read_end : (n : ℕ) (files : List File) (root : List ℕ) (before : List JobLine) → read_on n files root before [] ≡ before
unfolding read_on
read_end zero files root before = refl
read_end (suc n) files root before = refl

pub read_more : (n : ℕ) (files : List File) (root : List ℕ) (before : List JobLine) (line : JobLine) (later : List JobLine)
    → read_on (suc n) files root before (line ∷ later) ≡ read_on n files root (before ++ line ∷ []) (opened_by files root before line ++ later)
unfolding read_on
read_more n files root before line later = refl

-- the lines that can still come after one more
pub left_less : (files : List File) (root : List ℕ) (before : List JobLine) (line : JobLine) (later : List JobLine) (m : ℕ) → length (line ∷ later) + unopened files (root ∷ input_names before) ≤ suc m
    → length (opened_by files root before line ++ later) + unopened files (root ∷ input_names (before ++ line ∷ [])) ≤ m
left_less files root before line later m le =
    let one : length (line ∷ later) ≡ suc (length later) = refl in
    omega (arith, le, one, length-append (opened_by files root before line) later, opens_fewer files root before line)

-- all lines of all files
pub unopened_all : (files : List File) (names : List (List ℕ)) → unopened files names ≤ line_count files
unopened_all [] names = omega arith
unopened_all (f ∷ fs) names =
    let here : cond (is_among names f.name) 0 (count f.text) ≤ count f.text = elim (is_among names f.name) as (λ b. cond b 0 (count f.text) ≤ count f.text) [ true ↦ omega arith | false ↦ omega arith ] in
    omega (arith, here, unopened_all fs names, sum_by-cons (λ (g : File). count g.text) f fs)

pub any_bound_serves : AnyBoundServes
any_bound_serves m n files root before [] a b = read_end m files root before ∙ sym (read_end n files root before)
any_bound_serves zero n files root before (line ∷ later) a b = let one : length (line ∷ later) ≡ suc (length later) = refl in absurd (omega (arith, one, a))
any_bound_serves (suc m) zero files root before (line ∷ later) a b = let one : length (line ∷ later) ≡ suc (length later) = refl in absurd (omega (arith, one, b))
any_bound_serves (suc m) (suc n) files root before (line ∷ later) a b =
    read_more m files root before line later
    ∙ any_bound_serves m n files root (before ++ line ∷ []) (opened_by files root before line ++ later) (left_less files root before line later m a) (left_less files root before line later n b)
    ∙ sym (read_more n files root before line later)

pub nested_in_place : NestedInPlace
nested_in_place files root before line later =
    let all = line_count files in
    let one : length (line ∷ later) + all ≡ suc (length later + all) = let is : length (line ∷ later) ≡ suc (length later) = refl in omega (arith, is) in
    let behind = opened_by files root before line ++ later in
    let fits : length (line ∷ later) + unopened files (root ∷ input_names before) ≤ suc (length later + all) = omega (arith, one, unopened_all files (root ∷ input_names before)) in
    ap (λ n. read_on n files root before (line ∷ later)) one
    ∙ read_more (length later + all) files root before line later
    ∙ any_bound_serves (length later + all) (length behind + all) files root (before ++ line ∷ []) behind
    (left_less files root before line later (length later + all) fits)
    (omega (arith, unopened_all files (root ∷ input_names (before ++ line ∷ []))))

-- Nesting

abbrev one : List ℕ → ℕ
one text = 1

fewer_names : (files : List File) (before : List (List ℕ)) (p : List ℕ) (ps : List (List ℕ)) → first_fault (input_fault files) before (p ∷ ps) ≡ None
    → suc (weight one files (before ++ p ∷ ps)) ≤ weight one files before
fewer_names files before p ps none = go (input_fault files before p) refl
  where
    go : (o : Option LineFault) → input_fault files before p ≡ o → suc (weight one files (before ++ p ∷ ps)) ≤ weight one files before
    go None e =
        let new = new_by files before p (ends_with eqb p (codes ".aux")) (is_file_name p) (is_among before p) (text_of files p) refl refl e in
        let same : weight one files (before ++ p ∷ [] ++ ps) ≡ weight one files (before ++ p ∷ ps) = ap (weight one files) (append_assoc before (p ∷ []) ps) in
        omega (
          arith,
          same,
          weight_opens one files before p new.text new.new new.there,
          weight_more one files (before ++ p ∷ []) (before ++ p ∷ [] ++ ps) (within_some (before ++ p ∷ []) ps),
        )
    go (Some f) e = let wrong : Some f ≡ None = sym (first_wrong (input_fault files) before p ps f e) ∙ none in cc

line_lowers : (files : List File) (root : List ℕ) (lines : List JobLine) (level : ℕ) (file : List ℕ) (n : ℕ) (c : Command) (parts : List (List ℕ)) (end : Option AuxFault) (o : Option LineFault)
    → (let line = line_at level file n c parts end in line_fault files root lines line ≡ o → (first : JobLine) (others : List JobLine) → lines_opened files line o ≡ first ∷ others
    → suc (weight one files (root ∷ input_names (lines ++ line ∷ []))) ≤ weight one files (root ∷ input_names lines))
line_lowers files root lines level file n c parts end (Some f) e first others is = cc
line_lowers files root lines level file n Citation parts end None e first others is = cc
line_lowers files root lines level file n Database parts end None e first others is = cc
line_lowers files root lines level file n Style parts end None e first others is = cc
line_lowers files root lines level file n Nested [] end None e first others is = cc
line_lowers files root lines level file n Nested (p ∷ ps) end None e first others is =
    let line = line_at level file n Nested (p ∷ ps) end in
    let none : first_fault (input_fault files) (root ∷ input_names lines) (p ∷ ps) ≡ None = no_or _ (option_map IllEnded end) (sym (fault_of_line files root lines line) ∙ e) in
    let same : weight one files (root ∷ input_names (lines ++ line ∷ [])) ≡ weight one files (root ∷ input_names lines ++ p ∷ ps) = ap (λ ns. weight one files (root ∷ ns)) (more_inputs lines line refl) in
    omega (arith, same, fewer_names files (root ∷ input_names lines) p ps none)

abbrev room : List File → List ℕ → List JobLine → ℕ
room files root lines = weight one files (root ∷ input_names lines)

lowers : (files : List File) (root : List ℕ) → Lowers (opened_by files root) (room files root)
lowers files root = record {
  no_more = λ lines line. weight_line one files root lines line;
  fewer = λ lines line first others is.
      line_lowers files root lines line.level line.file line.item.line line.item.command line.item.parts line.item.fault (line_fault files root lines line) refl first others is;
}

is_queue : (files : List File) (root : List ℕ) → IsQueue (opened_by files root) (read_all files root)
is_queue files root = record {
  at_end = λ before. read_end (length {A = JobLine} [] + line_count files) files root before;
  in_place = nested_in_place files root;
}

with_line_is : (files : List File) (root : List ℕ) (deep : ℕ) → with_line files root deep ≡ nested (opened_by files root) deep
unfolding with_line nested
with_line_is files root zero = refl
with_line_is files root (suc deep) = λ i before line. fold (with_line_is files root deep i) (before ++ line ∷ []) (opened_by files root before line)

-- with a bound on the depth that is no smaller than the number of files
pub queue_at : (files : List File) (root : List ℕ) (deep : ℕ) → length files ≤ deep → read_all files root [] (lines_of files 0 root) ≡ fold (with_line files root deep) [] (lines_of files 0 root)
queue_at files root deep h =
    let first = lines_of files 0 root in
    let padded : read_all files root [] first ≡ read_all files root [] (first ++ []) = ap (read_all files root []) (sym (append-nil first)) in
    let all : ℕ → List JobLine = λ d. fold (nested (opened_by files root) d) [] first in
    let fits : room files root [] ≤ length files = weight_all files (root ∷ []) in
    padded
    ∙ nests (opened_by files root) (read_all files root) (room files root) (is_queue files root) (lowers files root) deep first [] [] (omega (arith, h, fits))
    ∙ (is_queue files root).at_end (all deep)
    ∙ sym (ap (λ step. fold step [] first) (with_line_is files root deep))

pub job_lines_queue : QueueIsNesting
unfolding job_lines
job_lines_queue files root = queue_at files root (length files) (omega arith)
