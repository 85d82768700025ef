-- What the .aux files ask for depends on which names have a file, and on the texts of .aux files.
use Rattle.std.proofs.Common.{◌≡◌, ◌∙◌, ap, refl, sym, ◌+◌, ℕ, zero, suc, Bool, true, false, cond, List, [], ◌∷◌, ◌++◌, length, Option, Some, None, arith}
use Rattle.std.specs.Prelude.{bytes_eq, if◌then◌else◌, not, eqb, codes, map, flat_map, slice_get}
use Rattle.std.specs.List.{ends_with}
use Rattle.std.specs.Option.{is_some, option_or, option_map}
use Rattle.bt_bib.specs.declared.aux_line.Command.{Command}
use Rattle.bt_bib.specs.declared.aux_line.Command.TheVariants.{Citation, Database, Style, Nested}
use Rattle.bt_bib.specs.declared.aux_argument.AuxFault.{AuxFault}
use Rattle.bt_bib.specs.AuxLine.{aux_lines}
use Rattle.bt_log.specs.declared.message.FileKind.TheVariants.{Aux, Bib, Bst}
use Rattle.bt_log.specs.declared.message.FileNote.TheVariants.{NotOpened, DatabaseTwice, AuxTwice, WrongExtension, BadFileName}
use Rattle.bt_log.specs.declared.message.Message.{Message}
use Rattle.bt_job.specs.declared.files.File.{File}
use Rattle.bt_job.specs.declared.citations.Citations.{Citations}
use Rattle.bt_text.specs.NameList.{is_among}
use Rattle.bt_job.specs.FileNames.{is_aux, is_file_name, text_of, each_once}
use Rattle.bt_job.specs.Faults.{LineFault, PartFault, WrongFile, IllEnded, database_fault, style_fault, input_fault, right_parts, first_fault}
use Rattle.bt_job.specs.Lines.{JobLine, lines_of, first_with, cited, database_names, style_names, input_names, unless_second, line_fault, opened_by, with_line, job_lines, line_parts}
use Rattle.bt_job.specs.inner.Cases.{command_fault, asked_from, lines_in, lines_opened}
use Rattle.bt_job.specs.inner.Queue.{read_on, line_count}
use Rattle.bt_job.specs.Citations.{keys_of, star_of, databases, styles, missed, along, line_messages, file_line, missing_of, asked_by, citations, told_missing}
use Rattle.bt_job.proofs.BoundLemmas.{no_or, any_bound_serves, job_lines_queue, read_end, read_more, unopened_all}
use Rattle.bt_job.specs.AuxOnly.{aux_only, AskAlike}
use Rattle.bt_job.proofs.EndingLemmas.{aux_ends}
use Rattle.bt_job.proofs.LineLemmas.{line_at, fault_of_line}
use Rattle.bt_job.proofs.NameLemmas.{same_bytes}
use Rattle.bt_job.proofs.PartLemmas.{first_wrong, first_more}

-- Parts

-- two tests of parts that find the same
abbrev FindSame : PartFault → PartFault → Type 0
FindSame f g = (before : List (List ℕ)) (part : List ℕ) → f before part ≡ g before part

database_same : (files others : List File) → AskAlike files others → FindSame (database_fault files) (database_fault others)
database_same files others same before name =
    ap (λ (there : Bool). if not (is_file_name name) then Some (WrongFile BadFileName name) else if is_among before name then Some (WrongFile DatabaseTwice name) else if not there then Some (WrongFile (NotOpened Bib) name) else None) (same.there name)

style_same : (files others : List File) → AskAlike files others → FindSame (style_fault files) (style_fault others)
style_same files others same before name =
    ap (λ (there : Bool). if not (is_file_name name) then Some (WrongFile BadFileName name) else if not there then Some (WrongFile (NotOpened Bst) name) else None) (same.there name)

input_same : (files others : List File) → AskAlike files others → FindSame (input_fault files) (input_fault others)
input_same files others same before name =
    ap (λ (there : Bool). if not (ends_with eqb name (codes ".aux")) then Some (WrongFile WrongExtension name) else if not (is_file_name name) then Some (WrongFile BadFileName name) else if is_among before name then Some (WrongFile AuxTwice name) else if not there then Some (WrongFile (NotOpened Aux) name) else None) (same.there name)

right_same : (f g : PartFault) → FindSame f g → (before parts : List (List ℕ)) → right_parts f before parts ≡ right_parts g before parts
right_same f g same before [] = refl
right_same f g same before (part ∷ parts) =
    ap (λ (o : Option LineFault). if is_some o then [] else part ∷ right_parts f (before ++ part ∷ []) parts) (same before part)
    ∙ ap (λ (rest : List (List ℕ)). if is_some (g before part) then [] else part ∷ rest) (right_same f g same (before ++ part ∷ []) parts)

first_same : (f g : PartFault) → FindSame f g → (before parts : List (List ℕ)) → first_fault f before parts ≡ first_fault g before parts
first_same f g same before [] = refl
first_same f g same before (part ∷ parts) =
    ap (λ (o : Option LineFault). if is_some o then o else first_fault f (before ++ part ∷ []) parts) (same before part)
    ∙ ap (λ (rest : Option LineFault). if is_some (g before part) then g before part else rest) (first_same f g same (before ++ part ∷ []) parts)

-- Lines

command_same : (files others : List File) → AskAlike files others → (root : List ℕ) (before : List JobLine) (c : Command) (parts : List (List ℕ)) (end : Option AuxFault) →
    command_fault files root before c parts end ≡ command_fault others root before c parts end
command_same files others same root before Citation parts end = refl
command_same files others same root before Database parts end =
    ap (λ (o : Option LineFault). unless_second (codes "\\bibdata") (first_with Database before) (option_or o (option_map IllEnded end)))
    (first_same (database_fault files) (database_fault others) (database_same files others same) [] (database_names parts))
command_same files others same root before Style parts end =
    ap (λ (o : Option LineFault). unless_second (codes "\\bibstyle") (first_with Style before) (option_or o (option_map IllEnded end)))
    (first_same (style_fault files) (style_fault others) (style_same files others same) [] (style_names parts))
command_same files others same root before Nested parts end =
    ap (λ (o : Option LineFault). option_or o (option_map IllEnded end))
    (first_same (input_fault files) (input_fault others) (input_same files others same) (root ∷ input_names before) parts)

fault_same : (files others : List File) → AskAlike files others → (root : List ℕ) (before : List JobLine) (line : JobLine) → line_fault files root before line ≡ line_fault others root before line
unfolding line_fault
fault_same files others same root before line = command_same files others same root before line.item.command line.item.parts line.item.fault

lines_same : (files others : List File) → AskAlike files others → (level : ℕ) (file : List ℕ) → is_aux file ≡ true → lines_of files level file ≡ lines_of others level file
lines_same files others same level file ends = ap (lines_in level file) (same.texts file ends)

no_fault_ends : (ends : Bool) (fault : LineFault) (later : Option LineFault) → cond (not ends) (Some fault) later ≡ None → ends ≡ true
no_fault_ends true fault later none = refl
no_fault_ends false fault later none = let wrong : true ≡ false = ap is_some none in cc

-- the lines of files whose names have no fault
all_lines_same : (files others : List File) → AskAlike files others → (level : ℕ) (before names : List (List ℕ)) → first_fault (input_fault files) before names ≡ None
    → flat_map (lines_of files level) names ≡ flat_map (lines_of others level) names
all_lines_same files others same level before [] none = refl
all_lines_same files others same level before (name ∷ names) none =
    go (input_fault files before name) refl (λ e. all_lines_same files others same level (before ++ name ∷ []) names (sym (first_more (input_fault files) before name names e) ∙ none))
  where
    go : (o : Option LineFault) → input_fault files before name ≡ o → (input_fault files before name ≡ None → flat_map (lines_of files level) names ≡ flat_map (lines_of others level) names)
        → flat_map (lines_of files level) (name ∷ names) ≡ flat_map (lines_of others level) (name ∷ names)
    go None e later =
        ap (λ (ls : List JobLine). ls ++ flat_map (lines_of files level) names) (lines_same files others same level name (no_fault_ends (is_aux name) _ _ e))
        ∙ ap (λ (rest : List JobLine). lines_of others level name ++ rest) (later e)
    go (Some f) e later = let wrong : Some f ≡ None = sym (first_wrong (input_fault files) before name names f e) ∙ none in cc

opens_same : (files others : List File) → AskAlike files others → (root : List ℕ) (lines : List JobLine) (level : ℕ) (file : List ℕ) (n : ℕ) (c : Command) (parts : List (List ℕ)) (end : Option AuxFault) (o : Option LineFault)
    → (let line = line_at level file n c parts end in line_fault files root lines line ≡ o → lines_opened files line o ≡ lines_opened others line o)
opens_same files others same root lines level file n c parts end (Some f) e = refl
opens_same files others same root lines level file n Citation parts end None e = refl
opens_same files others same root lines level file n Database parts end None e = refl
opens_same files others same root lines level file n Style parts end None e = refl
opens_same files others same root lines level file n Nested parts end None e =
    all_lines_same files others same (level + 1) (root ∷ input_names lines) parts
    (no_or _ (option_map IllEnded end) (sym (fault_of_line files root lines (line_at level file n Nested parts end)) ∙ e))

opened_same : (files others : List File) → AskAlike files others → (root : List ℕ) (before : List JobLine) (line : JobLine) → opened_by files root before line ≡ opened_by others root before line
opened_same files others same root before line =
    opens_same files others same root before line.level line.file line.item.line line.item.command line.item.parts line.item.fault (line_fault files root before line) refl
    ∙ ap (lines_opened others line) (fault_same files others same root before line)

-- All lines

none_read : (files : List File) (root : List ℕ) (before next : List JobLine) → read_on zero files root before next ≡ before
unfolding read_on
none_read files root before next = refl

read_same : (bound : ℕ) (files others : List File) → AskAlike files others → (root : List ℕ) (before next : List JobLine) → read_on bound files root before next ≡ read_on bound others root before next
read_same bound files others same root before [] = read_end bound files root before ∙ sym (read_end bound others root before)
read_same zero files others same root before (line ∷ later) = none_read files root before (line ∷ later) ∙ sym (none_read others root before (line ∷ later))
read_same (suc bound) files others same root before (line ∷ later) =
    read_more bound files root before line later
    ∙ ap (λ (ls : List JobLine). read_on bound files root (before ++ line ∷ []) (ls ++ later)) (opened_same files others same root before line)
    ∙ read_same bound files others same root (before ++ line ∷ []) (opened_by others root before line ++ later)
    ∙ sym (read_more bound others root before line later)

job_lines_same : (files others : List File) → AskAlike files others → (root : List ℕ) → is_aux root ≡ true → job_lines files root ≡ job_lines others root
job_lines_same files others same root ends =
    let next = lines_of files 0 root in
    let also = lines_of others 0 root in
    let both = length next + length also + line_count files + line_count others in
    sym (job_lines_queue files root)
    ∙ any_bound_serves (length next + line_count files) both files root [] next (omega (arith, unopened_all files (root ∷ input_names []))) (omega (arith, unopened_all files (root ∷ input_names [])))
    ∙ read_same both files others same root [] next
    ∙ ap (read_on both others root []) (lines_same files others same 0 root ends)
    ∙ any_bound_serves both (length also + line_count others) others root [] also (omega (arith, unopened_all others (root ∷ input_names []))) (omega (arith, unopened_all others (root ∷ input_names [])))
    ∙ job_lines_queue others root

-- What they ask for

along_same : {A : Type 0} (f g : List JobLine → JobLine → List A) → ((before : List JobLine) (line : JobLine) → f before line ≡ g before line) → (before lines : List JobLine) → along f before lines ≡ along g before lines
along_same f g same before [] = refl
along_same f g same before (line ∷ lines) =
    ap (λ x. x ++ along f (before ++ line ∷ []) lines) (same before line)
    ∙ ap (λ rest. g before line ++ rest) (along_same f g same (before ++ line ∷ []) lines)

-- what lines ask for, by what is found of them
abbrev asked : List ℕ → List JobLine → List (List ℕ) → List (List ℕ) → List Message → List (List ℕ) → Citations
asked root lines names style news missing = record {
  keys = keys_of (cited lines);
  star = star_of (cited lines);
  databases = names;
  style = slice_get style 0;
  log = (file_line 0 root ∷ news) ++ map (told_missing root)
      (missing_of (first_with Citation lines) (cited lines) (codes "\\citation commands") (codes "cite keys")
      ++ missing_of (first_with Database lines) names (codes "\\bibdata command") (codes "database files")
      ++ missing_of (first_with Style lines) style (codes "\\bibstyle command") (codes "style file"));
  wanted = each_once missing;
}

asked_same : (files others : List File) → AskAlike files others → (root : List ℕ) (lines : List JobLine) → asked_by files root lines ≡ asked_by others root lines
asked_same files others same root lines =
    let news = λ (fs : List File). along (λ before line. line_messages line (line_fault fs root before line)) [] lines in
    let missing = λ (fs : List File). along (λ before line. missed (line_fault fs root before line)) [] lines in
    ap (λ names. asked root lines names (styles files lines) (news files) (missing files))
    (right_same (database_fault files) (database_fault others) (database_same files others same) [] (database_names (line_parts (first_with Database lines))))
    ∙ ap (λ style. asked root lines (databases others lines) style (news files) (missing files))
    (right_same (style_fault files) (style_fault others) (style_same files others same) [] (style_names (line_parts (first_with Style lines))))
    ∙ ap (λ ms. asked root lines (databases others lines) (styles others lines) ms (missing files))
    (along_same _ _ (λ before line. ap (line_messages line) (fault_same files others same root before line)) [] lines)
    ∙ ap (λ ns. asked root lines (databases others lines) (styles others lines) (news others) ns)
    (along_same _ _ (λ before line. ap missed (fault_same files others same root before line)) [] lines)

asked_from_same : (files others : List File) → AskAlike files others → (root : List ℕ) → is_aux root ≡ true → (o : Option (List ℕ)) → asked_from files root o ≡ asked_from others root o
asked_from_same files others same root ends None = refl
asked_from_same files others same root ends (Some text) =
    ap (asked_by files root) (job_lines_same files others same root ends) ∙ asked_same files others same root (job_lines others root)

pub cited_alike : (files others : List File) (root : List ℕ) → AskAlike files others → citations files root ≡ citations others root
unfolding citations
cited_alike files others root same =
    let file = root ++ codes ".aux" in
    ap (asked_from files file) (same.texts file (aux_ends root)) ∙ asked_from_same files others same file (aux_ends root) (text_of others file)

-- Files without the texts of others

there_only : (files : List File) (name : List ℕ) → is_some (text_of files name) ≡ is_some (text_of (map aux_only files) name)
there_only [] name = refl
there_only (f ∷ fs) name = go (bytes_eq f.name name) (there_only fs name)
  where
    go : (b : Bool) → is_some (text_of fs name) ≡ is_some (text_of (map aux_only fs) name)
        → is_some (cond b (Some f.text) (text_of fs name)) ≡ is_some (cond b (Some (aux_only f).text) (text_of (map aux_only fs) name))
    go true later = refl
    go false later = later

texts_only : (files : List File) (name : List ℕ) → is_aux name ≡ true → text_of files name ≡ text_of (map aux_only files) name
texts_only [] name ends = refl
texts_only (f ∷ fs) name ends = go (bytes_eq f.name name) refl (texts_only fs name ends)
  where
    go : (b : Bool) → bytes_eq f.name name ≡ b → text_of fs name ≡ text_of (map aux_only fs) name
        → cond b (Some f.text) (text_of fs name) ≡ cond b (Some (aux_only f).text) (text_of (map aux_only fs) name)
    go true e later = ap (λ b. Some (cond b f.text [])) (sym (ap is_aux (same_bytes f.name name e) ∙ ends))
    go false e later = later

pub asked_by_aux_only : (files : List File) (root : List ℕ) → citations files root ≡ citations (map aux_only files) root
asked_by_aux_only files root = cited_alike files (map aux_only files) root (record { there = there_only files; texts = texts_only files })

-- what is kept of files asks for the same
pub kept_asks : (files kept : List File) (root name : List ℕ) (asked : Citations) → asked ≡ citations files root → kept ≡ map aux_only files → name ≡ root → asked ≡ citations kept name
kept_asks files kept root name asked is are named = is ∙ asked_by_aux_only files root ∙ (λ j. citations (sym are j) (sym named j))

-- and so do files of which the same is kept
pub still_asked : (files kept : List File) (root name : List ℕ) (asked : Citations) → asked ≡ citations kept name → map aux_only files ≡ kept → root ≡ name → asked ≡ citations files root
still_asked files kept root name asked is are named = is ∙ (λ j. citations (sym are j) (sym named j)) ∙ sym (asked_by_aux_only files root)

-- An example: a root and a style, in either order.

root : File
root = record { name = codes "job.aux"; text = codes "\\bibstyle{s}\n\\citation{a}\n\\bibdata{x}" }

style : File
style = record { name = codes "s.bst"; text = [] }

in_either_order : citations (root ∷ style ∷ []) (codes "job") ≡ citations (style ∷ root ∷ []) (codes "job")
unfolding root style aux_lines citations job_lines with_line line_fault cited
in_either_order = refl

its_style : (citations (style ∷ root ∷ []) (codes "job")).style ≡ Some (codes "s.bst")
unfolding root style aux_lines citations job_lines with_line line_fault cited
its_style = refl
