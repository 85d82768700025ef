-- An edit of which the style sees nothing: the run after it is the run before it.
use Rattle.std.specs.Prelude.{◌==◌, Bool, true, false, not, bytes_eq, slice_get, slice_index_or, slice_set, ◌||◌, if◌then◌else◌}
use Rattle.std.specs.List.{list_any}
use Rattle.std.specs.Option.{ForSome}
use Rattle.std.proofs.Common.{◌≡◌, ◌∙◌, ap, sym, refl, subst, inl, inr, ℕ, zero, suc, ◌+◌, ◌-◌, ◌<◌, ◌≤◌, List, [], ◌∷◌, ◌++◌, length, map, Option, Some, None, Ok, arith}
use Rattle.std.proofs.lemmas.Bool.{cases_lt}
use Rattle.std.proofs.lemmas.Bool.Decides.{nat_tests}
use Rattle.std.proofs.lemmas.List.{append_assoc}
use Rattle.std.proofs.lemmas.Slice.Eq.{bytes_eq-Decides}
use Rattle.std.proofs.lemmas.Option.{slice_get_past}
use Rattle.bt_style.specs.declared.style.Action.{Action}
use Rattle.bt_style.specs.declared.style.Action.TheVariants.{Entry, Execute, Function, Integers, Iterate, Macro, Read, Reverse, Sort, Strings}
use Rattle.bt_style.specs.declared.style.Command.{Command}
use Rattle.bt_style.specs.Program.{Program}
use Rattle.bt_style.specs.Reader.{style_of}
use Rattle.bt_bib.specs.BibText.{pieces_of}
use Rattle.bt_bib.specs.declared.placed_pieces.PlacedPiece.{PlacedPiece}
use Rattle.bt_job.specs.declared.citations.Citations.{Citations}
use Rattle.bt_job.specs.declared.files.File.{File}
use Rattle.bt_job.specs.Citations.{citations}
use Rattle.bt_resolve.specs.declared.declared.Declared.{Declared}
use Rattle.bt_resolve.specs.declared.entry.Resolved.{Resolved}
use Rattle.bt_resolve.specs.declared.kept.ResolvedEdit.{ResolvedEdit}
use Rattle.bt_resolve.specs.declared.question.Question.{Question}
use Rattle.bt_resolve.specs.declared.seen_edit.SeenEdit.{SeenEdit}
use Rattle.bt_resolve.specs.declared.seen_edit.SeenEdit.TheVariants.{Same}
use Rattle.bt_resolve.specs.inner.Kept.{IsResolvedEdit, resolved_for, with_database, with_seen}
use Rattle.bt_run.specs.declared.change.Change.{Change}
use Rattle.bt_run.specs.declared.answers.Report.{Report}
use Rattle.bt_run.specs.declared.answers.Run.{Run}
use Rattle.bt_run.specs.declared.course.Step.{Step}
use Rattle.bt_run.specs.declared.database_edit.DatabaseEdit.{DatabaseEdit}
use Rattle.bt_run.specs.declared.kept_resolution.KeptResolution.{KeptResolution}
use Rattle.bt_run.specs.Commands.{carried_out, commands_from}
use Rattle.bt_run.specs.Counts.{calls_at, counts_told}
use Rattle.bt_run.specs.Course.{Recorded}
use Rattle.bt_run.specs.Kept.{named_text, report_after, style_text}
use Rattle.bt_run.specs.Meaning.{Meaning, first_globals, meaning, run_begun, run_of, style_run, trace}
use Rattle.bt_run.specs.ReadCommand.{Job, found_for, read}
use Rattle.bt_run.specs.Steps.{styled_work, work_after}
use Rattle.bt_run.specs.Work.{agrees_with, total_cost, was_done, work_under}
use Rattle.bt_run.specs.inner.Asked.{question_for, with_databases}
use Rattle.bt_run.specs.inner.Cases.{job_for, read_in, run_with, styled, text_in, unless_stopped}
use Rattle.bt_run.specs.inner.Steps.{run_shown}
use Rattle.bt_run.specs.inner.Change.{AreAsked, DeclaresAt, IsAskedOf, IsOnlyAt, IsStyledBy}
use Rattle.bt_run.specs.inner.Unseen.{AreFilesOf, AreOtherwise, FindTheSame, IsRunOf, IsSameRun, IsUnseen}
use Rattle.bt_run.proofs.AnswerLemmas.{kept_text, meant}
use Rattle.bt_run.proofs.FindingLemmas.{maps, put_texts, resolved_is, texts_kept}
use Rattle.bt_run.proofs.WorkLemmas.{same_itself}

-- ---- commands

abbrev app : List Step → Step → List Step
app steps s = steps ++ s ∷ []

plain : (n : ℕ) → n + 0 ≡ n
plain n = omega arith

onwards : (n k : ℕ) → n + suc k ≡ suc n + k
onwards n k = omega arith

from_0 : (k : ℕ) → k ≡ 0 + k
from_0 k = omega arith

next_is : (k n : ℕ) → k < n + 1 → n ≤ k → n ≡ k
next_is k n lt le = omega (arith, lt, le)

module _ (files : List File) (job : Job) where
  abbrev other : Job
  other = record job { files = files }

  carried_same : (n line : ℕ) (a : Action) (r : Recorded (List Step)) → (a ≡ Read → found_for other n ≡ found_for job n) → carried_out app other n line a r ≡ carried_out app job n line a r
  carried_same n line Entry r h = refl
  carried_same n line (Execute t) r h = refl
  carried_same n line (Function k) r h = refl
  carried_same n line Integers r h = refl
  carried_same n line (Iterate t) r h = refl
  carried_same n line (Macro k) r h = refl
  carried_same n line Read r h = ap (λ (found : Resolved). record r { course = read_in job.program job.databases found r.course }) (h refl)
  carried_same n line (Reverse t) r h = refl
  carried_same n line Sort r h = refl
  carried_same n line Strings r h = refl

  pub commands_same : (n : ℕ) (cs : List Command) (r : Recorded (List Step)) → ((k line : ℕ) → slice_get cs k ≡ Some (record { action = Read; line = line }) → found_for other (n + k) ≡ found_for job (n + k)) → commands_from app other n cs r ≡ commands_from app job n cs r
  commands_same n [] r h = refl
  commands_same n (c ∷ cs) r h =
      let here : c.action ≡ Read → found_for other n ≡ found_for job n =
      λ is. subst (λ (k : ℕ). found_for other k ≡ found_for job k) (plain n) (h 0 c.line (λ j. Some (record { action = is j; line = c.line })))
      in
      let later : (k line : ℕ) → slice_get cs k ≡ Some (record { action = Read; line = line }) → found_for other (suc n + k) ≡ found_for job (suc n + k) =
      λ k line is. subst (λ (m : ℕ). found_for other m ≡ found_for job m) (onwards n k) (h (suc k) line is)
      in
      commands_same (suc n) cs (unless_stopped r.course.stopped r (carried_out app other n c.line c.action r)) later
      ∙ ap (λ s. commands_from app job (suc n) cs (unless_stopped r.course.stopped r s)) (carried_same n c.line c.action r here)

-- ---- the run

abbrev finds : List File → List File → Citations → ℕ → List ℕ → Program → Type 0
finds was files c min name p = FindTheSame files (job_for was c min name p)

styles_same : (was files : List File) (c : Citations) (min : ℕ) (name : List ℕ) (p : Program) → finds was files c min name p → style_run (job_for files c min name p) c.log ≡ style_run (job_for was c min name p) c.log
styles_same was files c min name p h =
    ap (λ (r : Recorded (List Step)). record r { course = record r.course { log = r.course.log ++ counts_told (calls_at r.seen) } })
    (commands_same files (job_for was c min name p) 0 p.commands (run_begun (first_globals p) c.log)
    (λ k line is. subst (λ (m : ℕ). found_for (job_for files c min name p) m ≡ found_for (job_for was c min name p) m) (from_0 k) (h k line is)))

runs_same : (was files : List File) (c : Citations) (min : ℕ) (name : List ℕ) (p : Program) → c.style ≡ Some name → IsStyledBy was files name p → finds was files c min name p → run_with files c min c.style ≡ run_with was c min c.style
runs_same was files c min name p named styles h =
    ap (run_with files c min) named
    ∙ ap (styled files c min name) styles.read
    ∙ styles_same was files c min name p h
    ∙ sym (ap (styled was c min name) (ap style_of (sym styles.same) ∙ styles.read))
    ∙ sym (ap (run_with was c min) named)

traced : (files : List File) (root : List ℕ) (min : ℕ) (c : Citations) → c ≡ citations files root → (run_with files c min c.style).seen ≡ trace files root min
unfolding trace run_of
traced files root min c is = ap (λ (d : Citations). (run_with files d min d.style).seen) is

same_run : (was files : List File) (root : List ℕ) (min : ℕ) (c : Citations) (name : List ℕ) (p : Program) → c ≡ citations files root → c ≡ citations was root → c.style ≡ Some name → IsStyledBy was files name p → finds was files c min name p → IsSameRun was files root min
same_run was files root min c name p is_cited was_cited named styles h =
    let same = runs_same was files c min name p named styles h in
    let shows : (fs : List File) → c ≡ citations fs root → run_shown (run_with fs c min c.style) c.wanted ≡ meaning fs root min =
    λ fs is. meant fs root min c (run_with fs c min c.style) c.wanted (run_shown (run_with fs c min c.style) c.wanted) refl refl refl is
    in
    let texts : (fs : List File) → c ≡ citations fs root → Some (text_in fs name) ≡ style_text fs root =
    λ fs is. kept_text fs root c (Some (text_in fs name)) (sym (ap (named_text fs) named)) is
    in
    record {
      shown = sym (shows files is_cited) ∙ ap (λ (r : Recorded (List Step)). run_shown r c.wanted) same ∙ shows was was_cited;
      steps = sym (traced files root min c is_cited) ∙ ap (λ (r : Recorded (List Step)). r.seen) same ∙ traced was root min c was_cited;
      text = sym (texts files is_cited) ∙ ap (λ (t : List ℕ). Some t) styles.same ∙ texts was was_cited;
      own = text_in files name;
      program = p;
      named = sym (texts files is_cited);
      read = styles.read;
    }

-- ---- what is asked

pub question_is : (fs : List File) (c : Citations) (min : ℕ) (name : List ℕ) (p : Program) (q r : Question) (texts : List (List ℕ)) (k line : ℕ) → AreAsked q c min p → r ≡ with_databases (map pieces_of texts) q → texts ≡ map (text_in fs) c.databases → slice_get p.commands k ≡ Some (record { action = Read; line = line }) → question_for (job_for fs c min name p) k ≡ r
question_is fs c min name p q r texts k line asked is are here =
    let databases : map (λ (n : List ℕ). pieces_of (text_in fs n)) c.databases ≡ map pieces_of texts = maps pieces_of (text_in fs) c.databases ∙ ap (map pieces_of) (sym are) in
    (λ j. record { declared = asked.declared k line here j; cites = sym asked.cites j; databases = databases j; min = sym asked.min j })
    ∙ sym is

find_same : (was files : List File) (c : Citations) (min : ℕ) (name : List ℕ) (p : Program) (q r : Question) (before after : List (List ℕ)) → AreAsked q c min p → q ≡ with_databases (map pieces_of before) q → r ≡ with_databases (map pieces_of after) q → before ≡ map (text_in was) c.databases → after ≡ map (text_in files) c.databases → resolved_for r ≡ resolved_for q → finds was files c min name p
find_same was files c min name p q r before after asked is_before is_after are_before are_after same k line here =
    sym (resolved_is (job_for files c min name p) k)
    ∙ ap resolved_for (question_is files c min name p q r after k line asked is_after are_after here)
    ∙ same
    ∙ sym (ap resolved_for (question_is was c min name p q q before k line asked is_before are_before here))
    ∙ resolved_is (job_for was c min name p) k

-- ---- an edit of the databases

over_same : (q r : Question) (texts : List (List ℕ)) (number : ℕ) (text : List ℕ) (items : List PlacedPiece) (made : ResolvedEdit) → q.databases ≡ map pieces_of texts → items ≡ pieces_of text → IsResolvedEdit q number items made → made.seen ≡ Same → made.messages ≡ (resolved_for q).messages → r ≡ with_databases (map pieces_of (slice_set texts number text)) q → resolved_for r ≡ resolved_for q
over_same q r texts number text items made read are edit seen messages is =
    let now = with_database number items q in
    ap resolved_for (is ∙ sym (put_texts q now texts number text items read are refl))
    ∙ (λ j. record { entries = (edit.entries ∙ ap (λ (m : SeenEdit). with_seen m (resolved_for q).entries) seen) j; preamble = sym edit.kept.preamble j; messages = (edit.messages ∙ messages) j })

pub is_unseen : (kept : KeptResolution) (edit : DatabaseEdit) (made : ResolvedEdit) (all : Resolved) → all ≡ resolved_for kept.resolution → kept.edit ≡ Some edit → edit.made ≡ Some made → made.seen ≡ Same → made.messages ≡ all.messages → IsUnseen kept
is_unseen kept edit made all is is_edit is_made seen messages =
    record { edit = edit; made = made; is_edit = is_edit; is_made = is_made; seen = seen; messages = messages ∙ ap (λ (r : Resolved). r.messages) is }

-- ---- the report

any_more : (b c : Bool) → c ≡ true → (b || c) ≡ true
any_more true c h = refl
any_more false c h = h

any_here : (f : Step → Bool) (front : List Step) (t : Step) (back : List Step) → f t ≡ true → list_any f (front ++ t ∷ back) ≡ true
any_here f [] t back h = rw h refl
any_here f (s ∷ front) t back h = any_more (f s) (list_any f (front ++ t ∷ back)) (any_here f front t back h)

none_kept : (b : Bool) (t : Step) (ts : List Step) → b ≡ true → (if not b then t ∷ ts else ts) ≡ ts
none_kept true t ts h = refl
none_kept false t ts h = absurd cc

own_work : (p : Program) (front steps : List Step) → work_under p (front ++ steps) steps ≡ []
unfolding work_under
own_work p front [] = refl
own_work p front (t ∷ ts) =
    let all = front ++ t ∷ ts in
    none_kept (was_done p all t) t (work_under p all ts) (any_here (agrees_with p t) front t ts (same_itself p t))
    ∙ ap (λ (earlier : List Step). work_under p earlier ts) (sym (append_assoc front (t ∷ []) ts))
    ∙ own_work p (front ++ t ∷ []) ts

-- ---- the texts of databases

texts_stay : (name : List ℕ) (was files : List File) (names : List (List ℕ)) → AreOtherwise name was files → ((k : ℕ) → k < length names → bytes_eq name (slice_index_or names k []) ≡ false) → map (text_in files) names ≡ map (text_in was) names
texts_stay name was files [] rest others = refl
texts_stay name was files (n ∷ ns) rest others =
    let here : text_in files n ≡ text_in was n = rest n (others 0 (omega arith)) in
    let more : map (text_in files) ns ≡ map (text_in was) ns = texts_stay name was files ns rest (λ k lt. others (suc k) (omega (arith, lt))) in
    λ j. here j ∷ more j

not_first : (k : ℕ) → (suc k == 0) ≡ false
not_first k = grind (arith, nat_tests)

not_later : (n : ℕ) → (0 == suc n) ≡ false
not_later n = grind (arith, nat_tests)

as_before : (k n : ℕ) → (suc k == suc n) ≡ (k == n)
as_before k n = grind (arith, nat_tests)

texts_after : (name : List ℕ) (was files : List File) (text : List ℕ) (number : ℕ) (names : List (List ℕ)) → AreOtherwise name was files → text_in files name ≡ text → IsOnlyAt name number names → map (text_in files) names ≡ slice_set (map (text_in was) names) number text
texts_after name was files text number [] rest is only = refl
texts_after name was files text zero (n ∷ ns) rest is only =
    let same : name ≡ n = (bytes_eq-Decides name n).0 (only 0 (omega arith)) in
    let here : text_in files n ≡ text = ap (text_in files) (sym same) ∙ is in
    let more : map (text_in files) ns ≡ map (text_in was) ns = texts_stay name was files ns rest (λ k lt. only (suc k) (omega (arith, lt)) ∙ not_first k) in
    λ j. here j ∷ more j
texts_after name was files text (suc number) (n ∷ ns) rest is only =
    let here : text_in files n ≡ text_in was n = rest n (only 0 (omega arith) ∙ not_later number) in
    let more : map (text_in files) ns ≡ slice_set (map (text_in was) ns) number text = texts_after name was files text number ns rest is (λ k lt. only (suc k) (omega (arith, lt)) ∙ as_before k number) in
    λ j. here j ∷ more j

pub gone_over : (name : List ℕ) (was files : List File) (names texts others : List (List ℕ)) (e : DatabaseEdit) → AreOtherwise name was files → texts ≡ map (text_in was) names → others ≡ slice_set texts e.number e.text → text_in files name ≡ e.text → IsOnlyAt name e.number names → others ≡ map (text_in files) names
gone_over name was files names texts others e rest were are is only =
    are ∙ ap (λ (ts : List (List ℕ)). slice_set ts e.number e.text) were ∙ sym (texts_after name was files e.text e.number names rest is only)

-- the edit is put
module _ (h : Change) (k v : KeptResolution) (unseen : IsUnseen k)
    (put : ForSome k.edit (λ e. ForSome e.made (λ made. v.resolution ≡ with_databases (map pieces_of (slice_set k.texts e.number e.text)) k.resolution))) where
  pub found_still : resolved_for v.resolution ≡ resolved_for k.resolution
  found_still =
      let e = unseen.edit in
      over_same k.resolution v.resolution k.texts e.number e.text e.items unseen.made k.read e.read (k.edited e unseen.is_edit unseen.made unseen.is_made) unseen.seen unseen.messages
      (put e unseen.is_edit unseen.made unseen.is_made)

  module _ (p : Program) (asks : IsAskedOf h k p) (were : AreFilesOf h.was.now h.root.now k) (rest : AreOtherwise h.name.now h.was.now h.files.now)
      (texts : ForSome k.edit (λ e. ForSome e.made (λ made. v.texts ≡ slice_set k.texts e.number e.text))) where
    abbrev was : List File
    was = h.was.now

    abbrev files : List File
    files = h.files.now

    abbrev root : List ℕ
    root = h.root.now

    texts_now : v.texts ≡ map (text_in files) (citations was root).databases
    texts_now =
        let e = unseen.edit in
        let edited = asks.edited e unseen.is_edit in
        gone_over h.name.now was files (citations was root).databases k.texts v.texts e rest were (texts e unseen.is_edit unseen.made unseen.is_made) edited.0 edited.1

    pub files_over : AreFilesOf files root v
    files_over = texts_now ∙ ap (λ (c : Citations). map (text_in files) c.databases) (sym asks.same)

    pub run_over : IsSameRun was files root h.min
    run_over =
        let e = unseen.edit in
        let c = citations was root in
        same_run was files root h.min c asks.style p (sym asks.same) refl asks.named asks.styled
        (find_same was files c h.min asks.style p k.resolution v.resolution k.texts v.texts asks.asked
        (texts_kept k.resolution k.texts k.texts k.read refl)
        (put e unseen.is_edit unseen.made unseen.is_made ∙ ap (λ (ts : List (List ℕ)). with_databases (map pieces_of ts) k.resolution) (sym (texts e unseen.is_edit unseen.made unseen.is_made)))
        were texts_now found_still)

-- ---- the commands of a style

no_read : (cs : List Command) (k line : ℕ) → length cs ≤ k → slice_get cs k ≡ Some (record { action = Read; line = line }) → ⊥
no_read cs k line past is = let none : Option Command = None in let wrong : none ≡ Some (record { action = Read; line = line }) = sym (slice_get_past cs k past) ∙ is in cc

pub one_more : (p : Program) (d : Declared) (n : ℕ) → ((k : ℕ) → k < n → DeclaresAt p d k) → DeclaresAt p d n → (k : ℕ) → k < n + 1 → DeclaresAt p d k
one_more p d n before here k lt = elim (cases_lt k n) [
  | inl less ↦ before k less
  | inr more ↦ subst (DeclaresAt p d) (next_is k n lt more) here
]

pub all_numbers : (p : Program) (d : Declared) (n : ℕ) → length p.commands ≤ n → ((k : ℕ) → k < n → DeclaresAt p d k) → (k : ℕ) → DeclaresAt p d k
all_numbers p d n past before k line here = elim (cases_lt k n) [
  | inl less ↦ before k less line here
  | inr more ↦ absurd (no_read p.commands k line (omega (arith, past, more)) here)
]

work_of_read : (p : Program) (text : List ℕ) (steps : List Step) → style_of text ≡ Ok p → styled_work (style_of text) steps steps ≡ []
work_of_read p text steps read = ap (λ q. styled_work q steps steps) read ∙ own_work p [] steps

no_own_work : (p : Program) (text : List ℕ) (steps : List Step) (b : Bool) → style_of text ≡ Ok p → b ≡ true → (if b then styled_work (style_of text) steps steps else steps) ≡ []
no_own_work p text steps true read same = work_of_read p text steps read
no_own_work p text steps false read same = absurd cc

own_work_after : (p : Program) (text : List ℕ) (steps : List Step) → style_of text ≡ Ok p → work_after (Some text) steps (Some text) steps ≡ []
own_work_after p text steps read = no_own_work p text steps (bytes_eq text text) read ((bytes_eq-Decides text text).1 refl)

-- the run itself, once more
pub same_report : (was files : List File) (root : List ℕ) (min : ℕ) (run : Run) (r : Report) → IsRunOf was root min run → IsSameRun was files root min → r ≡ record { status = run.answers.status; ran = 0; reused = length run.kept.steps; ticks = 0 } → r ≡ report_after run.kept.text run.kept.steps files root min
same_report was files root min run r is same is_report =
    let own = run.kept.text in
    let steps = run.kept.steps in
    let text : own ≡ Some same.own = is.text ∙ sym same.text ∙ same.named in
    let traced : trace files root min ≡ steps = same.steps ∙ sym is.steps in
    let work : work_after own steps (style_text files root) (trace files root min) ≡ [] =
    (λ j. work_after (text j) steps (same.named j) (traced j)) ∙ own_work_after same.program same.own steps same.read
    in
    let status : run.answers.status ≡ (meaning files root min).status = ap (λ (m : Meaning). m.status) (is.shown ∙ sym same.shown) in
    let counted : length steps ≡ length (trace files root min) - length (work_after own steps (style_text files root) (trace files root min)) =
    omega (arith, ap length traced, ap length work)
    in
    is_report
    ∙ (λ j. record { status = status j; ran = length (sym work j); reused = counted j; ticks = total_cost (sym work j) })
