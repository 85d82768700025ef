-- A whole run, from its beginning to its counts.
use Rattle.std.specs.Prelude.{IsTrue, unwrap_or, bytes_eq, Bool, true, false, if◌then◌else◌, ◌-◌, Result}
use Rattle.std.specs.Option.{ForSome}
use Rattle.std.proofs.Common.{All, ◌<◌, ◌≡◌, refl, sym, ap, ◌∙◌, ℕ, List, [], ◌∷◌, ◌++◌, Option, Some, None, Ok, Err, ◌≤◌, length, subst, arith}
use Rattle.std.proofs.lemmas.Slice.Eq.{bytes_eq-Decides}
use Rattle.bt_style.specs.declared.fault.StyleFault.{StyleFault}
use Rattle.bt_style.specs.declared.style.Style.{Style}
use Rattle.bt_style.specs.Program.{Program, program_of}
use Rattle.bt_style.specs.Reader.{style_of}
use Rattle.bt_job.specs.declared.files.File.{File}
use Rattle.bt_job.specs.declared.citations.Citations.{Citations}
use Rattle.bt_log.specs.declared.message.Message.{Message}
use Rattle.bt_log.specs.Log.{log_bytes}
use Rattle.bt_job.specs.FileNames.{text_of}
use Rattle.bt_job.specs.Citations.{citations}
use Rattle.bt_job.specs.Fit.{IsWithin, IsFit}
use Rattle.bt_run.specs.declared.answers.Report.{Report}
use Rattle.bt_run.specs.declared.course.Course.{Course}
use Rattle.bt_run.specs.declared.course.Step.{Step}
use Rattle.bt_run.specs.declared.kept.Kept.{Kept}
use Rattle.bt_run.specs.declared.kept_steps.KeptSteps.{KeptSteps}
use Rattle.bt_run.specs.declared.reuse.Reuse.{Reuse}
use Rattle.bt_actions.specs.declared.entry.Entry.{Entry}
use Rattle.bt_actions.specs.World.{World, no_variables}
use Rattle.bt_run.specs.Course.{Recorded}
use Rattle.bt_run.specs.inner.Course.{recorded}
use Rattle.bt_run.proofs.CountLemmas.{counted_alike}
use Rattle.bt_run.specs.Work.{total_cost, work_under, IsStep}
use Rattle.bt_run.specs.inner.Found.{AreFoundBy}
use Rattle.bt_run.specs.inner.Calls.{AreCalls}
use Rattle.bt_run.specs.inner.Work.{AreKept, IsBegun, IsConsistent, IsWork}
use Rattle.bt_run.specs.Steps.{StepsAre, styled_work, work_after}
use Rattle.bt_run.specs.inner.Steps.{run_shown, calls_in, steps_under, IsTaken}
use Rattle.bt_run.specs.Kept.{named_text, style_text, run_work, report_after}
use Rattle.bt_run.proofs.WorkLemmas.{work_none, work_first}
use Rattle.bt_run.proofs.EarlierLemmas.{nothing_found, same_none}
use Rattle.bt_run.proofs.TurnLemmas.{none_in_turn, none_left, calls_begun}
use Rattle.bt_run.proofs.MarkLemmas.{none_marked}
use Rattle.bt_run.specs.ReadCommand.{Job}
use Rattle.bt_run.specs.Commands.{commands_from}
use Rattle.bt_run.specs.Counts.{calls_at, counts_told}
use Rattle.bt_run.specs.Meaning.{run_begun, first_globals, style_run, run_of, Meaning, meaning, trace}
use Rattle.bt_run.specs.inner.Cases.{job_for, fault_told, styled, run_with}

pub begun_consistent : (p : Program) (earlier : Kept) (w : World) (s : KeptSteps) (calls : Option (List ℕ)) → w.entries ≡ [] → IsBegun s → ForSome calls (AreCalls earlier.steps) → AreFoundBy s.is_earlier s.resolution earlier.entries → IsConsistent p earlier w (record s { calls = calls })
begun_consistent p earlier w s calls empty h are before =
    let none = h.0 in
    let work : work_under p earlier.steps s.steps ≡ [] = ap (work_under p earlier.steps) none ∙ work_none p earlier.steps in
    let count : length s.steps ≡ 0 = ap length none in
    record {
      work = record {
        ran = h.3 ∙ ap length (sym work);
        ticks = h.4 ∙ ap total_cost (sym work);
        fewer = omega (arith, h.3);
        bounded = omega (arith, h.4);
        true_steps = λ k d lt. absurd (omega (arith, lt, count));
        known = rw h.5 (λ k d lt. absurd (omega (arith, lt)));
        indexed = rw h.6 (λ x e. absurd cc);
      };
      marked = none_marked w.entries s.steps s.marks none h.1;
      same = same_none earlier.entries w.entries s.same h.2;
      in_turn = none_in_turn s.steps none;
      left = none_left s.steps w none;
      given = λ go. (let on : IsTrue false = subst (λ (b : Bool). IsTrue b) h.7 go in absurd cc);
      called = calls_begun earlier.steps s.reuse.next s.steps calls h.8 none are;
      found = rw h.10 (nothing_found s.resolution w.entries);
      found_before = before;
    }

-- a run's end
pub kept_with : (p : Program) (earlier : Kept) (w : World) (s : KeptSteps) (calls : List ℕ) → IsConsistent p earlier w s → AreCalls s.steps calls → AreKept w.entries (record s { calls = Some calls })
kept_with p earlier w s calls h are = record { marked = h.marked; in_turn = h.in_turn; called = λ c e. (let same : calls ≡ c = cc in subst (AreCalls s.steps) same are); found = h.found }

-- What was carried out

no_work_if : (b : Bool) (work : List Step) → work ≡ [] → (if b then work else []) ≡ []
no_work_if true work h = h
no_work_if false work h = refl

no_styled_work : (q : Result Program StyleFault) (earlier : List Step) → styled_work q earlier [] ≡ []
no_styled_work (Ok p) earlier = work_none p earlier
no_styled_work (Err fault) earlier = refl

no_work : (own : Option (List ℕ)) (earlier : List Step) (text : Option (List ℕ)) → work_after own earlier text [] ≡ []
no_work None earlier None = refl
no_work (Some own) earlier None = refl
no_work None earlier (Some text) = refl
no_work (Some own) earlier (Some text) = no_work_if (bytes_eq own text) (styled_work (style_of text) earlier []) (no_styled_work (style_of text) earlier)

-- where no step ran
pub nothing_taken : (own : Option (List ℕ)) (earlier : List Step) (text : Option (List ℕ)) (s : KeptSteps) → IsBegun s → IsTaken own earlier text s.steps s.reuse
nothing_taken own earlier text s h =
    rw h.0 (record {
      ran = h.3 ∙ ap length (sym (no_work own earlier text));
      ticks = h.4 ∙ ap total_cost (sym (no_work own earlier text));
      fewer = omega (arith, h.3);
      true_steps = λ t p named read k d lt. absurd (omega (arith, lt));
    })

pub begun_kept : (entries : List Entry) (s : KeptSteps) → IsBegun s → AreKept entries s
begun_kept entries s h = record {
  marked = none_marked entries s.steps s.marks h.0 h.1;
  in_turn = none_in_turn s.steps h.0;
  called = rw h.9 (λ c e. absurd cc);
  found = rw h.10 (nothing_found s.resolution entries);
}

work_if : (p : Program) (b : Bool) (earlier steps : List Step) → work_under p (if b then earlier else []) steps ≡ (if b then work_under p earlier steps else steps)
work_if p true earlier steps = refl
work_if p false earlier steps = work_first p steps

-- under a style that could be read
work_read : (p : Program) (own : Option (List ℕ)) (earlier : List Step) (text : List ℕ) (steps : List Step) → style_of text ≡ Ok p → work_under p (steps_under own earlier text) steps ≡ work_after own earlier (Some text) steps
work_read p None earlier text steps read = work_first p steps
work_read p (Some own) earlier text steps read =
    work_if p (bytes_eq own text) earlier steps ∙ ap (λ q. if bytes_eq own text then styled_work q earlier steps else steps) (sym read)

true_steps : (p : Program) (text : List ℕ) (steps : List Step) → style_of text ≡ Ok p → All (IsStep p) steps → StepsAre (Some text) steps
true_steps p text steps read h = λ t q named again.
    let same : text ≡ t = cc in
    let one : Ok p ≡ Ok q = sym read ∙ ap style_of same ∙ again in
    let program : p ≡ q = cc in
    subst (λ (o : Program). All (IsStep o) steps) program h

pub run_taken : (p : Program) (own : Option (List ℕ)) (before : List Step) (text : List ℕ) (earlier steps : List Step) (reuse : Reuse) → style_of text ≡ Ok p → earlier ≡ steps_under own before text → IsWork p earlier steps reuse → IsTaken own before (Some text) steps reuse
run_taken p own before text earlier steps reuse read is h =
    let work = ap (λ es. work_under p es steps) is ∙ work_read p own before text steps read in
    record {
      ran = h.ran ∙ ap length work;
      ticks = h.ticks ∙ ap total_cost work;
      fewer = h.fewer;
      true_steps = true_steps p text steps read h.true_steps;
    }

all_under : {A : Type 0} (P : A → Type 0) (b : Bool) (xs : List A) → (b ≡ true → All P xs) → All P (if b then xs else [])
all_under P true xs f = f refl
all_under P false xs f = λ k d lt. absurd (omega (arith, lt))

-- the steps of an earlier run are those of the style
earlier_under : (p : Program) (text : List ℕ) (own : Option (List ℕ)) (steps : List Step) → StepsAre own steps → style_of text ≡ Ok p → All (IsStep p) (steps_under own steps text)
earlier_under p text None steps h read = λ i d lt. absurd (omega (arith, lt))
earlier_under p text (Some t) steps h read = all_under (IsStep p) (bytes_eq t text) steps (λ e. h t p refl (ap style_of ((bytes_eq-Decides t text).0 e) ∙ read))

pub earlier_steps : (p : Program) (text : List ℕ) (own : Option (List ℕ)) (steps earlier : List Step) → StepsAre own steps → style_of text ≡ Ok p → earlier ≡ steps_under own steps text → All (IsStep p) earlier
earlier_steps p text own steps earlier h read is = subst (λ (es : List Step). All (IsStep p) es) (sym is) (earlier_under p text own steps h read)

-- the commands of a style after the beginning of its run, and the counts
pub carried_by : (job : Job) (log told : List Message) (course : Course) (none steps : List Step) (calls : List ℕ) → none ≡ [] → recorded course steps ≡ commands_from (λ ss s. ss ++ s ∷ []) job 0 job.program.commands (recorded (run_begun (first_globals job.program) log).course none) → ((place : ℕ) → place < 37 → calls_in calls place ≡ calls_at steps place) → told ≡ course.log ++ counts_told (calls_in calls) → recorded (record course { log = told }) steps ≡ style_run job log
carried_by job log told course none steps calls empty is are_calls is_told =
    let all = is ∙ ap (λ ss. commands_from (λ ts s. ts ++ s ∷ []) job 0 job.program.commands (recorded (run_begun (first_globals job.program) log).course ss)) empty in
    let log_is = is_told ∙ ap (λ more. course.log ++ more) (counted_alike (calls_in calls) (calls_at steps) are_calls) in
    ap (λ l. recorded (record course { log = l }) steps) log_is
    ∙ ap (λ (r : Recorded (List Step)). record r { course = record r.course { log = r.course.log ++ counts_told (calls_at r.seen) } }) all

-- without steps
pub idle_run : (log : List Message) (rc course : Course) (s : KeptSteps) → rc ≡ course → course ≡ (run_begun no_variables log).course → IsBegun s → recorded rc s.steps ≡ run_begun no_variables log
idle_run log rc course s same is h = λ j. recorded ((same ∙ is) j) (h.0 j)

-- without a style
pub no_style : (files : List File) (c : Citations) (min : ℕ) (rc course : Course) (s : KeptSteps) → rc ≡ course → course ≡ (run_begun no_variables c.log).course → IsBegun s → c.style ≡ None → recorded rc s.steps ≡ run_with files c min c.style
no_style files c min rc course s same is h named = idle_run c.log rc course s same is h ∙ ap (run_with files c min) (sym named)

-- a style that is lent by its owner
pub lent_style : (text : List ℕ) (own lent : Style) → style_of text ≡ Ok (program_of own) → lent ≡ own → style_of text ≡ Ok (program_of lent)
lent_style text own lent read is =
    let again : Style → Result Program StyleFault = λ s. Ok (program_of s) in
    read ∙ ap again (sym is)

-- a style that could be read
pub style_read : (files : List File) (c : Citations) (min : ℕ) (style s1 s2 text : List ℕ) (databases : List (List ℕ)) (p : Program) → c.style ≡ Some style → databases ≡ c.databases → s2 ≡ style → style_of text ≡ Ok p → text ≡ unwrap_or (text_of files s1) [] → s1 ≡ style → style_run (record { files = files; cites = record { keys = c.keys; star = c.star }; databases = databases; min = min; style = s2; program = p }) c.log ≡ run_with files c min c.style
style_read files c min style s1 s2 text databases p named same_databases same2 read is_text same1 =
    let ran : style_run (record { files = files; cites = record { keys = c.keys; star = c.star }; databases = databases; min = min; style = s2; program = p }) c.log ≡ style_run (job_for files c min style p) c.log = λ j. style_run (record { files = files; cites = record { keys = c.keys; star = c.star }; databases = same_databases j; min = min; style = same2 j; program = p }) c.log in
    let whole : style_of (unwrap_or (text_of files style) []) ≡ Ok p = ap (λ s. style_of (unwrap_or (text_of files s) [])) (sym same1) ∙ ap style_of (sym is_text) ∙ read in
    ran ∙ ap (styled files c min style) (sym whole) ∙ ap (run_with files c min) (sym named)

pub style_ran : (files : List File) (c : Citations) (min : ℕ) (style s1 s2 text : List ℕ) (databases : List (List ℕ)) (p : Program) (rc course : Course) (steps : List Step) → rc ≡ course → recorded course steps ≡ style_run (record { files = files; cites = record { keys = c.keys; star = c.star }; databases = databases; min = min; style = s2; program = p }) c.log → c.style ≡ Some style → databases ≡ c.databases → s2 ≡ style → style_of text ≡ Ok p → text ≡ unwrap_or (text_of files s1) [] → s1 ≡ style → recorded rc steps ≡ run_with files c min c.style
style_ran files c min style s1 s2 text databases p rc course steps same is named same_databases same2 read is_text same1 =
    ap (λ x. recorded x steps) same ∙ is ∙ style_read files c min style s1 s2 text databases p named same_databases same2 read is_text same1

-- a style that could not
pub style_faulty : (files : List File) (c : Citations) (min : ℕ) (style s1 s2 text : List ℕ) (fault : StyleFault) (log : List Message) → log ≡ c.log ++ fault_told s2 fault ∷ [] → c.style ≡ Some style → s2 ≡ style → style_of text ≡ Err fault → text ≡ unwrap_or (text_of files s1) [] → s1 ≡ style → run_begun no_variables log ≡ run_with files c min c.style
style_faulty files c min style s1 s2 text fault log is_log named same2 read is_text same1 =
    let ran : run_begun no_variables log ≡ run_begun no_variables (c.log ++ fault_told style fault ∷ []) = ap (run_begun no_variables) (is_log ∙ ap (λ s. c.log ++ fault_told s fault ∷ []) same2) in
    let whole : style_of (unwrap_or (text_of files style) []) ≡ Err fault = ap (λ s. style_of (unwrap_or (text_of files s) [])) (sym same1) ∙ ap style_of (sym is_text) ∙ read in
    ran ∙ ap (styled files c min style) (sym whole) ∙ ap (run_with files c min) (sym named)

pub style_refused : (files : List File) (c : Citations) (min : ℕ) (style s1 s2 text : List ℕ) (fault : StyleFault) (log : List Message) (rc course : Course) (s : KeptSteps) → rc ≡ course → course ≡ (run_begun no_variables log).course → IsBegun s → log ≡ c.log ++ fault_told s2 fault ∷ [] → c.style ≡ Some style → s2 ≡ style → style_of text ≡ Err fault → text ≡ unwrap_or (text_of files s1) [] → s1 ≡ style → recorded rc s.steps ≡ run_with files c min c.style
style_refused files c min style s1 s2 text fault log rc course s same is h is_log named same2 read is_text same1 =
    idle_run log rc course s same is h ∙ style_faulty files c min style s1 s2 text fault log is_log named same2 read is_text same1

-- the place of `*` is among the keys
within : (s : Option ℕ) (n : ℕ) → IsWithin s n → ForSome s (λ before. before ≤ n)
within s n h x e = subst (λ o. IsWithin o n) e h

pub star_within : (files : List File) (c : Citations) → IsFit files c → ForSome c.star (λ before. before ≤ length c.keys)
star_within files c fit = within c.star (length c.keys) fit.star

-- what is shown is what the files mean
pub meant : (files : List File) (root : List ℕ) (min : ℕ) (c : Citations) (r : Recorded (List Step)) (wanted : List (List ℕ)) (m : Meaning) → m ≡ run_shown r wanted → r ≡ run_with files c min c.style → wanted ≡ c.wanted → c ≡ citations files root → m ≡ meaning files root min
unfolding meaning run_of
meant files root min c r wanted m is is_run are_wanted is_cited =
    is ∙ (λ j. run_shown (is_run j) (are_wanted j)) ∙ ap (λ d. run_shown (run_with files d min d.style) d.wanted) is_cited

-- The log is what the messages are in words.
pub log_spelled : (files : List File) (root : List ℕ) (min : ℕ) → (meaning files root min).blg ≡ log_bytes (meaning files root min).messages
unfolding meaning
log_spelled files root min = refl

-- and so is the report, and what is kept

pub kept_text : (files : List File) (root : List ℕ) (c : Citations) (text : Option (List ℕ)) → text ≡ named_text files c.style → c ≡ citations files root → text ≡ style_text files root
unfolding style_text
kept_text files root c text is is_cited = is ∙ ap (λ (d : Citations). named_text files d.style) is_cited

pub kept_steps : (files : List File) (root : List ℕ) (min : ℕ) (c : Citations) (r : Recorded (List Step)) → r ≡ run_with files c min c.style → c ≡ citations files root → r.seen ≡ trace files root min
unfolding trace run_of
kept_steps files root min c r is is_cited = ap (λ (s : Recorded (List Step)). s.seen) (is ∙ ap (λ (d : Citations). run_with files d min d.style) is_cited)

pub reported : (files : List File) (root : List ℕ) (min : ℕ) (own : Option (List ℕ)) (earlier : List Step) (text : Option (List ℕ)) (steps : List Step) (reuse : Reuse) (r : Report) → r.status ≡ (meaning files root min).status → text ≡ style_text files root → steps ≡ trace files root min → IsTaken own earlier text steps reuse → r.ran ≡ reuse.ran → r.reused ≡ length steps - reuse.ran → r.ticks ≡ reuse.meter → r ≡ report_after own earlier files root min
reported files root min own earlier text steps reuse r is_status is_text are_steps h is_ran is_reused is_ticks =
    let work : work_after own earlier text steps ≡ run_work own earlier files root min = λ j. work_after own earlier (is_text j) (are_steps j) in
    let ran_is : reuse.ran ≡ length (run_work own earlier files root min) = h.ran ∙ ap length work in
    let statuses = is_status in
    let rans = is_ran ∙ ran_is in
    let reuses : r.reused ≡ length (trace files root min) - length (run_work own earlier files root min) = is_reused ∙ (λ j. length (are_steps j) - ran_is j) in
    let ticks_are = is_ticks ∙ h.ticks ∙ ap total_cost work in
    λ j. record { status = statuses j; ran = rans j; reused = reuses j; ticks = ticks_are j }
