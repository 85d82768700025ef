-- What a run writes that keeps no steps.
use Rattle.std.proofs.Common.{◌≡◌, ◌∙◌, ap, sym, ℕ, ◌+◌, ◌<◌, List, [], ◌∷◌, ◌++◌, None, arith}
use Rattle.std.specs.Prelude.{slice_index_or, unwrap_or, Ok, Err, Some}
use Rattle.std.proofs.lemmas.List.{append_assoc, append-nil}
use Rattle.std.proofs.lemmas.List.Sums.{sum_by-append}
use Rattle.bt_log.specs.Log.{lines_bytes}
use Rattle.bt_log.specs.declared.message.Message.{Message}
use Rattle.bt_style.specs.declared.style.Command.{Command}
use Rattle.bt_actions.specs.World.{no_variables}
use Rattle.bt_job.specs.declared.files.File.{File}
use Rattle.bt_job.specs.declared.citations.Citations.{Citations}
use Rattle.bt_job.specs.FileNames.{text_of}
use Rattle.bt_style.specs.declared.fault.StyleFault.{StyleFault}
use Rattle.bt_style.specs.Program.{Program}
use Rattle.bt_style.specs.Reader.{style_of}
use Rattle.bt_run.specs.declared.course.Course.{Course}
use Rattle.bt_run.specs.declared.course.Step.{Step}
use Rattle.bt_run.specs.Course.{Recorded}
use Rattle.bt_run.specs.Commands.{commands_from}
use Rattle.bt_run.specs.Counts.{calls_at, counts_told}
use Rattle.bt_run.specs.Meaning.{Meaning, run_begun, first_globals, style_run}
use Rattle.bt_run.specs.inner.Cases.{bbl_of, shown_of, fault_told, run_with}
use Rattle.bt_run.specs.ReadCommand.{Job}
use Rattle.bt_run.specs.inner.Course.{recorded}
use Rattle.bt_run.specs.inner.Steps.{run_shown, calls_in}
use Rattle.bt_run.specs.inner.Written.{Written, written, with_step}
use Rattle.bt_run.proofs.OverLemmas.{commands_over}
use Rattle.bt_run.proofs.CountLemmas.{counted_alike}
use Rattle.bt_run.proofs.AnswerLemmas.{style_read, style_faulty}

-- what steps have written
abbrev written_by : List Step → Written
written_by steps = record { bbl = bbl_of steps; calls = λ place within. calls_at steps place }

bbl_more : (steps : List Step) (s : Step) → bbl_of (steps ++ s ∷ []) ≡ bbl_of steps ++ lines_bytes s.outcome.lines
bbl_more [] s = append-nil (lines_bytes s.outcome.lines)
bbl_more (t ∷ ts) s = ap (λ more. lines_bytes t.outcome.lines ++ more) (bbl_more ts s) ∙ sym (append_assoc (lines_bytes t.outcome.lines) (bbl_of ts) (lines_bytes s.outcome.lines))

calls_more : (steps : List Step) (s : Step) (place : ℕ) → calls_at (steps ++ s ∷ []) place ≡ calls_at steps place + slice_index_or s.outcome.calls place 0
calls_more steps s place =
    let calls : Step → ℕ = λ (t : Step). slice_index_or t.outcome.calls place 0 in
    omega (arith, sum_by-append calls steps (s ∷ []))

step_written : (steps : List Step) (s : Step) → with_step (written_by steps) s ≡ written_by (steps ++ s ∷ [])
step_written steps s =
    λ j. record { bbl = sym (bbl_more steps s) j; calls = λ place within. sym (calls_more steps s place) j }

-- what is seen after one more step
pub written_more : (old : Written) (bbl : List ℕ) (calls : List ℕ) (s : Step) → bbl ≡ old.bbl ++ lines_bytes s.outcome.lines → ((place : ℕ) (within : place < 37) → slice_index_or calls place 0 ≡ old.calls place within + slice_index_or s.outcome.calls place 0) → written bbl calls ≡ with_step old s
written_more old bbl calls s is_bbl are_calls = λ j. record { bbl = is_bbl j; calls = λ place within. are_calls place within j }

-- a run from nothing on writes what its steps write
pub all_written : (job : Job) (cs : List Command) (first course : Course) (none bbl : List ℕ) (no_calls calls : List ℕ) → none ≡ [] → ((place : ℕ) → place < 37 → slice_index_or no_calls place 0 ≡ 0) →
    recorded course (written bbl calls) ≡ commands_from with_step job 0 cs (recorded first (written none no_calls)) →
    (let r = commands_from (λ steps s. steps ++ s ∷ []) job 0 cs (recorded first []) in recorded course (written bbl calls) ≡ recorded r.course (written_by r.seen))
all_written job cs first course none bbl no_calls calls empty zeros is =
    let begun : written none no_calls ≡ written_by [] = λ j. record { bbl = empty j; calls = λ place within. zeros place within j } in
    is ∙ ap (λ w. commands_from with_step job 0 cs (recorded first w)) begun
    ∙ commands_over with_step (λ steps s. steps ++ s ∷ []) written_by step_written job 0 cs (recorded first [])

-- and shows what they show
pub style_shown : (job : Job) (log told : List Message) (course : Course) (none bbl : List ℕ) (no_calls calls : List ℕ) (wanted : List (List ℕ)) (m : Meaning) → none ≡ [] → ((place : ℕ) → place < 37 → slice_index_or no_calls place 0 ≡ 0) →
    recorded course (written bbl calls) ≡ commands_from with_step job 0 job.program.commands (recorded (run_begun (first_globals job.program) log).course (written none no_calls)) →
    told ≡ course.log ++ counts_told (calls_in calls) → m ≡ shown_of bbl told wanted → m ≡ run_shown (style_run job log) wanted
style_shown job log told course none bbl no_calls calls wanted m empty zeros is is_told shows =
    let r = commands_from (λ steps s. steps ++ s ∷ []) job 0 job.program.commands (run_begun (first_globals job.program) log) in
    let all = all_written job job.program.commands (run_begun (first_globals job.program) log).course course none bbl no_calls calls empty zeros is in
    let is_bbl : bbl ≡ bbl_of r.seen = ap (λ (x : Recorded Written). x.seen.bbl) all in
    let logged : course.log ≡ r.course.log = ap (λ (x : Recorded Written). x.course.log) all in
    let counted : counts_told (calls_in calls) ≡ counts_told (calls_at r.seen) = counted_alike (calls_in calls) (calls_at r.seen) (λ place within j. (all j).seen.calls place within) in
    shows ∙ (λ j. shown_of (is_bbl j) ((is_told ∙ (λ i. logged i ++ counted i)) j) wanted)

-- what is shown without a style, under a style, and under one with a fault

logged : (files : List File) (c : Citations) (min : ℕ) (none : List ℕ) (log : List Message) (m : Meaning) → run_begun no_variables log ≡ run_with files c min c.style → none ≡ [] → m ≡ shown_of none log c.wanted → m ≡ run_shown (run_with files c min c.style) c.wanted
logged files c min none log m is empty shows =
    shows ∙ ap (λ bbl. shown_of bbl log c.wanted) empty ∙ ap (λ r. run_shown r c.wanted) is

pub no_style_shown : (files : List File) (c : Citations) (min : ℕ) (none : List ℕ) (m : Meaning) → none ≡ [] → m ≡ shown_of none c.log c.wanted → c.style ≡ None → m ≡ run_shown (run_with files c min c.style) c.wanted
no_style_shown files c min none m empty shows named = logged files c min none c.log m (ap (run_with files c min) (sym named)) empty shows

pub read_shown : (files : List File) (c : Citations) (min : ℕ) (style s1 s2 text : List ℕ) (databases : List (List ℕ)) (p : Program) (m : Meaning) → m ≡ run_shown (style_run (record { files = files; cites = record { keys = c.keys; star = c.star }; databases = databases; min = min; style = s2; program = p }) c.log) c.wanted → c.style ≡ Some style → databases ≡ c.databases → s2 ≡ style → style_of text ≡ Ok p → text ≡ unwrap_or (text_of files s1) [] → s1 ≡ style → m ≡ run_shown (run_with files c min c.style) c.wanted
read_shown files c min style s1 s2 text databases p m shows named same_databases same2 read is_text same1 =
    shows ∙ ap (λ r. run_shown r c.wanted) (style_read files c min style s1 s2 text databases p named same_databases same2 read is_text same1)

pub faulty_shown : (files : List File) (c : Citations) (min : ℕ) (style s1 s2 text none : List ℕ) (fault : StyleFault) (log : List Message) (m : Meaning) → m ≡ shown_of none log c.wanted → none ≡ [] → log ≡ c.log ++ fault_told s2 fault ∷ [] → c.style ≡ Some style → s2 ≡ style → style_of text ≡ Err fault → text ≡ unwrap_or (text_of files s1) [] → s1 ≡ style → m ≡ run_shown (run_with files c min c.style) c.wanted
faulty_shown files c min style s1 s2 text none fault log m shows empty is_log named same2 read is_text same1 =
    logged files c min none log m (style_faulty files c min style s1 s2 text fault log is_log named same2 read is_text same1) empty shows
