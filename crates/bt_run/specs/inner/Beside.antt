-- The new run, in which READ finds one entry changed, beside the old run.
use Rattle.std.specs.Prelude.{◌≡◌, ◌++◌, ◌≢◌, ◌<◌, ◌≤◌, ◌+◌, ◌*◌, ℕ, Bool, true, false, List, [], ◌∷◌, length, drop, take, map, Some, slice_index_or, slice_set, bytes_eq, All, if◌then◌else◌}
use Rattle.bt_style.specs.declared.style.Action.TheVariants.{Sort}
use Rattle.bt_style.specs.declared.style.Command.{Command}
use Rattle.bt_style.specs.Program.{Program}
use Rattle.bt_actions.specs.declared.entry.Variables.{Variables}
use Rattle.bt_actions.specs.declared.entry.Entry.{Entry}
use Rattle.bt_actions.specs.World.{no_entry}
use Rattle.bt_machine.specs.declared.input.Input.{Input}
use Rattle.bt_machine.specs.declared.outcome.Outcome.{Outcome}
use Rattle.bt_run.specs.declared.course.Course.{Course}
use Rattle.bt_run.specs.declared.course.Step.{Step}
use Rattle.bt_resolve.specs.declared.entry.Entry.{Entry as FoundEntry}
use Rattle.bt_resolve.specs.declared.entry.Resolved.{Resolved}
use Rattle.bt_log.specs.declared.message.Message.{Message}
use Rattle.bt_run.specs.Commands.{commands_from}
use Rattle.bt_run.specs.Course.{Recorded}
use Rattle.bt_run.specs.Meaning.{first_globals, run_begun}
use Rattle.bt_run.specs.ReadCommand.{Job, list_order, with_blank_variables}
use Rattle.bt_run.specs.SortCommand.{key_at, sorted}
use Rattle.bt_run.specs.declared.reuse.Reuse.{Reuse}
use Rattle.bt_run.specs.Work.{IsStep, same_key, total_cost, work_under}
use Rattle.bt_run.specs.inner.Names.{IsIndex}
use Rattle.bt_run.specs.inner.Work.{IsKnown}
use Rattle.std.specs.Option.{ForSome}
use Rattle.bt_run.specs.inner.Course.{IsOrdered, with_variables}

-- where the new run differs from the old one: the changed entry, the globals, the held line
pub record Difference : Type 0 where
  pub entry : Entry
  pub globals : Variables
  pub held : List ℕ

-- the new run's course, from the old one's
abbrev pub beside : ℕ → Difference → Course → Course
beside n o r = record r { entries = slice_set r.entries n o.entry; globals = o.globals; held = o.held }

-- whether a step is for the entry of a key
abbrev pub is_for : List ℕ → Step → Bool
is_for key s = same_key s.key (Some key)

-- The input of a step in the new run, from that in the old run. `own` says whether the step is for the changed entry.
abbrev pub given : Bool → Difference → Input → Input
given own o i = record i { entry = if own then Some o.entry else i.entry; globals = o.globals; held = o.held }

-- A re-made step may replace the old one: neither the log nor another entry can tell the difference.
pub record MayLeave (own : Bool) (left old : Outcome) : Type 0 where
  pub stop : left.stop ≡ old.stop
  pub messages : left.messages ≡ old.messages
  pub variables : own ≡ false → left.variables ≡ old.variables

-- a step of the new run, for an old step
pub record IsNewStep (own : Bool) (p : Program) (o : Difference) (s t : Step) : Type 0 where
  pub is : IsStep p t
  pub command : t.command ≡ s.command
  pub input : t.input ≡ given own o s.input
  pub left : MayLeave own t.outcome s.outcome

-- where the runs differ after this step
abbrev pub left : Bool → Difference → Step → Difference
left own o t = record {
  entry = if own then with_variables t.outcome.variables o.entry else o.entry;
  globals = t.outcome.globals;
  held = t.outcome.held;
}

-- The new run's steps for the old ones, from one difference to another.
abbrev pub AreBeside : Program → List ℕ → Difference → List Step → List Step → Difference → Type 0
AreBeside p key o [] [] last = last ≡ o
AreBeside p key o [] (t ∷ ts) last = ⊥
AreBeside p key o (s ∷ ss) [] last = ⊥
AreBeside p key o (s ∷ ss) (t ∷ ts) last =
    IsNewStep (is_for key s) p o s t × AreBeside p key (left (is_for key s) o t) ss ts last

-- But for the entry, the new step is given what the old one was given.
pub record IsGivenAlike (o : Difference) (s : Step) : Type 0 where
  pub globals : o.globals ≡ s.input.globals
  pub held : o.held ≡ s.input.held

-- The first steps are those of the new run, and the others the old ones still.
pub record AreUpTo (p : Program) (key : List ℕ) (first : Difference) (ss us : List Step) (k : ℕ) (now : Difference) : Type 0 where
  pub count : length us ≡ length ss
  pub beside : AreBeside p key first (take k ss) (take k us) now
  pub rest : drop k us ≡ drop k ss

-- What ran of the first steps was counted; what is known of the style and of the old steps stays so.
pub record IsCountedUpTo (p : Program) (ss us : List Step) (k : ℕ) (r : Reuse) : Type 0 where
  pub ran : r.ran ≡ length (work_under p ss (take k us))
  pub ticks : r.meter ≡ total_cost (work_under p ss (take k us))
  pub fewer : r.ran ≤ k
  pub bounded : r.meter ≤ 1000000 * k
  pub known : All (IsKnown p) r.known
  pub indexed : ForSome r.lookup.index (IsIndex ss)

-- The entry at a place, if there is one, has this key, and no other entry has.
pub record HasKey (n : ℕ) (key : List ℕ) (entries : List Entry) : Type 0 where
  pub here : n < length entries → bytes_eq (slice_index_or entries n no_entry).key key ≡ true
  pub apart : (m : ℕ) → m < length entries → m ≢ n → bytes_eq (slice_index_or entries m no_entry).key key ≡ false

-- The entry at a place is the only one of its key, and the order is one of all places.
pub record Fits (n : ℕ) (key : List ℕ) (r : Course) : Type 0 where
  pub keyed : HasKey n key r.entries
  pub ordered : IsOrdered r

-- SORT

-- SORT gives both runs the same order.
abbrev pub SortsAlike : ℕ → Difference → Course → Type 0
SortsAlike n o r =
    sorted (key_at (slice_set r.entries n o.entry)) (list_order r.entries) ≡ sorted (key_at r.entries) (list_order r.entries)

-- ITERATE

-- The steps of a course for the entries at these places, one for each in turn, and the course after them.
pub record AreForEach (r : Course) (places : List ℕ) (steps : List Step) (last : Course) : Type 0 where
  pub count : length steps ≡ length places
  pub inputs : (j : ℕ) (d : Step) → j < length places →
      (slice_index_or steps j d).input.entry ≡ Some (slice_index_or r.entries (slice_index_or places j 0) no_entry)
  pub left : (j : ℕ) (d : Step) → j < length places →
      slice_index_or last.entries (slice_index_or places j 0) no_entry
      ≡ with_variables (slice_index_or steps j d).outcome.variables
      (slice_index_or r.entries (slice_index_or places j 0) no_entry)

-- READ

-- READ finds this entry at a place instead of the one that is there, which is the only one of its key.
pub record FindsChanged (n : ℕ) (key : List ℕ) (d : FoundEntry) (was is : Resolved) (p : Program) : Type 0 where
  pub entries : is.entries ≡ slice_set was.entries n d
  pub preamble : is.preamble ≡ was.preamble
  pub messages : is.messages ≡ was.messages
  pub keyed : HasKey n key (map (with_blank_variables p) was.entries)

-- where the runs differ from the beginning: the entry that READ will find
abbrev pub begins_with : Entry → Course → Difference
begins_with e r = record { entry = e; globals = r.globals; held = r.held }

-- the same for a whole run of a style
abbrev pub first_of : Program → Entry → Difference
first_of p e = begins_with e (run_begun (first_globals p) []).course

-- The whole run

-- the run of a job's commands after this log
abbrev pub commands_run : Job → List Message → Recorded (List Step)
commands_run job log =
    commands_from (λ steps s. steps ++ s ∷ []) job 0 job.program.commands (run_begun (first_globals job.program) log)

-- Each SORT among these commands gives both runs the same order, if the run reaches it. `us` are the steps of the new run
-- from the beginning, where the runs differ so; of them, those before SORT decide.
abbrev pub AreSortsAlike : Job → ℕ → List ℕ → ℕ → List Command → Recorded (List Step) → Difference → List Step → Type 0
AreSortsAlike job n key number cs q o us =
    (xs ys : List Command) (line : ℕ) (mid : Difference) → cs ≡ xs ++ (record { action = Sort; line = line }) ∷ ys →
    (commands_from (λ steps s. steps ++ s ∷ []) job number xs q).course.stopped ≡ false →
    AreBeside job.program key o (commands_from (λ steps s. steps ++ s ∷ []) job number xs q).seen
    (take (length (commands_from (λ steps s. steps ++ s ∷ []) job number xs q).seen) us) mid →
    SortsAlike n mid (commands_from (λ steps s. steps ++ s ∷ []) job number xs q).course

-- the course of that run before the command of a number
abbrev pub run_before : Job → List Message → ℕ → Course
run_before job log number =
    (commands_from (λ steps s. steps ++ s ∷ []) job 0 (take number job.program.commands)
    (run_begun (first_globals job.program) log)).course

-- This many first steps are those of the commands before this one.
pub record AreBefore (number : ℕ) (steps : List Step) (j : ℕ) : Type 0 where
  pub within : j ≤ length steps
  pub before : All (λ (s : Step). s.command < number) (take j steps)
  pub behind : All (λ (s : Step). number ≤ s.command) (drop j steps)

-- What a SORT of this number after READ needs: so many steps come before it, the runs differ so after them, and SORT, if
-- the run reaches it, gives both the same order.
pub record SortsAt (job : Job) (log : List Message) (n : ℕ) (key : List ℕ) (number : ℕ) (o : Difference) (us : List Step) : Type 0 where
  pub steps : ℕ
  pub now : Difference
  pub before : AreBefore number (commands_run job log).seen steps
  pub beside : AreBeside job.program key o (take steps (commands_run job log).seen) (take steps us) now
  pub alike : (run_before job log number).stopped ≡ false → SortsAlike n now (run_before job log number)
