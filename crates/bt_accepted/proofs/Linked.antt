-- The steps of a run over files are the steps of a run in the sense of the promise, up to the first that stops it.
use Rattle.std.specs.Prelude.{reverse, unwrap_or, slice_index_or, if◌then◌else◌}
use Rattle.std.proofs.Common.{◌≡◌, refl, sym, ap, ◌∙◌, subst, ℕ, suc, ◌<◌, ◌≤◌, pos, Bool, true, false, List, [], ◌∷◌, ◌++◌, map, length, All, Option, Some, None, append_assoc, append-nil, arith}
use Rattle.std.proofs.lemmas.List.{length-map}
use Rattle.std.proofs.lemmas.List.Elements.{All-nil, All-head, All-tail, All-set, All-map}
use Rattle.std.proofs.lemmas.List.Concat.{flat_map-append}
use Rattle.std.proofs.lemmas.List.Sorted.{All-permutation, IsPermutation-reverse}
use Rattle.bt_style.specs.declared.style.Target.{Target}
use Rattle.bt_style.specs.declared.style.Command.{Command}
use Rattle.bt_style.specs.declared.style.Action.{Action}
use Rattle.bt_style.specs.declared.style.Action.TheVariants as actions
use Rattle.bt_style.specs.Program.{Program}
use Rattle.bt_log.specs.declared.message.Message.{Message}
use Rattle.bt_actions.specs.declared.entry.Entry.{Entry}
use Rattle.bt_actions.specs.declared.entry.Variables.{Variables}
use Rattle.bt_actions.specs.World.{no_entry, no_variables}
use Rattle.bt_actions.specs.State.{text_size_limit}
use Rattle.bt_machine.specs.declared.input.Input.{Input}
use Rattle.bt_machine.specs.Step.{step_in, outcome_of}
use Rattle.bt_machine.specs.OwnEntry.{IsPlace}
use Rattle.bt_machine.specs.laws.Fits.{Count, Fits, OwnFit, own_values}
use Rattle.bt_machine.proofs.Local.{step_local}
use Rattle.bt_machine.proofs.laws.Fitting.{values_fit_again}
use Rattle.bt_bib.specs.Items.{items_of}
use Rattle.bt_bib.specs.BibText.{pieces_of}
use Rattle.bt_resolve.specs.declared.entry.Entry.{Entry as FoundEntry}
use Rattle.bt_job.specs.FileNames.{text_of}
use Rattle.bt_job.specs.Citations.{citations}
use Rattle.bt_sound.specs.Excluded.{is_clean}
use Rattle.bt_sound.specs.Fits.{is_named}
use Rattle.bt_sound.specs.Sound.{first_number, first_globals, Runs, AllRun, AreStepsOf, AreStepsInOrder, messages_from, Promises}
use Rattle.bt_run.specs.declared.course.Course.{Course}
use Rattle.bt_run.specs.declared.course.CommandPlace.{CommandPlace}
use Rattle.bt_run.specs.declared.course.Step.{Step}
use Rattle.bt_run.specs.Course.{Recorded, course_world, input_at, step_kept, stepped}
use Rattle.bt_run.specs.Commands.{iterated, carried_out, commands_from}
use Rattle.bt_run.specs.ReadCommand.{Job, declared_before, found_for, read, with_blank_variables}
use Rattle.bt_run.specs.Meaning.{run_begun, style_run, run_of, trace}
use Rattle.bt_run.specs.Work.{own_left}
use Rattle.bt_run.specs.inner.Cases.{sorted_run}
use Rattle.bt_run.specs.inner.Course.{recorded, IsOrdered, with_variables, variables_back, put_back}
use Rattle.bt_run.proofs.CourseLemmas.{step_taken, length_back, ordered_back}
use Rattle.bt_run.proofs.AnswerLemmas.{style_read}
use Rattle.bt_run.proofs.CommandLemmas.{read_ordered, sorted_ordered, begun_ordered}
use Rattle.bt_accepted.proofs.FieldCounts.{found_fields}
use Rattle.bt_accepted.specs.Accepted.{job_over, HasTypes, step_messages, SoundOverFiles}

-- a run keeps all its steps
abbrev kept : List Step → Step → List Step
kept steps s = steps ++ s ∷ []

-- messages of nothing, or of what follows
abbrev unless : Bool → List Message → List Message
unless stopped ms = if stopped then [] else ms

-- an entry as a run under the style has it
abbrev own_count : Program → Count
own_count p = record { numbers = length p.entry_numbers; texts = length p.entry_texts }

abbrev global_count : Program → Count
global_count p = record { numbers = length p.global_numbers; texts = length p.global_texts }

abbrev EntryFits : Program → List ℕ → Entry → Type 0
EntryFits p types e =
    (is_named types e.function ≡ true) × (length e.fields ≡ length p.fields) × Fits (own_count p) e.variables

-- what holds of a run between two steps
record Ready (p : Program) (types : List ℕ) (r : Course) : Type 0 where
  pub entries : All (EntryFits p types) r.entries
  pub ordered : IsOrdered r
  pub globals : Fits (global_count p) r.globals

with_own : (p : Program) (types : List ℕ) (v : Option Variables) (e : Entry) → EntryFits p types e → OwnFit (own_count p) v → EntryFits p types (with_variables v e)
with_own p types None e h f = h
with_own p types (Some v) e h f = (h.0, h.1, f)

module _ (job : Job) (types : List ℕ) where
  -- a step

  abbrev given : Target → Option ℕ → Course → Input
  given t x r = input_at t x (course_world r)

  abbrev after : CommandPlace → Target → Option ℕ → Course → Course
  after site t x r = put_back site x (outcome_of (step_in job.program (given t x r))) r

  abbrev made : CommandPlace → Target → Option ℕ → Course → Step
  made site t x r = step_kept site.command (given t x r) (own_left (step_in job.program (given t x r)))

  stepped_is : (site : CommandPlace) (t : Target) (x : Option ℕ) (r : Course) (seen : List Step) → IsPlace x (course_world r) → stepped kept job.program site t x (recorded r seen) ≡ recorded (after site t x r) (kept seen (made site t x r))
  stepped_is site t x r seen h =
      sym (step_taken kept job.program (step_local job.program) site t x r seen (kept seen (made site t x r)) (after site t x r) (made site t x r) h refl refl (record { is = refl }) refl refl)

  own_fits : (t : Target) (x : Option ℕ) (r : Course) → Ready job.program types r → IsPlace x (course_world r) → OwnFit (own_count job.program) (own_values (given t x r))
  own_fits t None r h i = tt
  own_fits t (Some n) r h i = (h.entries n no_entry i).2

  entries_fit : (t : Target) (x : Option ℕ) (r : Course) (v : Option Variables) → Ready job.program types r → IsPlace x (course_world r) → OwnFit (own_count job.program) v → All (EntryFits job.program types) (variables_back x v r.entries)
  entries_fit t None r v h i f = h.entries
  entries_fit t (Some n) r v h i f =
      let e = slice_index_or r.entries n no_entry in
      All-set (EntryFits job.program types) r.entries n (with_variables v e) (with_own job.program types v e (h.entries n no_entry i) f) h.entries

  ready_after : (site : CommandPlace) (t : Target) (x : Option ℕ) (r : Course) → Ready job.program types r → IsPlace x (course_world r) → Ready job.program types (after site t x r)
  ready_after site t x r h i =
      let o = outcome_of (step_in job.program (given t x r)) in
      let f = values_fit_again job.program (global_count job.program) (own_count job.program) (given t x r) h.globals (own_fits t x r h i) in
      record {
        entries = entries_fit t x r o.variables h i f.1;
        ordered = ordered_back site x o r (after site t x r) refl h.ordered;
        globals = f.0;
      }

  runs_given : (t : Target) (n : ℕ) (r : Course) → Ready job.program types r → n < length r.entries → Runs job.program types (actions.Iterate t) (given t (Some n) r)
  runs_given t n r h i =
      let e = h.entries n no_entry i in
      (refl, (e.0, e.1, (e.2.0, e.2.1)))

  -- the messages of one step, and of what follows
  one_step : (K : Recorded (List Step) → Recorded (List Step)) (site : CommandPlace) (t : Target) (x : Option ℕ) (r : Course) (seen : List Step) (is : List Input) → IsPlace x (course_world r) → step_messages (K (recorded (after site t x r) (kept seen (made site t x r)))).seen ≡ step_messages (kept seen (made site t x r)) ++ unless (after site t x r).stopped (messages_from job.program (after site t x r).globals is) → step_messages (K (stepped kept job.program site t x (recorded r seen))).seen ≡ step_messages seen ++ messages_from job.program r.globals (given t x r ∷ is)
  one_step K site t x r seen is h e =
      let left = step_in job.program (given t x r) in
      let rest = unless left.stopped (messages_from job.program left.world.globals is) in
      let last = append-nil left.world.messages in
      ap (λ q. step_messages (K q).seen) (stepped_is site t x r seen h)
      ∙ e
      ∙ ap (λ ms. ms ++ rest) (flat_map-append (λ (s : Step). s.outcome.messages) seen (made site t x r ∷ []) ∙ ap (λ ms. step_messages seen ++ ms) last)
      ∙ append_assoc (step_messages seen) left.world.messages rest

  -- What runs after this command has steps of this kind, and its messages are theirs.
  abbrev GoesOn : (Recorded (List Step) → Recorded (List Step)) → (List Input → Type 0) → Type 0
  GoesOn K T =
      (r : Course) (seen : List Step) → Ready job.program types r →
      (is : List Input) × T is × (step_messages (K (recorded r seen)).seen ≡ step_messages seen ++ unless r.stopped (messages_from job.program r.globals is))

  -- the same of a command and what runs after it
  abbrev Goes : (List Input → Type 0) → (List Input → Type 0) → Recorded (List Step) → Course → List Step → Type 0
  Goes A T q r seen =
      (own : List Input) × (rest : List Input) × A own × T rest ×
      (step_messages q.seen ≡ step_messages seen ++ unless r.stopped (messages_from job.program r.globals (own ++ rest)))

  module _ (K : Recorded (List Step) → Recorded (List Step)) (T : List Input → Type 0) (go : GoesOn K T) where
    -- ITERATE and REVERSE

    over_one : (a : Action) (site : CommandPlace) (t : Target) → ((i : Input) → Runs job.program types (actions.Iterate t) i → Runs job.program types a i) → (n : ℕ) (ns : List ℕ) (r : Course) (seen : List Step) → Ready job.program types r → n < length r.entries →
        Goes (AllRun job.program types a) T (K (iterated kept job.program site t ns (recorded r seen))) r seen →
        Goes (AllRun job.program types a) T (K (iterated kept job.program site t ns (recorded (after site t (Some n) r) (kept seen (made site t (Some n) r))))) (after site t (Some n) r) (kept seen (made site t (Some n) r)) →
        (b : Bool) → r.stopped ≡ b → Goes (AllRun job.program types a) T (K (iterated kept job.program site t (n ∷ ns) (recorded r seen))) r seen
    over_one a site t runs n ns r seen h here g g' true q =
        (g.0, g.1, g.2, g.3, ap (λ b. step_messages (K (iterated kept job.program site t ns (if b then recorded r seen else stepped kept job.program site t (Some n) (recorded r seen)))).seen) q ∙ g.4)
    over_one a site t runs n ns r seen h here g g' false q = (
      given t (Some n) r ∷ g'.0,
      g'.1,
      (runs (given t (Some n) r) (runs_given t n r h here), g'.2),
      g'.3,
      ap (λ b. step_messages (K (iterated kept job.program site t ns (if b then recorded r seen else stepped kept job.program site t (Some n) (recorded r seen)))).seen) q
          ∙ one_step (λ u. K (iterated kept job.program site t ns u)) site t (Some n) r seen (g'.0 ++ g'.1) here g'.4
          ∙ ap (λ b. step_messages seen ++ unless b (messages_from job.program r.globals (given t (Some n) r ∷ g'.0 ++ g'.1))) (sym q),
    )

    over : (a : Action) (site : CommandPlace) (t : Target) → ((i : Input) → Runs job.program types (actions.Iterate t) i → Runs job.program types a i) → (ns : List ℕ) (r : Course) (seen : List Step) → Ready job.program types r → All (λ n. n < length r.entries) ns → Goes (AllRun job.program types a) T (K (iterated kept job.program site t ns (recorded r seen))) r seen
    over a site t runs [] r seen h below =
        let g = go r seen h in
        ([], g.0, tt, g.1, g.2)
    over a site t runs (n ∷ ns) r seen h below =
        let here = All-head (λ n. n < length r.entries) n ns below in
        let others = All-tail (λ n. n < length r.entries) n ns below in
        let next = after site t (Some n) r in
        let as_many = length_back site (Some n) (outcome_of (step_in job.program (given t (Some n) r))) r next refl in
        over_one a site t runs n ns r seen h here (over a site t runs ns r seen h others)
        (over a site t runs ns next (kept seen (made site t (Some n) r)) (ready_after site t (Some n) r h here) (subst (λ m. All (λ n. n < m) ns) (sym as_many) others))
        r.stopped refl

    -- a command that runs no step
    still : (a : Action) (r r' : Course) (seen : List Step) → Ready job.program types r' → r'.globals ≡ r.globals → r'.stopped ≡ r.stopped → Goes (AllRun job.program types a) T (K (recorded r' seen)) r seen
    still a r r' seen h q e =
        let g = go r' seen h in
        ([], g.0, tt, g.1, g.2 ∙ (λ j. step_messages seen ++ unless (e j) (messages_from job.program (q j) g.0)))

    execute : (site : CommandPlace) (t : Target) (r : Course) (seen : List Step) → Ready job.program types r → r.stopped ≡ false → Goes (AreStepsOf job.program types (actions.Execute t)) T (K (stepped kept job.program site t None (recorded r seen))) r seen
    execute site t r seen h q =
        let g = go (after site t None r) (kept seen (made site t None r)) (ready_after site t None r h tt) in (
          given t None r ∷ [],
          g.0,
          (given t None r, refl, (refl, refl)),
          g.1,
          one_step K site t None r seen g.0 tt g.2
              ∙ ap (λ b. step_messages seen ++ unless b (messages_from job.program r.globals (given t None r ∷ g.0))) (sym q),
        )

    blank_fits : (e : FoundEntry) → is_named types e.function ≡ true → length e.fields ≡ length job.program.fields → EntryFits job.program types (with_blank_variables job.program e)
    blank_fits e h i =
        (h, i, (length-map job.program.entry_numbers (λ name. pos 0), length-map job.program.entry_texts (λ name. []), All-map (λ t. length t ≤ text_size_limit) (λ name. []) job.program.entry_texts (λ k d i. omega arith)))

    ready_read : (number : ℕ) (r : Course) → HasTypes types job → Ready job.program types r → Ready job.program types (read job number r)
    ready_read number r f h =
        let databases = map (λ name. items_of (pieces_of (unwrap_or (text_of job.files name) []))) job.databases in
        let fields = found_fields (declared_before number job.program) job.cites databases job.min in
        record {
          entries = All-map (EntryFits job.program types) (with_blank_variables job.program) (found_for job number).entries
              (λ k d i. blank_fits (slice_index_or (found_for job number).entries k d) (f number k d i) (fields k d i));
          ordered = read_ordered job number r (read job number r) refl;
          globals = h.globals;
        }

    ready_sorted : (r : Course) → Ready job.program types r → Ready job.program types (sorted_run r)
    ready_sorted r h =
        record { entries = h.entries; ordered = sorted_ordered r (sorted_run r) refl; globals = h.globals }

    command_goes : (number line : ℕ) (a : Action) (r : Course) (seen : List Step) → HasTypes types job → Ready job.program types r → r.stopped ≡ false → Goes (AreStepsOf job.program types a) T (K (carried_out kept job number line a (recorded r seen))) r seen
    command_goes number line (actions.Execute t) r seen f h q =
        execute (record { style = job.style; command = number; line = line }) t r seen h q
    command_goes number line (actions.Iterate t) r seen f h q =
        over (actions.Iterate t) (record { style = job.style; command = number; line = line }) t (λ i u. u) r.order r seen h h.ordered.below
    command_goes number line (actions.Reverse t) r seen f h q =
        over (actions.Reverse t) (record { style = job.style; command = number; line = line }) t (λ i u. u) (reverse r.order) r seen h
        (All-permutation (λ n. n < length r.entries) r.order (reverse r.order) (IsPermutation-reverse r.order) h.ordered.below)
    command_goes number line actions.Read r seen f h q = still actions.Read r (read job number r) seen (ready_read number r f h) refl refl
    command_goes number line actions.Sort r seen f h q = still actions.Sort r (sorted_run r) seen (ready_sorted r h) refl refl
    command_goes number line actions.Entry r seen f h q = still actions.Entry r r seen h refl refl
    command_goes number line (actions.Function n) r seen f h q = still (actions.Function n) r r seen h refl refl
    command_goes number line actions.Integers r seen f h q = still actions.Integers r r seen h refl refl
    command_goes number line (actions.Macro n) r seen f h q = still (actions.Macro n) r r seen h refl refl
    command_goes number line actions.Strings r seen f h q = still actions.Strings r r seen h refl refl

  -- steps that a command could have run, for a run that was stopped before it

  abbrev asked : Target → Input
  asked t = record { target = t; entry = None; globals = no_variables; held = []; preamble = [] }

  some_steps : (a : Action) → (own : List Input) × AreStepsOf job.program types a own
  some_steps (actions.Execute t) = (asked t ∷ [], (asked t, refl, (refl, refl)))
  some_steps (actions.Iterate t) = ([], tt)
  some_steps (actions.Reverse t) = ([], tt)
  some_steps actions.Read = ([], tt)
  some_steps actions.Sort = ([], tt)
  some_steps actions.Entry = ([], tt)
  some_steps (actions.Function n) = ([], tt)
  some_steps actions.Integers = ([], tt)
  some_steps (actions.Macro n) = ([], tt)
  some_steps actions.Strings = ([], tt)

  -- commands in order

  nothing_more : (b : Bool) (ms : List Message) → ms ≡ ms ++ unless b []
  nothing_more true ms = sym (append-nil ms)
  nothing_more false ms = sym (append-nil ms)

  one_command : (f : HasTypes types job) (number : ℕ) (c : Command) (cs : List Command) → GoesOn (commands_from kept job (suc number) cs) (AreStepsInOrder job.program types cs) → (r : Course) (seen : List Step) → Ready job.program types r → (b : Bool) → r.stopped ≡ b → (is : List Input) × AreStepsInOrder job.program types (c ∷ cs) is × (step_messages (commands_from kept job number (c ∷ cs) (recorded r seen)).seen ≡ step_messages seen ++ unless r.stopped (messages_from job.program r.globals is))
  one_command f number c cs go r seen h true q =
      let g = go r seen h in
      let own = some_steps c.action in (
        own.0 ++ g.0,
        (own.0, g.0, refl, own.1, g.1),
        ap (λ b. step_messages (commands_from kept job (suc number) cs (if b then recorded r seen else carried_out kept job number c.line c.action (recorded r seen))).seen) q
            ∙ g.2
            ∙ ap (λ b. step_messages seen ++ unless b (messages_from job.program r.globals g.0)) q
            ∙ ap (λ b. step_messages seen ++ unless b (messages_from job.program r.globals (own.0 ++ g.0))) (sym q),
      )
  one_command f number c cs go r seen h false q =
      let g = command_goes (λ u. commands_from kept job (suc number) cs u) (AreStepsInOrder job.program types cs) go number c.line c.action r seen f h q in (
        g.0 ++ g.1,
        (g.0, g.1, refl, g.2, g.3),
        ap (λ b. step_messages (commands_from kept job (suc number) cs (if b then recorded r seen else carried_out kept job number c.line c.action (recorded r seen))).seen) q
            ∙ g.4,
      )

  commands_go : (f : HasTypes types job) (number : ℕ) (cs : List Command) → GoesOn (commands_from kept job number cs) (AreStepsInOrder job.program types cs)
  commands_go f number [] r seen h = ([], refl, nothing_more r.stopped (step_messages seen))
  commands_go f number (c ∷ cs) r seen h = one_command f number c cs (commands_go f (suc number) cs) r seen h r.stopped refl

  -- a run begins

  ready_begun : (log : List Message) → Ready job.program types (run_begun (first_globals job.program) log).course
  ready_begun log =
      record {
        entries = All-nil (EntryFits job.program types);
        ordered = begun_ordered (first_globals job.program) log (run_begun (first_globals job.program) log).course refl;
        globals = (length-map job.program.global_numbers first_number, length-map job.program.global_texts (λ name. []), All-map (λ t. length t ≤ text_size_limit) (λ name. []) job.program.global_texts (λ k d i. omega arith));
      }

  style_clean : (log : List Message) → Promises job.program types → HasTypes types job → is_clean (step_messages (style_run job log).seen) ≡ true
  style_clean log s f =
      let g = commands_go f 0 job.program.commands (run_begun (first_globals job.program) log).course [] (ready_begun log) in
      subst (λ ms. is_clean ms ≡ true) (sym g.2) (s g.0 g.1)

-- runs over files
pub sound_over_files : SoundOverFiles
unfolding trace run_of
sound_over_files files root min style p types named is_style s f =
    let c = citations files root in
    let ran = style_read files c min style style style (unwrap_or (text_of files style) []) c.databases p named refl refl is_style refl refl in
    subst (λ (r : Recorded (List Step)). is_clean (step_messages r.seen) ≡ true) ran (style_clean (job_over files root min style p) types c.log s f)
