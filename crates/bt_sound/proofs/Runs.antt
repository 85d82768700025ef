-- A run of a style whose commands are checked gives no excluded message before an overflow.
use Rattle.std.proofs.Common.{◌≡◌, ℕ, ℤ, Bool, true, false, List, [], ◌∷◌, ◌++◌, map, length, replicate, inl, inr, refl, sym, subst, arith, true≢false}
use Rattle.std.specs.Prelude.{if◌then◌else◌}
use Rattle.std.proofs.lemmas.Int.{ints}
use Rattle.bt_style.specs.declared.style.Target.{Target}
use Rattle.bt_style.specs.declared.style.Action.{Action}
use Rattle.bt_style.specs.declared.style.Action.TheVariants as actions
use Rattle.bt_style.specs.declared.style.Command.{Command}
use Rattle.bt_style.specs.Program.{Program}
use Rattle.bt_actions.specs.declared.entry.Variables.{Variables}
use Rattle.bt_log.specs.declared.message.Message.{Message}
use Rattle.bt_machine.specs.declared.input.Input.{Input}
use Rattle.bt_machine.specs.Step.{Finish, step_in}
use Rattle.bt_sound.specs.Excluded.{is_clean}
use Rattle.bt_sound.specs.Known.{KnownVariables, exactly}
use Rattle.bt_sound.specs.Reading.{only_blank}
use Rattle.bt_sound.specs.Fits.{Each, IsIn, TextFits, VariablesFit}
use Rattle.bt_sound.specs.Sound.{first_number, first_globals, IsOfSome, Runs, AllRun, AreStepsOf, AreStepsInOrder, messages_from, Promises}
use Rattle.bt_sound.specs.Checked.{first_known, IsChecked, IsCheckedOften, IsCheckedAction, AreChecked, IsCheckedStyle}
use Rattle.bt_sound.proofs.CoverLemmas.{variables_in}
use Rattle.bt_sound.proofs.Messages.{clean_append, past_append}
use Rattle.bt_sound.proofs.Steps.{FinishFits, execute_fits, iterate_fits}

-- one step, and what follows

if_clean : (b : Bool) (ns : List Message) → is_clean ns ≡ true → is_clean (if b then [] else ns) ≡ true
if_clean true ns h = refl
if_clean false ns h = h

stopped_clean : (b : Bool) (ns : List Message) → b ≡ true → is_clean (if b then [] else ns) ≡ true
stopped_clean true ns h = refl
stopped_clean false ns h = absurd (true≢false (sym h))

abbrev rest_of : Finish → (Variables → List Message) → List Message
rest_of f rest = if f.stopped then [] else rest f.world.globals

module _ (k : KnownVariables) (f : Finish) (rest : Variables → List Message) where
  goes_on : FinishFits k f → ((g : Variables) → VariablesFit k g → is_clean (rest g) ≡ true) → is_clean (f.world.messages ++ rest_of f rest) ≡ true
  goes_on (c, inl s) h =
      clean_append f.world.messages (rest_of f rest) c (stopped_clean f.stopped (rest f.world.globals) s)
  goes_on (c, inr (inl o)) h = past_append f.world.messages (rest_of f rest) c o
  goes_on (c, inr (inr v)) h =
      clean_append f.world.messages (rest_of f rest) c (if_clean f.stopped (rest f.world.globals) (h f.world.globals v))

-- steps from globals of which something is known

abbrev CleanFrom : Program → List Input → KnownVariables → Type 0
CleanFrom p is k = (g : Variables) → VariablesFit k g → is_clean (messages_from p g is) ≡ true

module _ (p : Program) (types : List ℕ) where
  one_step : (i : Input) (rest : List Input) (k : KnownVariables) (g : Variables) → FinishFits k (step_in p (record i { globals = g })) → CleanFrom p rest k → is_clean (messages_from p g (i ∷ rest)) ≡ true
  one_step i rest k g h f =
      goes_on k (step_in p (record i { globals = g })) (λ v. messages_from p v rest) h f

  executes : (t : Target) (k l : KnownVariables) → IsChecked p types false t k l → (own rest : List Input) → AreStepsOf p types (actions.Execute t) own → CleanFrom p rest l → CleanFrom p (own ++ rest) k
  executes t k l c own rest (i, q, r) f g v =
      subst (λ own. is_clean (messages_from p g (own ++ rest)) ≡ true) (sym q)
      (one_step i rest l g (execute_fits p types t k l c (record i { globals = g }) v r.0 r.1) f)

  -- an action that runs steps of entries
  abbrev RunsOften : Action → Target → Type 0
  RunsOften a t = (i : Input) → Runs p types a i → (i.target ≡ t) × IsOfSome p types i.entry

  again : (a : Action) (t : Target) (k : KnownVariables) → RunsOften a t → IsChecked p types true t k k → (own rest : List Input) → AllRun p types a own → CleanFrom p rest k → CleanFrom p (own ++ rest) k
  again a t k r c [] rest h f g v = f g v
  again a t k r c (i ∷ own) rest h f g v =
      one_step i (own ++ rest) k g (iterate_fits p types t k k c (record i { globals = g }) v (r i h.0).0 (r i h.0).1)
      (again a t k r c own rest h.1 f)

  iterates : (a : Action) (t : Target) (k l : KnownVariables) → RunsOften a t → IsCheckedOften p types t k l → (own rest : List Input) → AllRun p types a own → CleanFrom p rest l → CleanFrom p (own ++ rest) k
  iterates a t k l r c own rest h f g v = again a t l r c.again own rest h f g (variables_in k l g c.begins v)

  -- an action that runs no step
  declares : (a : Action) (k l : KnownVariables) → ((i : Input) → Runs p types a i → ⊥) → k ≡ l → (own rest : List Input) → AllRun p types a own → CleanFrom p rest l → CleanFrom p (own ++ rest) k
  declares a k l n q [] rest h f = subst (CleanFrom p rest) (sym q) f
  declares a k l n q (i ∷ own) rest h f = absurd (n i h.0)

  command_clean : (a : Action) (k l : KnownVariables) → IsCheckedAction p types a k l → (own rest : List Input) → AreStepsOf p types a own → CleanFrom p rest l → CleanFrom p (own ++ rest) k
  command_clean (actions.Execute t) k l c own rest h f = executes t k l c own rest h f
  command_clean (actions.Iterate t) k l c own rest h f = iterates (actions.Iterate t) t k l (λ i r. r) c own rest h f
  command_clean (actions.Reverse t) k l c own rest h f = iterates (actions.Reverse t) t k l (λ i r. r) c own rest h f
  command_clean actions.Entry k l c own rest h f = declares actions.Entry k l (λ i r. r) c own rest h f
  command_clean (actions.Function n) k l c own rest h f = declares (actions.Function n) k l (λ i r. r) c own rest h f
  command_clean actions.Integers k l c own rest h f = declares actions.Integers k l (λ i r. r) c own rest h f
  command_clean (actions.Macro n) k l c own rest h f = declares (actions.Macro n) k l (λ i r. r) c own rest h f
  command_clean actions.Read k l c own rest h f = declares actions.Read k l (λ i r. r) c own rest h f
  command_clean actions.Sort k l c own rest h f = declares actions.Sort k l (λ i r. r) c own rest h f
  command_clean actions.Strings k l c own rest h f = declares actions.Strings k l (λ i r. r) c own rest h f

  commands_clean : (cs : List Command) (is : List Input) (k : KnownVariables) → AreChecked p types cs k → AreStepsInOrder p types cs is → CleanFrom p is k
  commands_clean [] is k c h g v = subst (λ is. is_clean (messages_from p g is) ≡ true) (sym h) refl
  commands_clean (d ∷ cs) is k (l, c, cc') (own, rest, q, h, hs) g v =
      subst (λ is. is_clean (messages_from p g is) ≡ true) (sym q)
      (command_clean d.action k l c own rest h (commands_clean cs rest l cc' hs) g v)

-- the globals when a run begins

itself_in : (n : ℤ) → IsIn (exactly n) n
itself_in n = (omega (arith, ints), omega (arith, ints))

first_in : (names : List (List ℕ)) → Each IsIn (map (λ name. exactly (first_number name)) names) (map first_number names)
first_in [] = tt
first_in (name ∷ names) = (itself_in (first_number name), first_in names)

empty_in : (names : List (List ℕ)) → Each TextFits (replicate (length names) only_blank) (map (λ name. []) names)
empty_in [] = tt
empty_in (name ∷ names) = (refl, empty_in names)

first_fits : (p : Program) → VariablesFit (first_known p) (first_globals p)
first_fits p = (first_in p.global_numbers, empty_in p.global_texts)

pub checked_promises : (p : Program) (types : List ℕ) → IsCheckedStyle p types → Promises p types
checked_promises p types s steps h =
    commands_clean p types p.commands steps s.start s.checked h (first_globals p) (variables_in (first_known p) s.start (first_globals p) s.begins (first_fits p))
