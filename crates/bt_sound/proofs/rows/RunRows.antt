-- Runs of a style whose ITERATE needs what its EXECUTE sets.
use Rattle.std.specs.Prelude.{◌≡◌, pos, [], ◌∷◌, codes, true, false, None, Some, refl}
use Rattle.bt_style.specs.declared.builtin.Builtin.TheVariants.{Assign, If, Pop}
use Rattle.bt_style.specs.declared.style.Action.TheVariants.{Execute, Iterate, Read}
use Rattle.bt_style.specs.declared.style.Command.{Command}
use Rattle.bt_style.specs.declared.style.Action.{Action}
use Rattle.bt_style.specs.declared.style.Target.TheVariants.{Builtin, Function, GlobalNumber}
use Rattle.bt_style.specs.Builtins.{table}
use Rattle.bt_style.specs.Tree.{Amount, Braced, Quoted, Called, End, body_of}
use Rattle.bt_style.specs.Program.{Program}
use Rattle.bt_actions.specs.declared.entry.Entry.{Entry}
use Rattle.bt_actions.specs.World.{no_variables}
use Rattle.bt_machine.specs.declared.input.Input.{Input}
use Rattle.bt_machine.specs.Eval.{eval_within}
use Rattle.bt_sound.specs.Excluded.{is_clean}
use Rattle.bt_sound.specs.Sound.{first_globals, Runs, AreStepsInOrder, messages_from}

abbrev command : Action → Command
command a = record { line = 1; action = a }

-- INTEGERS { n }  FUNCTION {set} { #1 'n := }  FUNCTION {use} { n { } 'pop$ if$ }  READ  EXECUTE {set}  ITERATE {use}
abbrev style : Program
style =
    record {
      fields = [];
      entry_numbers = [];
      entry_texts = [];
      global_numbers = codes "n" ∷ [];
      global_texts = [];
      macros = [];
      functions =
          record { name = codes "set"; body = body_of (Amount (pos 1) ∷ Quoted (GlobalNumber 0) ∷ Called (Builtin Assign) ∷ []) } ∷
          record { name = codes "use"; body = body_of (Called (GlobalNumber 0) ∷ Braced End ∷ Quoted (Builtin Pop) ∷ Called (Builtin If) ∷ []) } ∷ [];
      commands = command Read ∷ command (Execute (Function 0)) ∷ command (Iterate (Function 1)) ∷ [];
    }

abbrev cited : Entry
cited = record { key = codes "a"; kind = codes "book"; function = Some 0; fields = []; variables = no_variables }

abbrev set : Input
set = record { target = Function 0; entry = None; globals = no_variables; held = []; preamble = [] }

abbrev use_it : Input
use_it = record { target = Function 1; entry = Some cited; globals = no_variables; held = []; preamble = [] }

-- a run over two entries
in_order : AreStepsInOrder style (0 ∷ []) style.commands (set ∷ use_it ∷ use_it ∷ [])
in_order =
    let used : Runs style (0 ∷ []) (Iterate (Function 1)) use_it = (refl, (refl, refl, (refl, refl))) in
    let over_entries : AreStepsInOrder style (0 ∷ []) (command (Iterate (Function 1)) ∷ []) (use_it ∷ use_it ∷ []) = (use_it ∷ use_it ∷ [], [], refl, (used, (used, tt)), refl) in
    let from_execute : AreStepsInOrder style (0 ∷ []) (command (Execute (Function 0)) ∷ command (Iterate (Function 1)) ∷ []) (set ∷ use_it ∷ use_it ∷ []) = (set ∷ [], use_it ∷ use_it ∷ [], refl, (set, refl, (refl, refl)), over_entries) in
    ([], set ∷ use_it ∷ use_it ∷ [], refl, tt, from_execute)

run_clean : is_clean (messages_from style (first_globals style) (set ∷ use_it ∷ use_it ∷ [])) ≡ true
unfolding eval_within table
run_clean = refl

-- the same steps without EXECUTE's: `pop$` finds nothing
step_missed : is_clean (messages_from style (first_globals style) (use_it ∷ [])) ≡ false
unfolding eval_within table
step_missed = refl
