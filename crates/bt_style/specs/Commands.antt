-- Commands with their arguments.
use Rattle.std.specs.Prelude.{ℕ, List, [], ◌∷◌, ◌++◌, length, Some, None, Result, Ok}
use Rattle.bt_style.specs.declared.fault.FaultKind.TheVariants.{UnknownCommand}
use Rattle.bt_style.specs.declared.fault.StyleFault.{StyleFault}
use Rattle.bt_style.specs.declared.style.Target.{Target}
use Rattle.bt_style.specs.declared.style.Action.{Action}
use Rattle.bt_style.specs.declared.style.Action.TheVariants as actions
use Rattle.bt_style.specs.declared.verbs.Verb.{Verb}
use Rattle.bt_style.specs.declared.verbs.Verb.TheVariants as verbs
use Rattle.bt_style.specs.declared.verbs.Stage.{Stage}
use Rattle.bt_style.specs.declared.names.Names.{Names}
use Rattle.bt_style.specs.declared.names.Names.TheVariants.{Fields, EntryNumbers, EntryTexts, GlobalNumbers, GlobalTexts}
use Rattle.bt_style.specs.Program.{Program}
use Rattle.bt_style.specs.Fault.{fault, ◌>>=◌}
use Rattle.bt_style.specs.Token.{Tokens}
use Rattle.bt_style.specs.Names.{is_taken, is_macro}
use Rattle.bt_style.specs.Draft.{with_command}
use Rattle.bt_style.specs.Arguments.{open_at, close_at, braced_word, literal_at}
use Rattle.bt_style.specs.Declares.{new_name, target_of, runnable, braced_names}
use Rattle.bt_style.specs.Bodies.{body_at}
use Rattle.bt_style.specs.Verbs.{verb_named, out_of_order, stage_after}

-- what a word stands for, if that can be run
abbrev pub run_target : Program → List ℕ → ℕ → Result Target StyleFault
run_target p word line = target_of p word line >>= λ target. runnable target line

-- a command that runs a function
abbrev pub run_at : (Target → Action) → ℕ → Program → Tokens → Result (Program × Tokens) StyleFault
run_at action line p tokens = do
  target ← braced_word (run_target p) tokens
  Ok (with_command (action target.0) line p, target.1)

-- a command that declares global variables
abbrev pub variables_at : Names → Action → ℕ → Program → Tokens → Result (Program × Tokens) StyleFault
variables_at list action line p tokens = do
  declared ← braced_names list p tokens
  Ok (with_command action line declared.0, declared.1)

-- a program after a command, and the tokens after its arguments
unfoldable pub arguments_at : Verb → ℕ → Program → Tokens → Result (Program × Tokens) StyleFault
arguments_at verbs.Entry line p tokens = do
  fields ← braced_names Fields p tokens
  numbers ← braced_names EntryNumbers fields.0 fields.1
  texts ← braced_names EntryTexts numbers.0 numbers.1
  Ok (with_command actions.Entry line texts.0, texts.1)
arguments_at verbs.Execute line p tokens = run_at actions.Execute line p tokens
arguments_at verbs.Function line p tokens = do
  name ← braced_word (new_name (is_taken p)) tokens
  inside ← open_at name.1
  body ← body_at p [] [] inside
  Ok (with_command (actions.Function (length p.functions)) line (record p { functions = p.functions ++ (record { name = name.0; body = body.0 }) ∷ [] }), body.1)
arguments_at verbs.Integers line p tokens = variables_at GlobalNumbers actions.Integers line p tokens
arguments_at verbs.Iterate line p tokens = run_at actions.Iterate line p tokens
arguments_at verbs.Macro line p tokens = do
  name ← braced_word (new_name (is_macro p)) tokens
  inside ← open_at name.1
  text ← literal_at inside
  rest ← close_at text.1
  Ok (with_command (actions.Macro (length p.macros)) line (record p { macros = p.macros ++ (record { name = name.0; text = text.0 }) ∷ [] }), rest)
arguments_at verbs.Read line p tokens = Ok (with_command actions.Read line p, tokens)
arguments_at verbs.Reverse line p tokens = run_at actions.Reverse line p tokens
arguments_at verbs.Sort line p tokens = Ok (with_command actions.Sort line p, tokens)
arguments_at verbs.Strings line p tokens = variables_at GlobalTexts actions.Strings line p tokens

-- The command that begins with this word: how far the commands have come after it, the program after it, and the tokens
-- that follow.
unfoldable pub command_at : Stage → Program → List ℕ → ℕ → Tokens → Result (Stage × Program × Tokens) StyleFault
command_at stage p word line tokens = do
  verb ← elim (verb_named word) [ None ↦ fault UnknownCommand line | Some verb ↦ Ok verb ]
  allowed ← elim (out_of_order verb stage) [ None ↦ Ok (tt {0}) | Some kind ↦ fault kind line ]
  next ← arguments_at verb line p tokens
  Ok (stage_after verb stage, next.0, next.1)
