-- The definitions at small programs.
use Rattle.std.specs.Prelude.{◌≡◌, ℕ, false, pos, negsuc, List, [], ◌∷◌, ◌++◌, Option, None, Some, codes, refl, replicate}
use Rattle.bt_style.specs.declared.builtin.Builtin.TheVariants.{Assign, CallType, Cite, If, Minus, Newline, Skip, While, Write}
use Rattle.bt_style.specs.declared.style.Target.TheVariants.{Builtin, Function, GlobalNumber}
use Rattle.bt_style.specs.Builtins.{table}
use Rattle.bt_style.specs.Tree.{Element, Amount, Words, Quoted, Braced, Called, End, body_of}
use Rattle.bt_style.specs.Program.{Definition, Program}
use Rattle.bt_actions.specs.declared.entry.Entry.{Entry}
use Rattle.bt_actions.specs.declared.complaint.Complaint.{Complaint}
use Rattle.bt_actions.specs.declared.complaint.Complaint.TheVariants.{EmptyStack, WrongKind, NoEntry, LeftOver, TicksPassed, StackPassed}
use Rattle.bt_log.specs.declared.message.Message.{Message}
use Rattle.bt_actions.specs.Item.{Num}
use Rattle.bt_actions.specs.World.{World, no_variables, told_message}
use Rattle.bt_machine.specs.Eval.{eval_within, eval, Done, Stopped}
use Rattle.bt_machine.specs.Step.{Finish, step}
use Rattle.bt_machine.specs.inner.Cases.{step_begun}

-- a style of these functions
abbrev style : List Definition → Program
style fs =
    record {
      fields = [];
      entry_numbers = [];
      entry_texts = [];
      global_numbers = [];
      global_texts = [];
      macros = [];
      functions = fs;
      commands = [];
    }

-- a function of these elements
abbrev function : List Element → Definition
function es = record { name = codes "f"; body = body_of es }

abbrev default : List Element → Definition
default es = record { name = codes "default.type"; body = body_of es }

-- an entry whose type has this function
abbrev cited : Option ℕ → Entry
cited f =
    record { key = codes "b"; kind = codes "book"; function = f; fields = []; variables = no_variables }

abbrev start : List Entry → World
start es =
    record {
      entries = es;
      current = None;
      globals = record { numbers = pos 0 ∷ []; texts = [] };
      preamble = [];
      held = [];
      lines = [];
      messages = [];
      stack = [];
    }

-- "key " write$ cite$ write$ newline$
written_key : step (style (function (Words (codes "key ") ∷ Called (Builtin Write) ∷ Called (Builtin Cite) ∷ Called (Builtin Write) ∷ Called (Builtin Newline) ∷ []) ∷ [])) (Some 0) (Function 0) (start (cited None ∷ [])) ≡ record { world = record (start (cited None ∷ [])) { lines = codes "key b" ∷ [] }; stopped = false; cost = 6; calls = replicate 11 0 ++ 1 ∷ replicate 7 0 ++ 1 ∷ replicate 16 0 ++ 2 ∷ [] }
unfolding eval_within table
written_key = refl

-- a step's messages and cost, without an entry
abbrev of_bodies : List Definition → Finish
of_bodies fs = step (style fs) None (Function 0) (start [])

abbrev of_elements : List Element → Finish
of_elements es = of_bodies (function es ∷ [])

-- what such a step tells
abbrev tells : List Complaint → List Message
tells [] = []
tells (m ∷ ms) = told_message (start []) m ∷ tells ms

-- #1 {"a"} {"b"} if$ write$, and with 0 and with -1
above_zero : (of_elements (Amount (pos 1) ∷ Braced (body_of (Words (codes "a") ∷ [])) ∷ Braced (body_of (Words (codes "b") ∷ [])) ∷ Called (Builtin If) ∷ Called (Builtin Write) ∷ [])).world.held ≡ codes "a"
unfolding eval_within table
above_zero = refl

zero_chooses : (of_elements (Amount (pos 0) ∷ Braced (body_of (Words (codes "a") ∷ [])) ∷ Braced (body_of (Words (codes "b") ∷ [])) ∷ Called (Builtin If) ∷ Called (Builtin Write) ∷ [])).world.held ≡ codes "b"
unfolding eval_within table
zero_chooses = refl

below_zero : (of_elements (Amount (negsuc 0) ∷ Braced (body_of (Words (codes "a") ∷ [])) ∷ Braced (body_of (Words (codes "b") ∷ [])) ∷ Called (Builtin If) ∷ Called (Builtin Write) ∷ [])).world.held ≡ codes "b"
unfolding eval_within table
below_zero = refl

-- #1 'skip$ {} if$: the call of the quoted name takes a tick, and is counted
quoted_costs : of_elements (Amount (pos 1) ∷ Quoted (Builtin Skip) ∷ Braced End ∷ Called (Builtin If) ∷ []) ≡ record { world = start []; stopped = false; cost = 6; calls = replicate 15 0 ++ 1 ∷ replicate 9 0 ++ 1 ∷ replicate 11 0 }
unfolding eval_within table
quoted_costs = refl

-- #1 {skip$} {} if$: its element takes a tick
braced_costs : (of_elements (Amount (pos 1) ∷ Braced (body_of (Called (Builtin Skip) ∷ [])) ∷ Braced End ∷ Called (Builtin If) ∷ [])).cost ≡ 6
unfolding eval_within table
braced_costs = refl

-- if$ looks at all three kinds: "t" {} {} if$, #1 #1 {} if$, #1 {} #1 if$, and {} if$
if_kinds : of_elements (Words (codes "t") ∷ Braced End ∷ Braced End ∷ Called (Builtin If) ∷ Amount (pos 1) ∷ Amount (pos 1) ∷ Braced End ∷ Called (Builtin If) ∷ Amount (pos 1) ∷ Braced End ∷ Amount (pos 1) ∷ Called (Builtin If) ∷ Braced End ∷ Called (Builtin If) ∷ []) ≡ record { world = record (start []) { messages = tells (WrongKind If ∷ WrongKind If ∷ WrongKind If ∷ EmptyStack ∷ EmptyStack ∷ []) }; stopped = false; cost = 15; calls = replicate 15 0 ++ 4 ∷ replicate 21 0 }
unfolding eval_within table
if_kinds = refl

-- #2 'g := {g} {g #1 - 'g :=} while$: three tests and two turns
counted_down : of_elements (Amount (pos 2) ∷ Quoted (GlobalNumber 0) ∷ Called (Builtin Assign) ∷ Braced (body_of (Called (GlobalNumber 0) ∷ [])) ∷ Braced (body_of (Called (GlobalNumber 0) ∷ Amount (pos 1) ∷ Called (Builtin Minus) ∷ Quoted (GlobalNumber 0) ∷ Called (Builtin Assign) ∷ [])) ∷ Called (Builtin While) ∷ []) ≡ record { world = start []; stopped = false; cost = 20; calls = replicate 4 0 ++ 2 ∷ 0 ∷ 3 ∷ replicate 27 0 ++ 1 ∷ 0 ∷ 0 ∷ [] }
unfolding eval_within table
counted_down = refl

-- a loop ends without a number: {} {} while$, {"t"} {} while$, and while$ without its arguments
loop_ends : of_elements (Braced End ∷ Braced End ∷ Called (Builtin While) ∷ Braced (body_of (Words (codes "t") ∷ [])) ∷ Braced End ∷ Called (Builtin While) ∷ Called (Builtin While) ∷ []) ≡ record { world = record (start []) { messages = tells (EmptyStack ∷ WrongKind While ∷ EmptyStack ∷ EmptyStack ∷ []) }; stopped = false; cost = 9; calls = replicate 34 0 ++ 3 ∷ 0 ∷ 0 ∷ [] }
unfolding eval_within table
loop_ends = refl

-- #1 #2 {} {} while$: a loop without a tick of its own takes the numbers from the stack
loop_pops : of_elements (Amount (pos 3) ∷ Amount (pos 2) ∷ Braced End ∷ Braced End ∷ Called (Builtin While) ∷ []) ≡ record { world = record (start []) { messages = tells (EmptyStack ∷ []) }; stopped = false; cost = 6; calls = replicate 34 0 ++ 1 ∷ 0 ∷ 0 ∷ [] }
unfolding eval_within table
loop_pops = refl

-- {#1} {skip$} while$ with 9 ticks: three for itself, and the third turn's body has none left
endless : eval (style []) (body_of (Braced (body_of (Amount (pos 1) ∷ [])) ∷ Braced (body_of (Called (Builtin Skip) ∷ [])) ∷ Called (Builtin While) ∷ [])) (step_begun None (start [])) (8, replicate 37 0) ≡ Stopped (record (step_begun None (start [])) { messages = tells (TicksPassed ∷ []) }) (0, replicate 25 0 ++ 2 ∷ replicate 8 0 ++ 1 ∷ 0 ∷ 0 ∷ [])
unfolding eval_within table
endless = refl

-- call.type$ runs the type's function, and its call takes no tick of its own
type_runs : (step (style (function (Called (Builtin CallType) ∷ []) ∷ function (Called (Builtin Cite) ∷ Called (Builtin Write) ∷ []) ∷ default (Words (codes "d") ∷ Called (Builtin Write) ∷ []) ∷ [])) (Some 0) (Function 0) (start (cited (Some 1) ∷ []))) ≡ record { world = record (start (cited (Some 1) ∷ [])) { held = codes "b" }; stopped = false; cost = 4; calls = replicate 8 0 ++ 1 ∷ 0 ∷ 0 ∷ 1 ∷ replicate 24 0 ++ 1 ∷ [] }
unfolding eval_within table
type_runs = refl

-- else `default.type`, wherever it stands
default_runs : (step (style (function (Called (Builtin CallType) ∷ []) ∷ default (Words (codes "d") ∷ Called (Builtin Write) ∷ []) ∷ [])) (Some 0) (Function 0) (start (cited None ∷ []))) ≡ record { world = record (start (cited None ∷ [])) { held = codes "d" }; stopped = false; cost = 4; calls = replicate 8 0 ++ 1 ∷ replicate 27 0 ++ 1 ∷ [] }
unfolding eval_within table
default_runs = refl

-- else nothing
nothing_runs : (step (style (function (Called (Builtin CallType) ∷ []) ∷ [])) (Some 0) (Function 0) (start (cited None ∷ []))) ≡ record { world = start (cited None ∷ []); stopped = false; cost = 2; calls = replicate 8 0 ++ 1 ∷ replicate 28 0 }
unfolding eval_within table
nothing_runs = refl

-- without an entry an error
type_of_none : of_bodies (function (Called (Builtin CallType) ∷ []) ∷ default (Words (codes "d") ∷ []) ∷ []) ≡ record { world = record (start []) { messages = tells (NoEntry ∷ []) }; stopped = false; cost = 2; calls = replicate 8 0 ++ 1 ∷ replicate 28 0 }
unfolding eval_within table
type_of_none = refl

-- what is left on the stack is an error, and is taken away
left_over : of_elements (Amount (pos 3) ∷ []) ≡ record { world = record (start []) { messages = tells (LeftOver ∷ []) }; stopped = false; cost = 2; calls = replicate 37 0 }
unfolding eval_within table
left_over = refl

-- a step may be the call of a built-in function: no such function of the style is nothing
step_of_builtin : step (style []) None (Builtin Cite) (start []) ≡ record { world = record (start []) { messages = tells (NoEntry ∷ LeftOver ∷ []) }; stopped = false; cost = 1; calls = replicate 11 0 ++ 1 ∷ replicate 25 0 }
unfolding eval_within table
step_of_builtin = refl

no_function : of_bodies [] ≡ record { world = start []; stopped = false; cost = 1; calls = replicate 37 0 }
unfolding eval_within table
no_function = refl

-- an element that would pass a limit has taken its tick, and stops the run
full_stack : eval (style []) (body_of (Amount (pos 1) ∷ Called (Builtin Skip) ∷ [])) (record (start []) { stack = replicate 1000 (Num (pos 1)) }) (7, []) ≡ Stopped (record (start []) { stack = replicate 1000 (Num (pos 1)); messages = tells (StackPassed ∷ []) }) (6, [])
unfolding eval_within table
full_stack = refl

-- the last tick can be taken, and without one an element is neither carried out nor counted
last_tick : eval (style []) (body_of (Called (Builtin Skip) ∷ [])) (step_begun None (start [])) (1, replicate 37 0) ≡ Done (step_begun None (start [])) (0, replicate 25 0 ++ 1 ∷ replicate 11 0)
unfolding eval_within table
last_tick = refl

no_tick : eval (style []) (body_of (Called (Builtin Skip) ∷ Called (Builtin Skip) ∷ [])) (step_begun None (start [])) (1, replicate 37 0) ≡ Stopped (record (step_begun None (start [])) { messages = tells (TicksPassed ∷ []) }) (0, replicate 25 0 ++ 1 ∷ replicate 11 0)
unfolding eval_within table
no_tick = refl
