-- What is left to do in the loop, what it means, and what an element leads to.
use Rattle.std.proofs.Common.{Bor}
use Rattle.std.specs.Prelude.{◌≡◌, ℤ, pos, negsuc, zero, suc, ◌≤◌, ◌<◌, ◌-◌, Bool, true, false, List, [], ◌∷◌, Option, Some, None, length, map, reverse}
use Rattle.bt_style.specs.declared.style.Op.{Op}
use Rattle.bt_style.specs.declared.style.Target.{Target}
use Rattle.bt_style.specs.Program.{Program}
use Rattle.bt_style.specs.Tree.{Element, Quoted, Braced, Called, End, Then, element_of, ops_body}
use Rattle.bt_style.specs.declared.builtin.Builtin.TheVariants.{While}
use Rattle.bt_actions.specs.declared.code.Code.{Code as HeldCode}
use Rattle.bt_actions.specs.declared.flow.Flow.{Flow}
use Rattle.bt_actions.specs.declared.flow.Flow.TheVariants.{Go, Stop}
use Rattle.bt_actions.specs.declared.tally.Tally.{Tally}
use Rattle.bt_actions.specs.Arguments.{as_number, taken}
use Rattle.bt_actions.specs.Item.{Code, Name, Block}
use Rattle.bt_actions.specs.World.{World}
use Rattle.bt_actions.specs.View.{code_seen}
use Rattle.bt_stack.specs.declared.state.State.{State}
use Rattle.bt_stack.specs.View.{world_of}
use Rattle.bt_machine.specs.declared.control.Frame.{Frame as HeldFrame}
use Rattle.bt_machine.specs.declared.calls.Next.{Next}
use Rattle.bt_machine.specs.declared.calls.Next.TheVariants as next
use Rattle.bt_machine.specs.declared.control.Due.{Due}
use Rattle.bt_machine.specs.declared.control.Due.TheVariants as due
use Rattle.bt_machine.specs.declared.control.Frame.TheVariants as held
use Rattle.bt_machine.specs.Eval.{Counts, Ending, Done, Stopped, by_sign, then_go, code_body, turn, eval, act, calls_after, looped}
use Rattle.bt_machine.specs.inner.Cases.{checked}

-- one thing that is left to do
pub data Frame : Type 0 where
  -- this is to be run
  Run : (code : Code) → Frame
  -- a loop's test was run: the number that it left decides on a turn of the body
  Test : (test body : Code) → Frame

-- what it does
abbrev pub meant : Program → Frame → World → Counts → Ending
meant p (Run c) w k = eval p (code_body c) w k
meant p (Test test body) w k = turn (taken While as_number w) k (eval p (code_body body)) (looped (eval p) test body)

-- what is left to do, the next first
abbrev pub left : Program → List Frame → World → Counts → Ending
left p [] w k = Done w k
left p (f ∷ fs) w k = then_go (meant p f w k) (left p fs)

abbrev pub frame_seen : HeldFrame → Frame
frame_seen (held.Run c) = Run (code_seen c)
frame_seen (held.Test test body) = Test (code_seen test) (code_seen body)

-- what is left of ticks, and the calls
abbrev pub counts : Tally → Counts
counts t = (t.ticks, t.calls)

-- how a run ended
abbrev pub run_ended : Flow → World → Counts → Ending
run_ended Go w k = Done w k
run_ended Stop w k = Stopped w k

-- whether the run was stopped
abbrev pub is_stop : Flow → Bool
is_stop Go = false
is_stop Stop = true

-- the world at a run's end, with an error where the stack isn't empty
abbrev pub checked_at : Flow → World → World
checked_at Go w = checked w.stack w
checked_at Stop w = w

-- the element that puts a function on the stack
abbrev pub putting : Code → Element
putting (Name t) = Quoted t
putting (Block b) = Braced b

-- whether a number is there and above 0
abbrev pub is_above : Option ℤ → Bool
is_above None = false
is_above (Some (pos zero)) = false
is_above (Some (pos (suc n))) = true
is_above (Some (negsuc n)) = false

-- of two functions the one that `if$` runs
abbrev pub by_if : ℤ → HeldCode → HeldCode → Frame
by_if n above other = Run (by_sign n (code_seen above) (code_seen other))

-- what waits, the next first
abbrev pub kept : List HeldFrame → List Frame
kept control = reverse (map frame_seen control)

-- what is left of the body, and then what waits
abbrev pub whole : List Op → List HeldFrame → List Frame
whole ops control = Run (Block (ops_body ops)) ∷ kept control

-- the call of a name before them
abbrev pub call_left : Target → List Op → List HeldFrame → List Frame
call_left name ops control = Run (Block (Then (Called name) End)) ∷ whole ops control

-- what comes after an element, with what waits
abbrev pub followed : Program → Next → List HeldFrame → World → Counts → Ending
followed p next.Stop fs w k = Stopped w k
followed p (next.Body ops) fs w k = left p (whole ops.now fs) w k

-- what follows in the new state comes to the same as this run in the old one, and then what was left
abbrev pub LeadsTo : Program → State → State → (World → Counts → Ending) → List Op → List HeldFrame → Next → List HeldFrame → Type 0
LeadsTo p old new run rest fs next fs' =
    (k : Counts) → followed p next fs' (world_of new) k ≡ then_go (run (world_of old) k) (left p (whole rest fs))

-- the same from these ticks and calls, of which more may have gone
abbrev pub ComesTo : Program → State → Tally → State → Tally → (World → Counts → Ending) → List Op → List HeldFrame → Next → List HeldFrame → Type 0
ComesTo p old before new after run rest fs next fs' =
    followed p next fs' (world_of new) (counts after) ≡ then_go (run (world_of old) (counts before)) (left p (whole rest fs))

-- Running this body, with what waits, is the same as running these, though ticks and calls may have been taken.
abbrev pub IsBegun : List Op → List HeldFrame → Tally → List Frame → Tally → Type 0
IsBegun ops fs after old before = (p : Program) (w : World) → left p (whole ops fs) w (counts after) ≡ left p old w (counts before)

-- ticks and calls once an element's tick is taken
abbrev pub ticked : Element → Tally → Counts
ticked e t = (t.ticks - 1, calls_after e t.calls)

-- `ComesTo` of an element whose tick is still to be taken, beside the rest of its body
abbrev pub OpComesTo : Program → State → Tally → State → Tally → Bor Op × Bor (List Op) → List HeldFrame → Next → List HeldFrame → Type 0
OpComesTo p old before new after at fs next fs' =
    followed p next fs' (world_of new) (counts after)
    ≡ then_go (act p (eval p) (element_of at.0.now) (world_of old) (ticked (element_of at.0.now) before)) (left p (whole at.1.now fs))

-- Of a call that waited: the body that runs next, or the stop where there is none, comes to what was left before.
abbrev pub IsCalled : Program → State → Tally → State → Tally → Target → List Op → List HeldFrame → Option (Bor (List Op)) → List HeldFrame → Type 0
IsCalled p old before new after name rest fs None fs' =
    Stopped (world_of new) (counts after) ≡ left p (call_left name rest fs) (world_of old) (counts before)
IsCalled p old before new after name rest fs (Some body) fs' =
    left p (whole body.now fs') (world_of new) (counts after)
    ≡ left p (call_left name rest fs) (world_of old) (counts before)

-- what follows is this run, and then what was left
abbrev pub Means : Program → (World → Counts → Ending) → List Op → List HeldFrame → Next → List HeldFrame → Type 0
Means p run rest fs next fs' =
    (w : World) (k : Counts) → followed p next fs' w k ≡ then_go (run w k) (left p (whole rest fs))

-- two lists of what is left to do come to the same
abbrev pub SameLeft : List Frame → List Frame → Type 0
SameLeft fs fs' = (p : Program) (w : World) (k : Counts) → left p fs w k ≡ left p fs' w k

-- at the end of a body, what was left to do is this, and then what is left now
abbrev pub IsDue : Due → List Op → List HeldFrame → List HeldFrame → Type 0
IsDue due.Nothing ops fs fs' = (p : Program) (w : World) (k : Counts) → left p (whole ops fs) w k ≡ Done w k
IsDue (due.Body body) ops fs fs' = SameLeft (whole ops fs) (whole body.now fs') × (length fs' < length fs)
IsDue (due.Name t) ops fs fs' =
    SameLeft (whole ops fs) (call_left t ops fs') × (length fs' ≤ length fs)
IsDue (due.Test test body) ops fs fs' =
    SameLeft (whole ops fs) (Test (code_seen test) (code_seen body) ∷ whole ops fs') × (length fs' < length fs)
