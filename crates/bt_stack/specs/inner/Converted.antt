-- What `change.case$` asks for, and what it is told.
use Rattle.std.specs.Prelude.{ℕ, List, drop, Option, Some, None, option_and_then, slice_get, Result, Ok, Err}
use Rattle.std.specs.Option.{option_zip}
use Rattle.bt_text.specs.declared.modes.Mode.{Mode}
use Rattle.bt_text.specs.CaseChange.{changed_case}
use Rattle.bt_actions.specs.declared.complaint.Complaint.{Complaint}
use Rattle.bt_actions.specs.declared.complaint.Complaint.TheVariants.{BadCase}
use Rattle.bt_actions.specs.Arguments.{as_text}
use Rattle.bt_actions.specs.Item.{Item, Txt}
use Rattle.bt_actions.specs.State.{pushed}
use Rattle.bt_actions.specs.Texts.{mode_of}
use Rattle.bt_actions.specs.World.{World, Act, Goes, say, with_stack}

-- a text in another case, or that a name names none
abbrev pub told_by : Option Mode → List ℕ → List ℕ → Result (List ℕ) Complaint
told_by None t name = Err (BadCase name)
told_by (Some mode) t name = Ok (changed_case mode t)

abbrev pub case_told : List ℕ × List ℕ → Result (List ℕ) Complaint
case_told (t, name) = told_by (mode_of name) t name

-- the text and the name on the stack, if it has two texts on top
abbrev pub case_asked : List Item → Option (List ℕ × List ℕ)
case_asked items = option_zip (option_and_then as_text (slice_get items 1)) (option_and_then as_text (slice_get items 0))

-- the text takes the place of both, or the lower one stays
abbrev pub case_answer : Result (List ℕ) Complaint → World → Act
case_answer (Ok t) w = pushed (Txt t) (with_stack (drop 2 w.stack) w)
case_answer (Err m) w = Goes (with_stack (drop 1 w.stack) (say m w))
