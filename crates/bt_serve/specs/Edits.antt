-- The edits that commands ask for, as a list of edits.
use Rattle.std.specs.Prelude.{◌≡◌, ℕ, List, [], ◌∷◌, ◌++◌, flat_map, Result, Ok, Err}
use Rattle.bt_run.specs.declared.answers.Report.{Report}
use Rattle.bibtex.specs.declared.edit.Refusal.{Refusal}
use Rattle.bibtex.specs.declared.state.State.{State}
use Rattle.bibtex.specs.Edit.{Edit, with_bytes}
use Rattle.bibtex.specs.Headline.{AnswersInTurn, ReportsInTurn, after_answers}
use Rattle.bt_serve.specs.declared.fault.ServeFault.{ServeFault}
use Rattle.bt_serve.specs.declared.fault.ServeFault.TheVariants.{ReadFailed, WriteFailed, Truncated}
use Rattle.bt_serve.specs.Commands.{Request, edit, Command, request_of}
use Rattle.bt_serve.specs.Whole.{commands_of, up_to_quit}

-- the edit that a request with these bytes asks for, if it asks for one
abbrev pub edit_in : Request → List ℕ → List Edit
edit_in (edit e n) bytes = with_bytes bytes e ∷ []
edit_in _ bytes = []

-- the edits that commands ask for, in their order
abbrev pub edits_of : List Command → List Edit
edits_of cs = flat_map (λ c. edit_in (request_of c.line) c.bytes) cs

-- `edit_all` of these edits can lead from one state to another: each is answered as it must be and reports its work,
-- and the second state is the result of the accepted ones.
abbrev pub Leads : List Edit → State → State → Type 0
Leads es state state' =
    (answers : List (Result Report Refusal)) × AnswersInTurn es answers state × ReportsInTurn es answers state ×
    (state' ≡ after_answers es answers state)

-- The state in which the loop ends: `edit_all` can lead there, by the edits of all commands up to the one that ends the
-- loop, or, after a failed read or write, by those of the first few commands.
abbrev pub IsEdited : {A : Type 0} → Result A ServeFault → List ℕ → State → State → Type 0
IsEdited (Ok x) input state state' = Leads (edits_of (up_to_quit (commands_of input).commands)) state state'
IsEdited (Err Truncated) input state state' = Leads (edits_of (up_to_quit (commands_of input).commands)) state state'
IsEdited (Err ReadFailed) input state state' =
    (front : List Command) × (others : List Command) × ((commands_of input).commands ≡ front ++ others) ×
    Leads (edits_of front) state state'
IsEdited (Err WriteFailed) input state state' =
    (front : List Command) × (others : List Command) × ((commands_of input).commands ≡ front ++ others) ×
    Leads (edits_of front) state state'
