-- What any list of edits leaves of a session.
use Rattle.std.specs.Prelude.{◌≡◌, List, [], ◌∷◌, IfOk, Result, Ok}
use Rattle.bibtex.specs.Edit.{Edit}
use Rattle.bibtex.specs.declared.edit.Refusal.{Refusal}
use Rattle.bt_run.specs.declared.answers.Report.{Report}
use Rattle.bibtex.specs.declared.state.State.{State}
use Rattle.bibtex.specs.Present.{reported}
use Rattle.bibtex.specs.Applied.{applied, IsAnswer}

-- the state after an edit with this answer: the new state if it was accepted, else the old one
abbrev pub after_answer : Result Report Refusal → Result State Refusal → State → State
after_answer (Ok report) (Ok new) s = new
after_answer _ _ s = s

-- Each edit in turn is answered as it must be: accepted, or refused for the first reason that holds.
abbrev pub AnswersInTurn : List Edit → List (Result Report Refusal) → State → Type 0
AnswersInTurn [] [] s = Unit {0}
AnswersInTurn (e ∷ es) (a ∷ rest) s =
    IsAnswer (applied e s) a × AnswersInTurn es rest (after_answer a (applied e s) s)
AnswersInTurn _ _ s = ⊥

-- Each edit in turn that is accepted reports its work.
abbrev pub ReportsInTurn : List Edit → List (Result Report Refusal) → State → Type 0
ReportsInTurn [] answers s = Unit {0}
ReportsInTurn (e ∷ es) [] s = Unit {0}
ReportsInTurn (e ∷ es) (a ∷ rest) s =
    IfOk a (λ report. report ≡ reported s (after_answer a (applied e s) s))
    × ReportsInTurn es rest (after_answer a (applied e s) s)

-- the state after edits with these answers: the result of the accepted ones
abbrev pub after_answers : List Edit → List (Result Report Refusal) → State → State
after_answers (e ∷ es) (a ∷ rest) s = after_answers es rest (after_answer a (applied e s) s)
after_answers _ _ s = s
