-- A list of edits that leads to a state is one that commands ask for.
use Rattle.std.proofs.Common.{◌≡◌, refl, sym, subst, arith, ℕ, Bool, true, false, List, [], ◌∷◌, ◌++◌, length, Result, Ok, Err}
use Rattle.bt_run.specs.declared.answers.Report.{Report}
use Rattle.bibtex.specs.Edit.{Edit, with_bytes}
use Rattle.bibtex.specs.declared.edit.Refusal.{Refusal}
use Rattle.bibtex.specs.declared.edit.Refusal.TheVariants.{OutOfMemory}
use Rattle.bibtex.specs.declared.state.State.{State}
use Rattle.bibtex.specs.Applied.{applied, state_or, unless_out_of_memory}
use Rattle.bt_serve.specs.Commands.{Request, Command, edit, bbl, blg, status, quit, unreadable, too_long, request_of, refused, edit_answer, after, after_of, state_after, MayRunOut, MayRunOutInTurn}
use Rattle.bt_serve.specs.Edits.{edit_in, edits_of, Leads}
use Rattle.bt_serve.proofs.EditLemmas.{AnswersOne}

-- From edits to commands

-- An edit with this outcome was answered, as one that is or isn't wanting of memory, and the others lead to a state.
record OneMade (es : List Edit) (s t : State) (made : Result State Refusal) : Type 0 where
  ran_out : Bool
  only : ran_out ≡ true → edit_answer s (unless_out_of_memory ran_out made) ≡ refused OutOfMemory
  later : Leads es (state_or s (unless_out_of_memory ran_out made)) t

one_less : (es : List Edit) (answers : List (Result Report Refusal)) (a : Result Report Refusal) (made : Result State Refusal) (s t : State) →
    AnswersOne es answers a s t made → OneMade es s t made
one_less es answers (Ok report) (Ok u) s t ((is, turns), (told, reports), end) = record { ran_out = false; only = λ same. absurd cc; later = (answers, turns, reports, end) }
one_less es answers (Ok report) (Err refusal) s t ((is, turns), (told, reports), end) = absurd cc
one_less es answers (Err refusal) (Ok u) s t ((is, turns), (told, reports), end) = record { ran_out = true; only = λ same. refl; later = (answers, turns, reports, end) }
one_less es answers (Err refusal) (Err other) s t ((is, turns), (told, reports), end) = record { ran_out = false; only = λ same. absurd cc; later = (answers, turns, reports, end) }

one_made : (e : Edit) (es : List Edit) (made : Result State Refusal) (s t : State) → applied e s ≡ made → Leads (e ∷ es) s t → OneMade es s t made
one_made e es made s t is ([], turns, reports, end) = absurd turns
one_made e es made s t is (a ∷ answers, turns, reports, end) = one_less es answers a made s t (subst (AnswersOne es answers a s t) is (turns, reports, end))

-- The same of any request.
record OneDone (request : Request) (bytes : List ℕ) (es : List Edit) (s t : State) : Type 0 where
  ran_out : Bool
  only : MayRunOut ran_out s request bytes
  later : Leads es (after_of ran_out s request bytes) t

done_none : (request : Request) (bytes : List ℕ) (es : List Edit) (s t : State) → after_of false s request bytes ≡ s → Leads es s t → OneDone request bytes es s t
done_none request bytes es s t stays leads = record { ran_out = false; only = λ same. absurd cc; later = subst (λ (u : State). Leads es u t) (sym stays) leads }

done_one : (request : Request) (bytes : List ℕ) (s t : State) (es : List Edit) → Leads (edit_in request bytes ++ es) s t → OneDone request bytes es s t
done_one (edit e n) bytes s t es leads =
    let one = one_made (with_bytes bytes e) es (applied (with_bytes bytes e) s) s t refl leads in
    record { ran_out = one.ran_out; only = one.only; later = one.later }
done_one bbl bytes s t es leads = done_none bbl bytes es s t refl leads
done_one blg bytes s t es leads = done_none blg bytes es s t refl leads
done_one status bytes s t es leads = done_none status bytes es s t refl leads
done_one quit bytes s t es leads = done_none quit bytes es s t refl leads
done_one unreadable bytes s t es leads = done_none unreadable bytes es s t refl leads
done_one too_long bytes s t es leads = done_none too_long bytes es s t refl leads

-- A state that the edits of commands lead to is one after these commands.
pub led_by : (cs : List Command) (s t : State) → Leads (edits_of cs) s t →
    (ms : List Bool) × (length ms ≡ length cs) × MayRunOutInTurn ms cs s × (t ≡ state_after ms cs s)
led_by [] s t ([], turns, reports, end) = ([], refl, tt, end)
led_by [] s t (a ∷ answers, turns, reports, end) = absurd turns
led_by (c ∷ cs) s t leads =
    let one = done_one (request_of c.line) c.bytes s t (edits_of cs) leads in
    let rest = led_by cs (after one.ran_out s c) t one.later in
    (one.ran_out ∷ rest.0, omega (arith, rest.1), (one.only, rest.2), rest.3)
