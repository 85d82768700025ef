-- The edits of commands, made one after another.
use Rattle.std.proofs.Common.{◌≡◌, refl, sym, subst, arith, ℕ, Bool, true, false, List, [], ◌∷◌, ◌++◌, length, Result, Ok, Err, IfOk}
use Rattle.bt_run.specs.declared.answers.Report.{Report}
use Rattle.bibtex.specs.declared.edit.Refusal.{Refusal}
use Rattle.bibtex.specs.declared.edit.Refusal.TheVariants.{OutOfMemory}
use Rattle.bibtex.specs.declared.state.State.{State}
use Rattle.bibtex.specs.Present.{reported}
use Rattle.bibtex.specs.Edit.{Edit, with_bytes}
use Rattle.bibtex.specs.Applied.{applied, IsAnswer, state_or, unless_out_of_memory}
use Rattle.bibtex.specs.Headline.{after_answer, AnswersInTurn, ReportsInTurn, after_answers}
use Rattle.bt_serve.specs.Commands.{Request, Command, edit, bbl, blg, status, quit, unreadable, too_long, request_of, after, after_of, state_after}
use Rattle.bt_serve.specs.Edits.{edit_in, edits_of, Leads}

-- An edit with this outcome is answered so, and then the others lead to a state.
abbrev pub AnswersOne : List Edit → List (Result Report Refusal) → Result Report Refusal → State → State → Result State Refusal → Type 0
AnswersOne es answers a s t made =
    (IsAnswer made a × AnswersInTurn es answers (after_answer a made s)) ×
    (IfOk a (λ report. report ≡ reported s (after_answer a made s)) × ReportsInTurn es answers (after_answer a made s)) ×
    (t ≡ after_answers es answers (after_answer a made s))

-- From commands to edits

one_answered : (e : Edit) (es : List Edit) (answers : List (Result Report Refusal)) (a : Result Report Refusal) (s t : State) (made : Result State Refusal) → applied e s ≡ made →
    AnswersOne es answers a s t made → Leads (e ∷ es) s t
one_answered e es answers a s t made is one =
    let all = subst (AnswersOne es answers a s t) (sym is) one in
    (a ∷ answers, all.0, all.1, all.2)

one_more : (e : Edit) (es : List Edit) (made : Result State Refusal) (m : Bool) (s t : State) → applied e s ≡ made →
    Leads es (state_or s (unless_out_of_memory m made)) t → Leads (e ∷ es) s t
one_more e es (Ok u) false s t is later = one_answered e es later.0 (Ok (reported s u)) s t (Ok u) is ((tt, later.1), (refl, later.2), later.3)
one_more e es (Ok u) true s t is later = one_answered e es later.0 (Err OutOfMemory) s t (Ok u) is ((refl, later.1), (tt, later.2), later.3)
one_more e es (Err refusal) false s t is later = one_answered e es later.0 (Err refusal) s t (Err refusal) is ((refl, later.1), (tt, later.2), later.3)
one_more e es (Err refusal) true s t is later = one_answered e es later.0 (Err refusal) s t (Err refusal) is ((refl, later.1), (tt, later.2), later.3)

leads_one : (request : Request) (bytes : List ℕ) (m : Bool) (s t : State) (es : List Edit) → Leads es (after_of m s request bytes) t → Leads (edit_in request bytes ++ es) s t
leads_one (edit e n) bytes m s t es later = one_more (with_bytes bytes e) es (applied (with_bytes bytes e) s) m s t refl later
leads_one bbl bytes m s t es later = later
leads_one blg bytes m s t es later = later
leads_one status bytes m s t es later = later
leads_one quit bytes m s t es later = later
leads_one unreadable bytes m s t es later = later
leads_one too_long bytes m s t es later = later

-- The state after commands is one that their edits lead to.
pub leads_by : (cs : List Command) (ms : List Bool) (s : State) → length ms ≡ length cs → Leads (edits_of cs) s (state_after ms cs s)
leads_by [] [] s len = ([], tt, tt, refl)
leads_by [] (m ∷ ms) s len = absurd (omega arith)
leads_by (c ∷ cs) [] s len = absurd (omega arith)
leads_by (c ∷ cs) (m ∷ ms) s len =
    leads_one (request_of c.line) c.bytes m s (state_after ms cs (after m s c)) (edits_of cs) (leads_by cs ms (after m s c) (omega arith))
