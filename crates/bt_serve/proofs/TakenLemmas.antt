-- From an edit that was carried out or refused to its answer.
use Rattle.std.proofs.Common.{◌≡◌, ℕ, List, refl, ap, ◌∙◌, subst, Option, Bool, true, false, Result, Ok, Err}
use Rattle.bt_run.specs.declared.answers.Report.{Report}
use Rattle.bibtex.specs.declared.edit.Refusal.{Refusal}
use Rattle.bibtex.specs.declared.edit.Refusal.TheVariants.{OutOfMemory}
use Rattle.bibtex.specs.declared.state.State.{State}
use Rattle.bibtex.specs.Edit.{Edit, with_bytes}
use Rattle.bibtex.specs.Applied.{applied, IsAnswer, state_or, unless_out_of_memory}
use Rattle.bt_serve.specs.Commands.{edit, edit_answer, accepted, refused}
use Rattle.bt_serve.specs.inner.Serves.{Takes, Does, taken_text}

-- A refusal that the definitions give, or out of memory where they give none.
refused_as : (e : Edit) (bytes : List ℕ) (s : State) (r : Refusal) (made : Result State Refusal) → applied (with_bytes bytes e) s ≡ made → IsAnswer {A = Report} made (Err r) →
    (ran_out : Bool) × (s ≡ state_or s (unless_out_of_memory ran_out (applied (with_bytes bytes e) s))) × (refused r ≡ edit_answer s (unless_out_of_memory ran_out (applied (with_bytes bytes e) s))) ×
    (ran_out ≡ true → edit_answer s (unless_out_of_memory ran_out (applied (with_bytes bytes e) s)) ≡ refused OutOfMemory)
refused_as e bytes s r (Ok t) is i = (true, rw is refl, rw is (ap refused i), λ _. rw is refl)
refused_as e bytes s r (Err q) is i = (false, rw is refl, rw is (let k : r ≡ q = cc in ap refused k), λ b. absurd (cc))

-- What was read and said of an edit is what its request does.
pub does_taken : (e : Edit) (n : ℕ) (old new : Option (List ℕ)) (s s' : State) (taken : Result Report Refusal) (Written : List ℕ → Type 0) →
    Takes e n old new s s' (Ok taken) → Written (taken_text taken) → Does (edit e n) old new s s' Written
does_taken e n old new s s' (Ok report) Written (bytes, size, consumes, made, is) w =
    let text : accepted report ≡ edit_answer s (unless_out_of_memory false (applied (with_bytes bytes e) s)) = rw made (ap accepted is) in
    (false, bytes, size, consumes, rw made refl, subst Written text w, λ b. absurd (cc))
does_taken e n old new s s' (Err r) Written (bytes, size, consumes, answer, same) w =
    let as_said = refused_as e bytes s r (applied (with_bytes bytes e) s) refl answer in
    (as_said.0, bytes, size, consumes, same ∙ as_said.1, subst Written as_said.2 w, as_said.3)
