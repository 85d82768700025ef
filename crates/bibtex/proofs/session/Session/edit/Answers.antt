use Rattle.std.specs.Prelude.{unwrap_or}
use Rattle.std.proofs.Common.{◌∙◌, ap, subst, sym, List, ℕ, []}
use Rattle.bt_job.specs.FileNames.{text_of}
use Rattle.bibtex.specs.declared.state.State.{State}
use Rattle.bibtex.specs.declared.edit.Edit.{Edit}
use Rattle.bibtex.specs.Applied.{changed}
use Rattle.bibtex.specs.Edit.{edit_of}
use Rattle.bibtex.specs.Present.{EachOnce}
use Rattle.bibtex.proofs.OrderLemmas.{once_changed}
use Rattle.bibtex.proofs.TextLemmas.{others_stay}
use Rattle.bibtex.proofs.session.Session.edit.Goals as goal

pub go_to-requires : goal.go_to-requires
go_to-requires c =
    once_changed (edit_of c.args.edit) c.args.self.now c.in_ok-state.state c.in_ok-state.ensures.state
    (subst (λ (s : State). EachOnce s.texts) c.self.view_is c.self.invariant.0.once)

pub go_over-requires-clause-once : goal.go_over-requires-clause-once
go_over-requires-clause-once c =
    once_changed (edit_of c.args.edit) c.args.self.now c.in_ok-state.state c.in_ok-state.ensures.state
    (subst (λ (s : State). EachOnce s.texts) c.self.view_is c.self.invariant.0.once)

pub go_over-requires-clause-rest : goal.go_over-requires-clause-rest
go_over-requires-clause-rest c = λ n other.
    let was = c.args.self.now in
    let text_then : State → List ℕ = λ s. unwrap_or (text_of s.texts n) [] in
    ap text_then (c.in_ok-state.ensures.state ∙ ap (λ (e : Edit). changed (edit_of e) was) c.in-Splice.is)
    ∙ others_stay c.in-Splice.name.now _ was.texts n other
    ∙ ap text_then (sym c.in_ok-state.ensures.same)
