use Rattle.std.proofs.Common.{◌≡◌, List, [], drop, map, subst, sym, ap, ◌∙◌, append-nil}
use Rattle.std.proofs.lemmas.List.{drop_all}
use Rattle.std.specs.Prelude.{Result}
use Rattle.bibtex.specs.Edit.{Edit, edit_of}
use Rattle.bibtex.specs.declared.edit.Refusal.{Refusal}
use Rattle.bt_run.specs.declared.answers.Report.{Report}
use Rattle.bibtex.specs.Headline.{AnswersInTurn, ReportsInTurn, after_answers}
use Rattle.bibtex.proofs.edits.edit_all.Goals as goal

pub returns-clause-answers : goal.returns-clause-answers
returns-clause-answers c =
    let none : map edit_of (drop c.edits.edit-index c.args.edits.now) ≡ [] = ap (map edit_of) (drop_all c.edits.edit-index c.args.edits.now c.edits-test.false) in
    let h = c.edits.invariant.answers [] (subst (λ (es : List Edit). AnswersInTurn es [] c.edits.session) (sym none) tt) in
    subst (λ (answers : List (Result Report Refusal)). AnswersInTurn (map edit_of c.args.edits.now) answers c.args.session.now) (append-nil c.edits.answers.items) h

pub returns-clause-reports : goal.returns-clause-reports
returns-clause-reports c =
    let none : map edit_of (drop c.edits.edit-index c.args.edits.now) ≡ [] = ap (map edit_of) (drop_all c.edits.edit-index c.args.edits.now c.edits-test.false) in
    let h = c.edits.invariant.reports [] (subst (λ (es : List Edit). ReportsInTurn es [] c.edits.session) (sym none) tt) in
    subst (λ (answers : List (Result Report Refusal)). ReportsInTurn (map edit_of c.args.edits.now) answers c.args.session.now) (append-nil c.edits.answers.items) h

pub returns-clause-state : goal.returns-clause-state
returns-clause-state c =
    let none : map edit_of (drop c.edits.edit-index c.args.edits.now) ≡ [] = ap (map edit_of) (drop_all c.edits.edit-index c.args.edits.now c.edits-test.false) in
    sym (ap (λ es. after_answers es [] c.edits.session) none)
    ∙ c.edits.invariant.state []
    ∙ ap (λ answers. after_answers (map edit_of c.args.edits.now) answers c.args.session.now) (append-nil c.edits.answers.items)
