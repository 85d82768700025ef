use Rattle.std.proofs.Common.{◌∙◌, ap, sym}
use Rattle.std.proofs.lemmas.Result.{IfOk-weaker}
use Rattle.bt_actions.specs.declared.entry.Variables.{Variables}
use Rattle.bt_machine.specs.Agreement.{same_counts, same_variables}
use Rattle.bt_machine.proofs.ReuseLemmas.{has_left}
use Rattle.bt_machine.proofs.reuse.left_at.Goals as goal

pub returns-then-same_variables : goal.returns-then-same_variables
returns-then-same_variables c =
    let a = c.args in
    let counts = ap (λ (b : Variables). same_counts a.left.now b) (sym c.deref.ensures) ∙ sym c.same_counts.ensures ∙ c.if-same_counts.true in
    let values = ap (λ (b : Variables). same_variables a.places.numbers.now a.places.texts.now a.left.now b) (sym c.deref-then-same_counts.ensures) ∙ sym c.same_variables.ensures ∙ c.if-same_variables.true in
    IfOk-weaker c.share.result _ _ (λ both h. h ∙ has_left a.places.numbers.now a.places.texts.now a.left.now a.base.now counts values) c.share.ensures
