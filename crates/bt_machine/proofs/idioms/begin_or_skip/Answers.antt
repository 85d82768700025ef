use Rattle.std.proofs.Common.{◌∷◌, ap, sym, refl, ◌∙◌}
use Rattle.std.proofs.lemmas.Result.{IfOk-weaker}
use Rattle.bt_style.specs.declared.builtin.Builtin.TheVariants as builtin
use Rattle.bt_style.specs.declared.style.Target.TheVariants as target
use Rattle.bt_style.specs.Tree.{Called}
use Rattle.bt_actions.specs.Item.{Name}
use Rattle.bt_machine.specs.inner.Loop.{Run, counts, left, whole}
use Rattle.bt_machine.proofs.LoopLemmas.{element_leads}
use Rattle.bt_machine.proofs.idioms.begin_or_skip.Goals as goal

pub returns-then-is_skip-clause-same : goal.returns-then-is_skip-clause-same
returns-then-is_skip-clause-same c = λ p w.
    let skip = target.Builtin builtin.Skip in
    let k = counts c.args.tally.now in
    let k1 = counts c.take.new.self in
    let rest = whole c.args.rest.now c.args.control.now.items in
    element_leads p (Called skip) (Run (Name skip) ∷ rest) rest w k k1 (left p rest w k1) (left p (Run (Name skip) ∷ rest) w k) refl (λ p w k. refl) c.take.ensures.ticks c.take.ensures.calls refl
    ∙ ap (λ f. left p (Run f ∷ rest) w k) (sym (c.is_skip.ensures c.if-is_skip.true))

pub returns-clause-same : goal.returns-clause-same
returns-clause-same c = IfOk-weaker c.begin.result _ _ (λ body h p w. h p w (counts c.args.tally.now)) c.begin.ensures.same
