use Rattle.std.proofs.Common.{[], ◌∷◌, refl}
use Rattle.std.proofs.lemmas.Result.{IfOk-weaker}
use Rattle.bt_actions.specs.View.{code_seen}
use Rattle.bt_machine.specs.declared.control.Frame.TheVariants as held
use Rattle.bt_machine.specs.inner.Loop.{Run, Test, whole}
use Rattle.bt_machine.proofs.LoopLemmas.{kept_same, none_same, same_join, same_under}
use Rattle.bt_machine.proofs.control.begin_loop.Goals as goal

pub returns-clause-same : goal.returns-clause-same
returns-clause-same c =
    let before = whole c.args.rest.now c.args.control.now.items in
    let run = Run (code_seen c.args.test) in
    let test = Test (code_seen c.args.test) (code_seen c.args.body) in
    let put = c.push.new.self.items in
    let tested = kept_same c.keep.new.control.items put (held.Test c.args.test c.args.body) before c.in_ok-push.ensures.items c.in_ok-keep.ensures.same in
    let rested = same_under run (whole [] put) (test ∷ before) (none_same [] put (test ∷ before) refl tested) in
    IfOk-weaker c.begin.result _ _ (λ ops h. same_join (whole ops.now c.begin.new.control.items) (run ∷ whole [] put) (run ∷ test ∷ before) h rested) c.begin.ensures.same
