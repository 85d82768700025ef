use Rattle.std.proofs.Common.{[], ◌∷◌, refl}
use Rattle.bt_machine.specs.declared.control.Frame.TheVariants as held
use Rattle.bt_actions.specs.View.{code_seen}
use Rattle.bt_machine.specs.inner.Loop.{Run, whole}
use Rattle.bt_machine.proofs.LoopLemmas.{kept_same, none_same}
use Rattle.bt_machine.proofs.control.begin.Goals as goal

pub returns-in_ok-push-in-Name-clause-same : goal.returns-in_ok-push-in-Name-clause-same
returns-in_ok-push-in-Name-clause-same c =
    none_same [] c.push.new.self.items (Run (code_seen c.args.code) ∷ whole c.args.rest.now c.args.control.now.items) refl
    (kept_same c.keep.new.control.items c.push.new.self.items (held.Run c.args.code) (whole c.args.rest.now c.args.control.now.items) c.in_ok-push-in-Name.ensures.items c.in_ok-keep.ensures.same)
