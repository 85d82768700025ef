use Rattle.std.proofs.Common.{◌∙◌}
use Rattle.bt_machine.proofs.ReuseLemmas.{earlier_step}
use Rattle.bt_machine.proofs.reuse.left_over.Goals as goal

pub returns-clause-step : goal.returns-clause-step
returns-clause-step c = λ p e h i.
    let a = c.args in
    (λ k. record {
      globals = c.in_ok-globals_left.ensures k;
      variables = c.in_ok-owns_left.ensures k;
      held = c.in_ok-held_left.ensures k;
      lines = (c.in_ok-share_texts.ensures ∙ c.as_slice.ensures) k;
      messages = (c.in_ok-shared_messages.ensures ∙ c.as_slice-2.ensures) k;
      stop = a.left.now.stop;
      calls = a.left.now.calls;
    })
    ∙ earlier_step p a.reach.now.targets a.old.now a.new.now a.left.now e h i
