use Rattle.std.proofs.Common.{[], ◌∷◌, ap, sym, ◌∙◌}
use Rattle.bt_actions.specs.View.{code_seen}
use Rattle.bt_sound.specs.Known.{Run}
use Rattle.bt_sound.specs.Seen.{knowns_seen}
use Rattle.bt_sound.proofs.parts.loop_of.Goals as goal

pub returns : goal.returns
returns c =
    record {
      below = knowns_seen c.in_ok-test.below.now;
      stack = ap knowns_seen (sym c.as_slice.ensures.value) ∙ c.in_ok-body.ensures ∙ ap (λ l. Run (code_seen c.in_ok-body.body) ∷ l) c.in_ok-test.ensures;
      first_is = c.in_ok-first.ensures ∙ ap (λ s. s ∷ []) c.in_ok-rest.ensures;
    }
