use Rattle.std.proofs.Common.{◌∷◌, ap, sym, ◌∙◌}
use Rattle.bt_actions.specs.View.{code_seen}
use Rattle.bt_sound.specs.Known.{Run}
use Rattle.bt_sound.specs.Reading.{above_zero, upto_zero}
use Rattle.bt_sound.specs.Seen.{knowns_seen}
use Rattle.bt_sound.proofs.FollowLemmas.{some_if_is}
use Rattle.bt_sound.proofs.parts.branch_of.Goals as goal

pub returns : goal.returns
returns c =
    let below = knowns_seen c.in_ok-range.below.now in
    record {
      range = c.in_ok-range.range;
      below = below;
      stack = ap knowns_seen (sym c.as_slice.ensures.value) ∙ c.in_ok-second.ensures
          ∙ ap (λ l. Run (code_seen c.in_ok-second.second) ∷ l) (c.in_ok-first.ensures ∙ ap (λ l. Run (code_seen c.in_ok-first.first) ∷ l) c.in_ok-range.ensures);
      above_is = some_if_is above_zero c.is_open.result c.above_zero.result c.in_ok-range.range _ _ _ c.in_ok-above.ensures c.is_open.ensures c.above_zero.ensures c.in_ok-rest.ensures;
      upto_is = some_if_is upto_zero c.is_open-2.result c.upto_zero.result c.in_ok-range.range _ _ _ c.in_ok-upto.ensures c.is_open-2.ensures c.upto_zero.ensures c.in_ok-rest.ensures;
    }
