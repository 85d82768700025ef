use Rattle.std.proofs.Common.{◌++◌, ap, sym, ◌∙◌, rules}
use Rattle.bt_sound.specs.Reading.{above_zero, upto_zero}
use Rattle.bt_sound.specs.Seen.{knowns_seen, states_seen}
use Rattle.bt_sound.proofs.FollowLemmas.{some_if_is}
use Rattle.bt_sound.proofs.StateLemmas.{both_seen}
use Rattle.bt_sound.proofs.parts.put_apart.Goals as goal

pub returns : goal.returns
returns c =
    record {
      range = c.in_ok-range.range;
      below = knowns_seen c.in_ok-range.below.now;
      stack = ap knowns_seen (sym c.as_slice.ensures.value) ∙ c.in_ok-range.ensures;
      goes_is = both_seen c.args.goes.now.items c.in_ok-above.above.items _ (search rules)
          ∙ ap (λ l. states_seen c.args.goes.now.items ++ l) (some_if_is above_zero c.is_open.result c.above_zero.result c.in_ok-range.range _ _ _ c.in_ok-above.ensures c.is_open.ensures c.above_zero.ensures c.in_ok-rest.ensures);
      ends_is = both_seen c.args.ends.now.items c.in_ok-upto.upto.items _ (search rules)
          ∙ ap (λ l. states_seen c.args.ends.now.items ++ l) (some_if_is upto_zero c.is_open-2.result c.upto_zero.result c.in_ok-range.range _ _ _ c.in_ok-upto.ensures c.is_open-2.ensures c.upto_zero.ensures c.in_ok-rest.ensures);
    }
