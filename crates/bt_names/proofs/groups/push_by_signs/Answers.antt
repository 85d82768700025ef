use Rattle.std.proofs.Common.{arith, rules, ap, drop, ◌∙◌}
use Rattle.std.proofs.lemmas.Grind.{common_steps}
use Rattle.bt_names.specs.inner.Spelling.{form_of}
use Rattle.bt_names.proofs.GroupLemmas.{front_append, joined_on, long_dotted, long_linked}
use Rattle.bt_names.proofs.groups.push_by_signs.Goals as goal

pub stays_short-is_short-requires : goal.stays_short-is_short-requires
stays_short-is_short-requires c =
    long_dotted c.walk.is_short (form_of c.args.is_whole) c.args.start c.walk.out.items c.push_dot.new.out.items c.split_at.result.1.now c.walk.invariant.short c.in_ok-push_dot.ensures.group (c.split_at.ensures.back ∙ ap (drop c.args.start) c.as_slice.ensures.value)

pub walk-preserved : goal.walk-preserved
walk-preserved c =
    record {
      front = search (rules, front_append);
      size = search rules;
      group = joined_on c.args.is_whole c.stays_short-is_short.result c.is_empty.result c.args.start c.sign.result c.token-item.result c.walk.rest.now _ c.walk.out.items c.push_dot.new.out.items c.push.new.self.items c.extend_from_slice.new.self.items c.split_at.result.1.now c.in_ok-push_dot.ensures.size c.in_ok-push_dot.ensures.group (c.split_at.ensures.back ∙ ap (drop c.args.start) c.as_slice.ensures.value) c.in_ok-push.ensures.items (search rules) c.stays_short-is_short.ensures (search rules) c.is_empty.ensures (grind (arith, common_steps, c.token-item.is, c.in-len1-up.len_at_least)) ∙ c.walk.invariant.group;
      short = long_linked c.stays_short-is_short.result c.args.start c.sign.result c.push_dot.new.out.items c.push.new.self.items c.extend_from_slice.new.self.items c.split_at.result.1.now c.spelling.result.now c.in_ok-push_dot.ensures.size (c.split_at.ensures.back ∙ ap (drop c.args.start) c.as_slice.ensures.value) c.in_ok-push.ensures.items c.in_ok-extend_from_slice.ensures.items c.stays_short-is_short.ensures;
    }
