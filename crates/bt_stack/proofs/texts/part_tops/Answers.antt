use Rattle.std.proofs.Common.{refl, rules}
use Rattle.bt_stack.proofs.PartLemmas.{is_part}
use Rattle.bt_stack.proofs.texts.part_tops.Goals as goal

pub returns-in-Some-Some-Some-clause-some : goal.returns-in-Some-Some-Some-clause-some
returns-in-Some-Some-Some-clause-some c =
    let all = c.in-Some-Some-Some in
    is_part c.args.stack.now.items all.text.now all.start all.len _ _ _ _ all.ensures.text all.ensures' all.ensures'' all.ensures.short (c.part_place.ensures.part all.text.now refl) (search rules) (search rules)
