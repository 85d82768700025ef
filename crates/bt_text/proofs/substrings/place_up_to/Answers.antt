use Rattle.bt_text.proofs.PartLemmas.{part_up_to}
use Rattle.bt_text.proofs.substrings.place_up_to.Goals as goal

pub returns-clause-part : goal.returns-clause-part
returns-clause-part c = λ t long. part_up_to t c.args.count c.args.behind c.args.len _ _ long c.saturating_sub-end.ensures c.saturating_sub-from.ensures
