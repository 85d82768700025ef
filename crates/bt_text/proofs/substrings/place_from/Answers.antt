use Rattle.bt_text.proofs.PartLemmas.{part_from}
use Rattle.bt_text.proofs.substrings.place_from.Goals as goal

pub returns-clause-part : goal.returns-clause-part
returns-clause-part c = λ t long. part_from t c.args.count c.args.place c.args.len _ _ long c.min-from.ensures c.min.ensures
