-- The laws of the crate, which no code needs. `specs/laws` has what they say.
use Rattle.bibtex.specs.laws.Laws.{NamesStandOnce, OrderIsNeverSeen}
use Rattle.bibtex.proofs.OrderLemmas.{once_applied}
use Rattle.bibtex.proofs.laws.OrderLemmas

pub names_stand_once : NamesStandOnce
names_stand_once = once_applied

pub order_is_never_seen : OrderIsNeverSeen
order_is_never_seen = record { shown = OrderLemmas.shown_alike; reported = OrderLemmas.reported_alike; edited = OrderLemmas.applied_alike; answered = OrderLemmas.answered_alike; told = OrderLemmas.told_alike; left = OrderLemmas.all_alike }
