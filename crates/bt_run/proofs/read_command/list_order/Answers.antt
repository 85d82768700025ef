use Rattle.bt_run.proofs.OrderLemmas.{order_more}
use Rattle.bt_run.proofs.read_command.list_order.Goals as goal

pub places-preserved : goal.places-preserved
places-preserved c = order_more c.places.order c.push.new.self c.places.place c.places.invariant c.in_ok-push.ensures.ok
