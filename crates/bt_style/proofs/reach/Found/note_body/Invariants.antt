use Rattle.std.proofs.Common.{◌≡◌}
use Rattle.bt_style.specs.Tree.{ops_body}
use Rattle.bt_style.specs.Reach.{noted_all, body_names}
use Rattle.bt_style.specs.inner.Reach.{waiting_names, waiting_size}
use Rattle.bt_style.proofs.reach.Found.note_body.Given as goal

abbrev pub invariant-parts : goal.invariant-parts
invariant-parts l = noted_all l.self (waiting_names l.waiting.items) ≡ noted_all l.fn.self (body_names (ops_body l.body))

abbrev pub decreases-parts : goal.decreases-parts
decreases-parts l = waiting_size l.waiting.items
