use Rattle.std.proofs.Common.{◌≡◌}
use Rattle.std.specs.List.{range_with_len}
use Rattle.bt_run.proofs.read_command.list_order.Given as goal

abbrev pub invariant-places : goal.invariant-places
invariant-places l = l.order ≡ range_with_len 0 l.place
