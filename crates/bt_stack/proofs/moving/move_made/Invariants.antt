use Rattle.std.proofs.Common.{◌≡◌, ◌<◌, ◌^◌, ◌+◌, ◌++◌, drop, take, length}
use Rattle.bt_stack.specs.inner.Moved.{moved, made_size}
use Rattle.bt_stack.proofs.moving.move_made.Given as goal

abbrev pub invariant-values : goal.invariant-values
invariant-values l = record {
  same_length : length l.values.items ≡ length l.fn.values.items;
  built : take l.i l.values.items ++ moved l.at (drop l.i l.values.items) ≡ moved l.start l.fn.values.items;
  fits : l.at + made_size (drop l.i l.values.items) < 2 ^ 64;
}
