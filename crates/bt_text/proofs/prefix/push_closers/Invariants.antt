use Rattle.std.proofs.Common.{◌≡◌, ◌++◌, replicate}
use Rattle.bt_text.specs.ByteTests.{right_brace}
use Rattle.bt_text.proofs.prefix.push_closers.Given as goal

abbrev pub invariant-loop : goal.invariant-loop
invariant-loop l = l.out.items ≡ l.initial.out.items ++ replicate l.counter right_brace
