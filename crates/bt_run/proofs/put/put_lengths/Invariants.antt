use Rattle.std.proofs.Common.{◌≡◌, take}
use Rattle.bt_run.specs.inner.Put.{with_lengths}
use Rattle.bt_run.proofs.put.put_lengths.Given as goal

abbrev pub invariant-others : goal.invariant-others
invariant-others l = l.lengths ≡ with_lengths l.fn.lengths (take l.other-index l.others)
