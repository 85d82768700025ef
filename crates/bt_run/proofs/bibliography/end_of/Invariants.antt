use Rattle.std.proofs.Common.{◌≡◌, ◌+◌, drop}
use Rattle.std.specs.Prelude.{sum}
use Rattle.bt_run.proofs.bibliography.end_of.Given as goal

abbrev pub invariant-lengths : goal.invariant-lengths
invariant-lengths l = l.end + sum (drop l.length-index l.lengths) ≡ l.begin + sum l.lengths
