use Rattle.std.proofs.Common.{◌≡◌, ◌++◌, drop, map}
use Rattle.bt_run.specs.inner.Cases.{bbl_of, bytes_written}
use Rattle.bt_run.proofs.bibliography.bbl_of.Given as goal

abbrev pub invariant-steps : goal.invariant-steps
invariant-steps l = record {
  text : l.bbl.items ++ bbl_of (drop l.step-index l.steps) ≡ bbl_of l.steps;
  counts : l.lengths.items ++ map bytes_written (drop l.step-index l.steps) ≡ map bytes_written l.steps;
}
