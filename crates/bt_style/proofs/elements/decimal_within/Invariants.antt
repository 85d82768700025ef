use Rattle.std.proofs.Common.{◌≡◌, ◌≤◌, drop}
use Rattle.bt_style.specs.Elements.{decimal}
use Rattle.bt_style.proofs.elements.decimal_within.Given as goal

abbrev pub invariant-loop-d : goal.invariant-loop-d
invariant-loop-d l = record {
  within : l.n ≤ l.greatest;
  so_far : decimal l.n (drop l.d-index l.digits) ≡ decimal 0 l.digits;
}
