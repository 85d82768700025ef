use Rattle.std.proofs.Common.{◌≡◌, ◌≤◌, ◌+◌, length}
use Rattle.bt_places.specs.Hover.{keys_at_end}
use Rattle.bt_places.proofs.hover.keys_at_end.Given as goal

abbrev pub invariant-bytes : goal.invariant-bytes
invariant-bytes l = record {
  within : l.count + length l.rest ≤ length l.text;
  same : keys_at_end l.count l.rest ≡ keys_at_end 0 l.text;
}

abbrev pub decreases-bytes : goal.decreases-bytes
decreases-bytes l = length l.rest
