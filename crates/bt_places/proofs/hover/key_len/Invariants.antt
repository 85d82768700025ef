use Rattle.std.proofs.Common.{◌≡◌, ◌+◌, length}
use Rattle.bt_places.specs.Hover.{key_len}
use Rattle.bt_places.proofs.hover.key_len.Given as goal

abbrev pub invariant-bytes : goal.invariant-bytes
invariant-bytes l = record {
  within : l.count + length l.rest ≡ length l.text;
  same : l.count + key_len l.rest ≡ key_len l.text;
}

abbrev pub decreases-bytes : goal.decreases-bytes
decreases-bytes l = length l.rest
