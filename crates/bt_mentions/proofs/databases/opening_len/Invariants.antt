use Rattle.std.proofs.Common.{◌≡◌, ◌+◌, length}
use Rattle.bt_mentions.specs.Databases.{opening_len}
use Rattle.bt_mentions.proofs.databases.opening_len.Given as goal

abbrev pub invariant-bytes : goal.invariant-bytes
invariant-bytes l = record {
  within : l.count + length l.rest ≡ length l.text;
  same : l.count + opening_len l.rest ≡ opening_len l.text;
}

abbrev pub decreases-bytes : goal.decreases-bytes
decreases-bytes l = length l.rest
