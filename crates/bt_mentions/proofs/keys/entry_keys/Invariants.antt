use Rattle.std.proofs.Common.{◌≡◌, ◌+◌, length}
use Rattle.bt_mentions.specs.Keys.{with_entry_keys, entry_keys}
use Rattle.bt_mentions.proofs.keys.entry_keys.Given as goal

abbrev pub invariant-entries : goal.invariant-entries
invariant-entries l = record {
  within : l.place + length l.rest ≡ length l.text;
  same : with_entry_keys l.found l.place l.rest ≡ entry_keys l.text;
}

abbrev pub decreases-entries : goal.decreases-entries
decreases-entries l = length l.rest
