use Rattle.std.proofs.Common.{◌≡◌, ◌+◌, length}
use Rattle.bt_writing.specs.Actions.{before_entry}
use Rattle.bt_writing.proofs.actions.before_entry.Given as goal

abbrev pub invariant-bytes : goal.invariant-bytes
invariant-bytes l = record {
  within : l.count + length l.rest ≡ length l.text;
  same : l.count + before_entry l.rest ≡ before_entry l.text;
}

abbrev pub decreases-bytes : goal.decreases-bytes
decreases-bytes l = length l.rest
