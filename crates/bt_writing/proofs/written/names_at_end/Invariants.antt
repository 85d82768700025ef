use Rattle.std.proofs.Common.{◌≡◌, ◌≤◌, ◌+◌, length}
use Rattle.bt_writing.specs.Written.{names_at_end}
use Rattle.bt_writing.proofs.written.names_at_end.Given as goal

abbrev pub invariant-bytes : goal.invariant-bytes
invariant-bytes l = record {
  within : l.count + length l.rest ≤ length l.text;
  same : names_at_end l.count l.rest ≡ names_at_end 0 l.text;
}

abbrev pub decreases-bytes : goal.decreases-bytes
decreases-bytes l = length l.rest
