use Rattle.std.proofs.Common.{◌≡◌, ◌+◌, length}
use Rattle.bt_diagnostics.specs.Spans.{blank_len}
use Rattle.bt_diagnostics.proofs.spans.blank_len.Given as goal

abbrev pub invariant-bytes : goal.invariant-bytes
invariant-bytes l = record {
  within : l.count + length l.rest ≡ length l.line;
  same : l.count + blank_len l.rest ≡ blank_len l.line;
}

abbrev pub decreases-bytes : goal.decreases-bytes
decreases-bytes l = length l.rest
