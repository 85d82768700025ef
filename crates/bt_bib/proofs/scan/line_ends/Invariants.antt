use Rattle.std.specs.Prelude.{count_by}
use Rattle.std.proofs.Common.{◌≡◌, ◌+◌, ◌≤◌, length}
use Rattle.bt_text.specs.ByteTests.{is_line_feed}
use Rattle.bt_bib.proofs.scan.line_ends.Given as goal

abbrev pub invariant-lines : goal.invariant-lines
invariant-lines l = record {
  few : l.count + length l.rest ≤ length l.bytes;
  same : l.count + count_by is_line_feed l.rest ≡ count_by is_line_feed l.bytes;
}

abbrev pub decreases-lines : goal.decreases-lines
decreases-lines l = length l.rest
