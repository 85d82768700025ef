use Rattle.std.proofs.Common.{◌≡◌, ◌+◌, ◌*◌, ◌≤◌, drop, sum_by}
use Rattle.bt_text.specs.Widths.{byte_width}
use Rattle.bt_text.proofs.widths.bytes_width.Given as goal

abbrev pub invariant-loop-byte : goal.invariant-loop-byte
invariant-loop-byte l = (l.total ≤ 1028 * l.byte-index) × (l.total + sum_by byte_width (drop l.byte-index l.text) ≡ sum_by byte_width l.text)
