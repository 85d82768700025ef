use Rattle.std.proofs.Common.{◌≡◌, ◌+◌, length}
use Rattle.bt_style_text.specs.Lines.{lines_len}
use Rattle.bt_style_text.proofs.lines.lines_len.Given as goal

abbrev pub invariant-bytes : goal.invariant-bytes
invariant-bytes l = record {
  within : l.count + length l.rest ≡ length l.fn.bytes;
  same : l.count + lines_len l.left l.rest ≡ lines_len l.fn.most l.fn.bytes;
}

abbrev pub decreases-bytes : goal.decreases-bytes
decreases-bytes l = length l.rest
