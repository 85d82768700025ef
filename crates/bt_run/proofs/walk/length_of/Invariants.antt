use Rattle.std.proofs.Common.{◌≡◌, ◌+◌, drop, length}
use Rattle.bt_log.specs.Log.{lines_bytes}
use Rattle.bt_run.proofs.walk.length_of.Given as goal

abbrev pub invariant-lines : goal.invariant-lines
invariant-lines l = l.length + length (lines_bytes (drop l.line-index l.lines)) ≡ length (lines_bytes l.lines)
