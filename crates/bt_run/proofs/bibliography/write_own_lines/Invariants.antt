use Rattle.std.proofs.Common.{◌≡◌, ◌++◌, drop}
use Rattle.bt_log.specs.Log.{lines_bytes}
use Rattle.bt_run.proofs.bibliography.write_own_lines.Given as goal

abbrev pub invariant-lines : goal.invariant-lines
invariant-lines l = l.text ++ lines_bytes (drop l.line-index l.lines) ≡ l.fn.text ++ lines_bytes l.lines
