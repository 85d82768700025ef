use Rattle.std.proofs.Common.{◌≡◌, ◌++◌, drop}
use Rattle.bt_log.specs.Log.{lines_bytes}
use Rattle.bt_run.proofs.bibliography.push_lines.Given as goal

abbrev pub invariant-lines : goal.invariant-lines
invariant-lines l = l.text.items ++ lines_bytes (drop l.line-index l.lines) ≡ l.fn.text.items ++ lines_bytes l.lines
