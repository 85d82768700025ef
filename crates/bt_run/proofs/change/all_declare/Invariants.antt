use Rattle.std.proofs.Common.{◌<◌, ℕ}
use Rattle.bt_style.specs.Program.{program_of}
use Rattle.bt_run.specs.inner.Change.{DeclaresAt}
use Rattle.bt_run.proofs.change.all_declare.Given as goal

abbrev pub invariant-commands : goal.invariant-commands
invariant-commands l = (k : ℕ) → k < l.number → DeclaresAt (program_of l.style) l.declared k
