use Rattle.std.proofs.Common.{◌≡◌, take}
use Rattle.std.specs.Prelude.{sum_by}
use Rattle.bt_style.specs.Builtins.{place_of}
use Rattle.bt_run.specs.inner.Steps.{calls_in}
use Rattle.bt_run.proofs.counts.sum_of_calls.Given as goal

abbrev pub invariant-builtins : goal.invariant-builtins
invariant-builtins l = l.sum ≡ sum_by (λ b. calls_in l.calls (place_of b)) (take l.builtin-index l.builtins)
