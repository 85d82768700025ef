use Rattle.std.proofs.Common.{◌≡◌, ◌++◌, take}
use Rattle.bt_run.specs.inner.Cases.{all_told}
use Rattle.bt_run.proofs.step.log_messages.Given as goal

abbrev pub invariant-messages : goal.invariant-messages
invariant-messages l = l.log ≡ l.fn.log ++ all_told l.site.line l.site.style (take l.message-index l.messages)
