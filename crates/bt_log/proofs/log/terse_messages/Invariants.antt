use Rattle.std.proofs.Common.{◌≡◌, ◌++◌, drop}
use Rattle.bt_log.specs.inner.Cases.{messages_bytes, terse}
use Rattle.bt_log.proofs.log.terse_messages.Given as goal

abbrev pub invariant-messages : goal.invariant-messages
invariant-messages l = l.text ++ messages_bytes (terse (drop l.message-index l.log)) ≡ messages_bytes (terse l.log)
