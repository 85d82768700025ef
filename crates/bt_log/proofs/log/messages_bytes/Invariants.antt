use Rattle.std.proofs.Common.{◌≡◌, ◌++◌, drop}
use Rattle.bt_log.specs.inner.Cases.{messages_bytes}
use Rattle.bt_log.proofs.log.messages_bytes.Given as goal

abbrev pub invariant-messages : goal.invariant-messages
invariant-messages l = l.text ++ messages_bytes (drop l.message-index l.log) ≡ messages_bytes l.log
