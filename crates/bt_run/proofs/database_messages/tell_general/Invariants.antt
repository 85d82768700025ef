use Rattle.std.proofs.Common.{◌≡◌, ◌++◌, drop, filter}
use Rattle.bt_log.specs.declared.message.Message.{Message}
use Rattle.bt_run.specs.ReadCommand.{is_general}
use Rattle.bt_run.proofs.database_messages.tell_general.Given as goal

abbrev pub invariant-messages : goal.invariant-messages
invariant-messages l =
    l.log ++ filter (λ (m : Message). is_general m.place) (drop l.message-index l.messages)
    ≡ l.fn.log ++ filter (λ (m : Message). is_general m.place) l.messages
