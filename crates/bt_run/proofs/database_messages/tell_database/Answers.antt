use Rattle.bt_run.proofs.ReadingLemmas.{told_behind}
use Rattle.bt_run.proofs.database_messages.tell_database.Goals as goal

pub messages-init : goal.messages-init
messages-init c = told_behind c.args.log.now c.push.new.self _ c.in_ok-file_line.field-0 _ c.in_ok-file_line.ensures c.in_ok-push.ensures.ok
