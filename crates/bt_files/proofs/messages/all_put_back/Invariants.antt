use Rattle.std.proofs.Common.{◌≡◌, map, take}
use Rattle.bt_files.specs.Messages.{put_back}
use Rattle.bt_files.proofs.messages.all_put_back.Given as goal

abbrev pub invariant-messages : goal.invariant-messages
invariant-messages l = l.back ≡ map (put_back l.names) (take l.message-index l.messages)
