use Rattle.std.proofs.Common.{◌≡◌, take}
use Rattle.std.specs.Prelude.{map, option_map}
use Rattle.bt_actions.specs.Words.{message_of}
use Rattle.bt_actions.proofs.complaint.messages.Given as goal

abbrev pub invariant-loop-complaint : goal.invariant-loop-complaint
invariant-loop-complaint l = l.messages ≡ map (message_of (option_map (λ bytes. bytes.now) l.key)) (take l.complaint-index l.complaints)
