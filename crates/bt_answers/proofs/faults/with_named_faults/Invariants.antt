use Rattle.std.proofs.Common.{◌≡◌, drop, map}
use Rattle.std.specs.List.{fold}
use Rattle.serde_json.specs.View.{view}
use Rattle.bt_answers.specs.Faults.{with_fault}
use Rattle.bt_answers.proofs.faults.with_named_faults.Given as goal

abbrev pub invariant-messages : goal.invariant-messages
invariant-messages l =
    let add = with_fault l.count l.named.document.now l.named.link l.named.name.now in
    fold add (map view l.all.items) (drop l.message-index l.messages) ≡ fold add (map view l.fn.list.items) l.messages
