use Rattle.std.proofs.Common.{◌∙◌}
use Rattle.bt_text.specs.ByName.{known}
use Rattle.bt_resolve.proofs.PlacingLemmas.{stored_told, always}
use Rattle.bt_resolve.proofs.reader.Reader.stored.Goals as goal

pub returns-clause-messages : goal.returns-clause-messages
returns-clause-messages c =
    let told = stored_told c.args.self.now.asked.now (known c.args.macros.now) c.args.self.now.origin c.args.self.now.item.now.line c.args.entry.now c.args.key.now c.as_slice.result.now c.as_slice-2.result.now c.kind_of-kind.result.now c.in_ok-function.function c.args.messages.now c.tell_type.new.messages c.given.new.messages
    c.kind_of-kind.ensures c.in_ok-function.ensures (c.as_slice.ensures ∙ c.deref.ensures) (c.as_slice-2.ensures ∙ c.deref-2.ensures) c.in_ok-tell_type.ensures c.in_ok-given.ensures.messages in
    always c.with_given.result _ told
