use Rattle.std.proofs.Common.{◌∙◌, refl, ap, ℕ, List, map, ◌++◌, ◌+◌, take, drop}
use Rattle.bt_log.specs.declared.message.Message.{Message}
use Rattle.bt_text.specs.ByName.{known, no_value}
use Rattle.bt_resolve.specs.Fields.{fields_messages}
use Rattle.bt_resolve.proofs.SparseValueLemmas.{no_values}
use Rattle.bt_resolve.proofs.FieldLemmas.{fields_next, told_next, nothing_given}
use Rattle.bt_resolve.proofs.fields.FieldReader.fields.Goals as goal

pub fields-init : goal.fields-init
fields-init c = record {
  given = nothing_given c.args.self.now.declared.now (known c.args.self.now.macros.now) c.reserve.new.self
      (c.reserve.ensures ∙ c.new-values.ensures ∙ no_values c.names-count.result.now ∙ ap (λ (names : List (List ℕ)). map no_value names) c.names-count.ensures);
  messages = refl;
}

pub fields-preserved : goal.fields-preserved
fields-preserved c =
    let ns = c.args.self.now.declared.now in
    let macros = known c.args.self.now.macros.now in
    let origin = c.args.self.now.origin in
    let key = c.args.self.now.key.now in
    let fields = c.args.fields.now in
    let i = c.fields.field-index in
    let f = c.field-item.result in record {
      given = c.in_ok-field.ensures.given ∙ fields_next ns macros fields i f c.fields.given c.requires c.fields-test.true c.field-item.is c.fields.invariant.given;
      messages =
          ap (λ (m : List Message). m ++ fields_messages ns macros origin key (take (i + 1) fields) (drop (i + 1) fields)) c.in_ok-field.ensures.messages
          ∙ told_next ns macros origin key c.fields.messages fields i f c.fields.given c.fields-test.true c.field-item.is c.fields.invariant.given
          ∙ c.fields.invariant.messages;
    }
