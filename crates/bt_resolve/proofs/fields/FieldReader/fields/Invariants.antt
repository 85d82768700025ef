use Rattle.std.proofs.Common.{◌≡◌, ◌++◌, [], take, drop}
use Rattle.bt_text.specs.ByName.{known}
use Rattle.bt_resolve.specs.Fields.{fields_messages}
use Rattle.bt_resolve.specs.inner.Slots.{given_by}
use Rattle.bt_resolve.proofs.fields.FieldReader.fields.Given as goal

abbrev pub invariant-fields : goal.invariant-fields
invariant-fields l = record {
  given : l.given ≡ given_by l.self.declared.now (known l.self.macros.now) (take l.field-index l.fields);
  messages : l.messages ++ fields_messages l.self.declared.now (known l.self.macros.now) l.self.origin l.self.key.now (take l.field-index l.fields) (drop l.field-index l.fields)
      ≡ l.initial.messages ++ fields_messages l.self.declared.now (known l.self.macros.now) l.self.origin l.self.key.now [] l.fields;
}
