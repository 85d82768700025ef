use Rattle.std.proofs.Common.{◌∙◌, ap, ℕ, List}
use Rattle.bt_text.proofs.NameLemmas.{if_ok}
use Rattle.bt_text.specs.ByName.{known}
use Rattle.bt_bib.specs.declared.item.Part.{Part}
use Rattle.bt_resolve.specs.Values.{field_value, without_first_space, without_last_space}
use Rattle.bt_resolve.proofs.fields.FieldReader.value.Goals as goal

pub returns-clause-value : goal.returns-clause-value
unfolding field_value
returns-clause-value c =
    if_ok _ _ c.trimmed.result (λ (text : List ℕ) is.
    is ∙ ap (λ (t : List ℕ). without_last_space (without_first_space t)) c.in_ok-value.ensures.value
    ∙ ap (λ (parts : List Part). field_value (known c.args.self.now.macros.now) parts) c.as_slice.ensures) c.trimmed.ensures
