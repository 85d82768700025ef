use Rattle.std.specs.Prelude.{option_map, option_copied, Some}
use Rattle.std.proofs.Common.{◌∙◌, ap, sym, List, ℕ, Option, Bor}
use Rattle.bt_bib.specs.declared.item.Field.{Field}
use Rattle.bt_resolve.specs.Values.{field_value, joined_parts}
use Rattle.bt_resolve.proofs.PartLemmas.{value_by}
use Rattle.bt_resolve.proofs.skeleton.is_same_field.Goals as goal

pub returns-in-Some-Some : goal.returns-in-Some-Some
returns-in-Some-Some c = λ go m.
    ap (λ (o : Option (Bor Field)). option_map (λ (f : Field). field_value m f.value) (option_copied o)) c.in-Some-Some.is-0
    ∙ ap (λ (t : List ℕ). Some t) (value_by m c.in-Some-Some.old.now.value c.in-Some-Some.new.now.value
    (sym (ap (joined_parts m) c.as_slice.ensures) ∙ c.is_same_value.ensures go m ∙ ap (joined_parts m) c.as_slice-in-Some-Some.ensures))
    ∙ sym (ap (λ (o : Option (Bor Field)). option_map (λ (f : Field). field_value m f.value) (option_copied o)) c.in-Some-Some.is-1)
