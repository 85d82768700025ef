use Rattle.std.specs.Prelude.{option_map, find}
use Rattle.std.proofs.Common.{◌∙◌, ap, sym, List, Option}
use Rattle.bt_text.specs.CaseFolding.{is_same_folded}
use Rattle.bt_bib.specs.declared.item.Field.{Field}
use Rattle.bt_resolve.specs.Names.{crossref}
use Rattle.bt_resolve.specs.Values.{field_value}
use Rattle.bt_resolve.specs.Fields.{given_value}
use Rattle.bt_resolve.proofs.skeleton.is_same_skeleton.Goals as goal

pub returns : goal.returns
unfolding given_value
returns c = λ go m.
    let first : List Field → Option Field = find (λ (f : Field). is_same_folded f.name crossref) in
    let was = c.crossref_of-was.ensures ∙ ap first c.as_slice.ensures in
    let is = c.crossref_of-is.ensures ∙ ap first c.as_slice-2.ensures in
    record {
      key = c.is_same_key.ensures c.if-not-is_same_key.false;
      kind = sym c.kind_of.ensures ∙ c.equal_bytes.ensures c.if-not-equal_bytes.false ∙ c.kind_of-2.ensures;
      reference =
          sym (ap (λ (o : Option Field). option_map (λ (f : Field). field_value m f.value) o) was)
          ∙ c.is_same_field.ensures go m
          ∙ ap (λ (o : Option Field). option_map (λ (f : Field). field_value m f.value) o) is;
    }
