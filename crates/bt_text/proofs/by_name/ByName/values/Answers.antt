use Rattle.std.proofs.Common.{◌∙◌}
use Rattle.bt_text.proofs.NameLemmas.{values_entries}
use Rattle.bt_text.proofs.by_name.ByName.values.Goals as goal

pub returns : goal.returns
returns g c = c.as_slice.ensures ∙ c.values.ensures.rest ∙ values_entries c.args.self.now.values.entries
