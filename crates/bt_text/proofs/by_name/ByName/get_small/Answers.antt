use Rattle.std.proofs.Common.{◌∙◌}
use Rattle.bt_text.proofs.NameLemmas.{lookup_entries}
use Rattle.bt_text.proofs.by_name.ByName.get_small.Goals as goal

pub returns : goal.returns
returns g c = c.get.ensures.value ∙ lookup_entries c.args.small.now c.args.self.now.values.entries
