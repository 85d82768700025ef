use Rattle.std.proofs.Common.{◌∙◌}
use Rattle.bt_text.proofs.NameLemmas.{place_entries}
use Rattle.bt_text.proofs.by_name.ByName.place_small.Goals as goal

pub returns : goal.returns
returns g c = c.get_index_of.ensures.index ∙ place_entries c.args.small.now c.args.self.now.values.entries
