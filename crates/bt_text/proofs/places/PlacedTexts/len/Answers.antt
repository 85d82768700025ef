use Rattle.std.proofs.Common.{sym, ap, length, ◌∙◌}
use Rattle.bt_text.proofs.SparseLemmas.{length_all}
use Rattle.bt_text.proofs.places.PlacedTexts.len.Goals as goal

pub returns : goal.returns
returns c = sym (length_all c.self.inside.count c.self.inside.present.items) ∙ ap length c.self.view_is
