use Rattle.std.proofs.Common.{ap, ◌∙◌}
use Rattle.bt_text.specs.Sparse.{all_texts}
use Rattle.bt_text.proofs.RangeLemmas.{range_none}
use Rattle.bt_text.proofs.places.PlacedTexts.new.Goals as goal

pub returns : goal.returns
returns c = ap (all_texts c.args.count) c.new.ensures.items ∙ range_none 0 c.args.count
