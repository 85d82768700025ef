use Rattle.bt_style.proofs.ApartLemmas.{fields_apart}
use Rattle.bt_style.proofs.style.fields_are_apart.Goals as goal

pub returns : goal.returns
returns c = fields_apart
