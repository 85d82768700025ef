use Rattle.bt_resolve.proofs.ApartLemmas.{stored_at}
use Rattle.bt_resolve.proofs.view.View.is_listed_as.Goals as goal

pub returns : goal.returns
returns c = λ go. stored_at c.args.self.now.family.now _ c.args.key.now (c.is_of_key.ensures go)
