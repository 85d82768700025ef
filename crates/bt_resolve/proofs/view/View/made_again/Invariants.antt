use Rattle.bt_resolve.specs.inner.Heirs.{is_marked, made_at}
use Rattle.bt_resolve.proofs.MadeAgainLemmas.{AreMadeTo}
use Rattle.bt_resolve.proofs.view.View.made_again.Given as goal

abbrev pub invariant-places : goal.invariant-places
invariant-places l = AreMadeTo (made_at l.self.asked.now l.self.min l.self.family.now l.heirs.values) (is_marked l.heirs.marks) l.places l.k l.made
