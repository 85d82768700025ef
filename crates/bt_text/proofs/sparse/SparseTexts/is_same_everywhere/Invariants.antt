use Rattle.bt_text.proofs.LayerLemmas.{AreAlike}
use Rattle.bt_text.proofs.sparse.SparseTexts.is_same_everywhere.Given as goal

abbrev pub invariant-places : goal.invariant-places
invariant-places l = AreAlike l.place l.self l.others
