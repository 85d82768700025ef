use Rattle.bibtex.proofs.TextLemmas.{once_none}
use Rattle.bibtex.proofs.draft.Draft.new.Goals as goal

pub invariant_of-result : goal.invariant_of-result
invariant_of-result c = rw c.new.ensures once_none
