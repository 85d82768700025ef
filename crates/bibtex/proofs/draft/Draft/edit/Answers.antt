use Rattle.bibtex.specs.Edit.{edit_of}
use Rattle.bibtex.proofs.OrderLemmas.{once_changed}
use Rattle.bibtex.proofs.draft.Draft.edit.Goals as goal

pub invariant_of-self : goal.invariant_of-self
invariant_of-self c = once_changed (edit_of c.args.edit) c.self.inside.state c.in_ok-state.state c.in_ok-state.ensures c.self.invariant
