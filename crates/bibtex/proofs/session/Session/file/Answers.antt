use Rattle.std.proofs.Common.{subst}
use Rattle.bibtex.specs.declared.state.State.{State}
use Rattle.bibtex.specs.Present.{EachOnce}
use Rattle.bibtex.proofs.session.Session.file.Goals as goal

pub returns-clause-once : goal.returns-clause-once
returns-clause-once c = subst (λ (s : State). EachOnce s.texts) c.self.view_is c.self.invariant.0.once
