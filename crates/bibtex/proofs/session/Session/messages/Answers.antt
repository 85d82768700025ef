use Rattle.std.proofs.Common.{◌∙◌, ap}
use Rattle.bibtex.specs.Present.{shown}
use Rattle.bibtex.specs.declared.state.State.{State}
use Rattle.bt_run.specs.Meaning.{Meaning}
use Rattle.bibtex.proofs.SessionLemmas.{log_in_words}
use Rattle.bibtex.proofs.session.Session.messages.Goals as goal

pub returns-clause-log : goal.returns-clause-log
returns-clause-log c =
    log_in_words c.args.self.now c.as_slice.result.now
    (c.as_slice.ensures
    ∙ ap (λ (m : Meaning). m.messages) c.self.invariant.0.is_meaning
    ∙ ap (λ (s : State). (shown s).messages) c.self.view_is)
