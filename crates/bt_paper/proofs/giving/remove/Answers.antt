use Rattle.std.proofs.Common.{ap}
use Rattle.bt_job.specs.FileNames.{text_of}
use Rattle.bibtex.specs.declared.state.State.{State}
use Rattle.bt_paper.proofs.TextLemmas.{text_removed}
use Rattle.bt_paper.proofs.giving.remove.Goals as goal

pub returns-in-Ok : goal.returns-in-Ok
returns-in-Ok c = text_removed c.args.name.now c.args.session.now c.remove.new.self c.in-Ok.ensures.ok

pub returns-in-Err : goal.returns-in-Err
returns-in-Err c = λ other apart. ap (λ (x : State). text_of x.texts other) c.in-Err.ensures.err
