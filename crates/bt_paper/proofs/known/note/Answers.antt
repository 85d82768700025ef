use Rattle.bt_paper.proofs.KnownLemmas.{noted}
use Rattle.bt_paper.proofs.known.note.Goals as goal

pub returns-clause-keeps : goal.returns-clause-keeps
returns-clause-keeps c = noted c.args.known.now c.push.new.self c.args.one c.in_ok-push.ensures.ok
