use Rattle.bt_documents.specs.Written.{is_taken}
use Rattle.bt_paper.proofs.TextLemmas.{others_given}
use Rattle.bt_paper.proofs.giving.replace.Goals as goal

pub returns-in-Some : goal.returns-in-Some
returns-in-Some c = others_given c.args.session.now c.give.new.session c.args.name.now c.as_slice.result.now (is_taken c.give.result) c.give.ensures.kept c.give.ensures.gives
