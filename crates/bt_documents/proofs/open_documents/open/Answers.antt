use Rattle.std.proofs.Common.{refl}
use Rattle.bt_documents.proofs.DocumentLemmas.{follows_opened}
use Rattle.bt_documents.proofs.open_documents.open.Goals as goal

pub returns-clause-follows : goal.returns-clause-follows
returns-clause-follows c = λ text now. follows_opened text _ c.args.documents.now _ c.in_ok-put.ensures.documents refl now
