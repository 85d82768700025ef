use Rattle.serde_json.specs.View.{view}
use Rattle.bt_lsp.proofs.CarriedLemmas.{began}
use Rattle.bt_lsp.proofs.carrying.begin.Goals as goal

pub returns-clause-ok : goal.returns-clause-ok
returns-clause-ok g c = began g.P.Paper.begins (view c.args.message.now) c.args.paper.now _ _ _ c.text_at-job.ensures c.text_at-folder.ensures c.in_ok-begin.ensures.ok
