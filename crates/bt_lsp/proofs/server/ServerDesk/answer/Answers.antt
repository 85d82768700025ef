use Rattle.std.proofs.Common.{refl}
use Rattle.serde_json.specs.View.{view}
use Rattle.bt_lsp.proofs.PlainLemmas.{by_found_plain}
use Rattle.bt_lsp.proofs.CarriedLemmas.{answered_so, answered_late, settled_notes}
use Rattle.bt_lsp.proofs.server.ServerDesk.answer.Goals as goal

pub returns-in-Ok-clause-ok : goal.returns-in-Ok-clause-ok
returns-in-Ok-clause-ok g c =
    answered_so _ _ _ c.args.self.now c.settle-notes.new.server c.outcome_for.new.server _ c.request_of.result _ _ _ c.settle-notes.ensures c.request_of.ensures c.in-Ok.ensures.ok

pub returns-in-Ok-clause-plain : goal.returns-in-Ok-clause-plain
returns-in-Ok-clause-plain g c =
    by_found_plain g.P.Paper.shown c.request_of.result (view c.args.message.now) c.settle-notes.new.server c.outcome_for.new.server c.in-Ok.outcome c.in-Ok.ensures.ok

pub returns-in-Ok-clause-notes : goal.returns-in-Ok-clause-notes
returns-in-Ok-clause-notes g c =
    settled_notes g.P.Paper.begins g.P.Files.text g.P.Paper.shown _ c.args.self.now (view c.args.message.now) _ c.settle-notes.new.server c.settle-notes.ensures

pub returns-in-Err-clause-ok : goal.returns-in-Err-clause-ok
returns-in-Err-clause-ok g c =
    answered_late _ _ _ c.args.self.now c.settle-notes.new.server c.outcome_for.new.server _ _ _ _ c.settle-notes.ensures refl c.in-Err.ensures.err

pub returns-in-Err-clause-notes : goal.returns-in-Err-clause-notes
returns-in-Err-clause-notes g c =
    settled_notes g.P.Paper.begins g.P.Files.text g.P.Paper.shown _ c.args.self.now (view c.args.message.now) _ c.settle-notes.new.server c.settle-notes.ensures
