use Rattle.std.specs.Prelude.{map}
use Rattle.serde_json.specs.View.{view}
use Rattle.bt_lsp.proofs.CarriedLemmas.{taken_notes, noted_carried}
use Rattle.bt_lsp.proofs.server.ServerDesk.note.Goals as goal

pub returns-in-Carry-clause-notes : goal.returns-in-Carry-clause-notes
returns-in-Carry-clause-notes g c =
    taken_notes g.P.Paper.begins g.P.Files.text g.P.Paper.shown c.args.self.now _ (view c.args.message.now) _ c.take_up.new.server c.take_up.ensures

pub returns-in-Carry-clause-said : goal.returns-in-Carry-clause-said
returns-in-Carry-clause-said g c =
    noted_carried g.P.Paper.begins g.P.Files.text g.P.Paper.shown c.args.self.now c.args.method.now (view c.args.message.now) (map view c.take_up.result.items) c.take_up.new.server
    c.is_greeting.result c.is_behind.result c.notice_of-notice.result c.duty_of.result
    c.is_greeting.ensures c.if-is_greeting.false c.notice_of-notice.ensures c.is_behind.ensures c.duty_of.ensures c.in-Carry.is c.take_up.ensures
