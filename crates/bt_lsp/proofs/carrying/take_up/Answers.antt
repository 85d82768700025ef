use Rattle.std.proofs.Common.{inl}
use Rattle.bt_lsp.proofs.carrying.take_up.Goals as goal

pub returns-in-Ok : goal.returns-in-Ok
returns-in-Ok g c = inl (c.start.new.server, c.in-Ok.ensures.ok, c.carry_or_put_off.ensures)
