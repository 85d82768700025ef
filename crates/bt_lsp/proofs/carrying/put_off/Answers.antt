use Rattle.std.proofs.Common.{refl, rules}
use Rattle.bt_lsp.proofs.CarriedLemmas.{deferred}
use Rattle.bt_lsp.proofs.carrying.put_off.Goals as goal

pub returns : goal.returns
returns g c =
    deferred _ _ c.args.server.now c.take_or_lose.new.server _ _ _ c.take_or_lose.ensures.taken c.take_or_lose.ensures.follows c.take_or_lose.ensures.rest (search rules) refl
