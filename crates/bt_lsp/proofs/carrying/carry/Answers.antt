use Rattle.bt_lsp.proofs.CarriedLemmas.{carried}
use Rattle.bt_lsp.proofs.carrying.carry.Goals as goal

pub returns : goal.returns
returns g c =
    carried _ _ c.args.server.now c.take_or_lose.new.server c.catch_up-behind.new.server c.tell.new.server _ _ _ c.catch_up-behind.result
    c.take_or_lose.ensures.taken c.take_or_lose.ensures.follows c.take_or_lose.ensures.rest
    c.catch_up-behind.ensures.documents c.catch_up-behind.ensures.follows c.catch_up-behind.ensures.due c.catch_up-behind.ensures.unread c.catch_up-behind.ensures.lags c.catch_up-behind.ensures.rest
    c.tell.ensures.told c.tell.ensures.rest
