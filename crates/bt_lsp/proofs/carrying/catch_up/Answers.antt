use Rattle.bt_places.proofs.TakenLemmas.{refreshed}
use Rattle.bt_places.proofs.CarriedLemmas.{lags_if, lags_by}
use Rattle.bt_lsp.proofs.carrying.catch_up.Goals as goal

pub returns-clause-follows : goal.returns-clause-follows
returns-clause-follows g c = λ f.
    c.give_again-behind.ensures.follows
    (refreshed (g.P.Files.text c.args.server.now.paper) (g.P.Files.text c.reread-server.new.paper) c.args.server.now.documents c.as_slice.result.now c.as_slice.ensures c.reread-server.ensures.follows f)

pub returns-clause-unread : goal.returns-clause-unread
returns-clause-unread g c = λ t. lags_if c.reread-server.result c.give_again-behind.result c.is_either.result c.is_either.ensures t

pub returns-clause-lags : goal.returns-clause-lags
returns-clause-lags g c = λ t.
    lags_by c.reread-server.result c.give_again-behind.result c.is_either.result c.give_again-behind.new.documents c.is_either.ensures c.give_again-behind.ensures.behind t
