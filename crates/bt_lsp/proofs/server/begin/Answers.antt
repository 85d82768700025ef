use Rattle.std.proofs.Common.{rules, refl}
use Rattle.serde_json.specs.View.{view}
use Rattle.bt_lsp.proofs.CarriedLemmas.{begun}
use Rattle.bt_lsp.proofs.server.begin.Goals as goal

pub returns-clause-ok : goal.returns-clause-ok
returns-clause-ok g c =
    begun (view c.args.message.now) c.args.server.now _ _ c.offers_bytes-counts_bytes.result c.takes_plain-server.result c.shows_progress-server.result c.watches_files-server.result c.shows_related-server.result c.announced_by-server.result
    (search rules) c.offers_bytes-counts_bytes.ensures c.takes_plain-server.ensures c.shows_progress-server.ensures c.watches_files-server.ensures c.shows_related-server.ensures c.announced_by-server.ensures (search rules) refl
