use Rattle.serde_json.specs.View.{view}
use Rattle.bt_lsp.proofs.TakenLemmas.{made_change}
use Rattle.bt_lsp.proofs.changes.change_of.Goals as goal

pub returns : goal.returns
returns c =
    made_change c.args.counting (view c.args.value.now) c.in-Some.text.now c.in_ok-bytes.bytes c.position_at-from.result c.position_at-to.result c.change_between.result
    c.in-Some.ensures c.in_ok-bytes.ensures c.position_at-from.ensures c.position_at-to.ensures c.change_between.ensures
