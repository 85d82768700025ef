use Rattle.std.proofs.Common.{◌≡◌, drop, map}
use Rattle.std.specs.Option.{option_map}
use Rattle.serde_json.specs.View.{view}
use Rattle.bt_lsp.specs.Placing.{with_placed}
use Rattle.bt_lsp.proofs.placing.OpenStyle.with_placed.Given as goal

abbrev pub invariant-found : goal.invariant-found
invariant-found l =
    with_placed l.self.relates l.self.document.now l.self.fault (option_map (λ w. w.now) l.word) l.message (map view l.all.items) (drop l.one-index l.found) ≡
    with_placed l.self.relates l.self.document.now l.self.fault (option_map (λ w. w.now) l.word) l.message (map view l.fn.list.items) l.found
