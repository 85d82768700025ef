use Rattle.std.proofs.Common.{◌∙◌, ap, sym, map, ℕ, List, ◌++◌, ◌∷◌, [], Bor, Option, option_map}
use Rattle.serde_json.specs.Data.{Data}
use Rattle.serde_json.specs.View.{view}
use Rattle.bt_writing.specs.Respelling.{with_own}
use Rattle.bt_writing.proofs.respelling.with_own.Goals as goal

pub returns-in_ok-all-in-Some : goal.returns-in_ok-all-in-Some
returns-in_ok-all-in-Some c =
    let list = map view c.args.list.items in
    c.in_ok-all-in-Some.ensures ∙ ap (λ (v : Data). list ++ v ∷ []) c.in_ok-value-in-Some.ensures ∙
    ap (λ (o : Option (Bor (List ℕ))). with_own c.args.document.now c.args.one list (option_map (λ (s : Bor (List ℕ)). s.now) o)) (sym c.in-Some.is)
