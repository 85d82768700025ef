use Rattle.std.proofs.Common.{ℕ, List, ap, ◌∙◌, map}
use Rattle.serde_json.specs.View.{view}
use Rattle.bt_answers.specs.Hints.{with_missing_if_any}
use Rattle.bt_answers.proofs.hints.with_all_missing.Goals as goal

pub returns : goal.returns
returns g c =
    c.in_ok-all.ensures ∙ ap (λ (names : List (List ℕ)). with_missing_if_any names c.args.document.now (map view c.args.list.items)) c.in_ok-known.ensures
