use Rattle.std.proofs.Common.{◌≡◌, ◌∙◌}
use Rattle.std.specs.List.{splice}
use Rattle.std.proofs.IntoIterSteps.{All-taken}
use Rattle.bt_run.proofs.bibliography.NewPart.put.Goals as goal

pub returns-clause-ok : goal.returns-clause-ok
returns-clause-ok c =
    let part = c.args.self in
    let made = c.in_ok-spliced.ensures.items in
    let text : made.1 ≡ part.text.items = All-taken made.0 made.1 made.3 ∙ made.2.0 in
    let old : c.into_vec-bytes.result.items ≡ c.args.bbl.now = c.into_vec-bytes.ensures ∙ c.replace.ensures.value in
    c.from_vec.ensures ∙ made.4 ∙ (λ j. splice (old j) part.begin part.end (text j))
