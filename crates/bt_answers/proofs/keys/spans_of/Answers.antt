use Rattle.std.proofs.Common.{◌∙◌, ap, ℕ, List}
use Rattle.bt_answers.specs.Keys.{first_in}
use Rattle.bt_answers.proofs.keys.spans_of.Goals as goal

pub returns : goal.returns
returns g c =
    c.in_ok-spans.ensures ∙ ap (λ (t : List ℕ). first_in t c.as_slice-2.result.now) c.as_slice.ensures ∙
    ap (first_in c.args.document.now.text) (c.as_slice-2.ensures ∙ c.in_ok-found.ensures)
