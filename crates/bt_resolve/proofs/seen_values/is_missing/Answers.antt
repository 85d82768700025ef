use Rattle.std.proofs.Common.{ap, ◌∙◌, Bool}
use Rattle.std.specs.Prelude.{not}
use Rattle.bt_resolve.proofs.SparseValueLemmas.{missing_by}
use Rattle.bt_resolve.proofs.seen_values.is_missing.Goals as goal

pub returns : goal.returns
returns c = λ none. missing_by c.args.values.now c.args.place c.get.result c.get.ensures (ap not c.is_none.ensures ∙ ap (λ (b : Bool). not (not b)) none)
