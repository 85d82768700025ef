use Rattle.std.specs.Prelude.{ℕ, List, [], Option, unwrap_or, slice_index_or}
use Rattle.std.proofs.Common.{ap, ◌∙◌}
use Rattle.std.proofs.lemmas.Option.{unwrap_or-slice_get}
use Rattle.bt_actions.specs.declared.entry.Variables.{Variables}
use Rattle.bt_run.proofs.sort_command.sort_key.Goals as goal

pub returns-in-None : goal.returns-in-None
returns-in-None c =
    ap (λ (o : Option (List ℕ)). unwrap_or o []) c.in-None.ensures
    ∙ unwrap_or-slice_get c.deref.result.now.texts 0 [] ∙ ap (λ (v : Variables). slice_index_or v.texts 0 []) c.deref.ensures
