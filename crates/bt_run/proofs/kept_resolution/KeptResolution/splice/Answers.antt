use Rattle.std.proofs.Common.{◌∙◌, sym}
use Rattle.bt_run.proofs.kept_resolution.KeptResolution.splice.Goals as goal

pub invariant_of-self-clause-edited : goal.invariant_of-self-clause-edited
invariant_of-self-clause-edited c = λ edit is. c.in_ok-edit.ensures.edit edit (sym c.replace.ensures.after ∙ is)

pub invariant_of-self-clause-kept : goal.invariant_of-self-clause-kept
invariant_of-self-clause-kept c = λ edit is. c.in_ok-edit.ensures.kept edit (sym c.replace.ensures.after ∙ is)
