use Rattle.std.proofs.Common.{◌∙◌}
use Rattle.bt_job.proofs.FitLemmas.{reads_fit}
use Rattle.bt_job.proofs.aux_texts.AuxTexts.citations.Goals as goal

pub returns-in-Some-clause-fit : goal.returns-in-Some-clause-fit
returns-in-Some-clause-fit c = reads_fit c.args.files.now c.args.root.now c.in_ok-asked.asked (c.in_ok-asked.ensures ∙ c.in-Some.ensures)
