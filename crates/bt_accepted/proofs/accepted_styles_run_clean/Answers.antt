use Rattle.bt_accepted.proofs.Linked.{sound_over_files}
use Rattle.bt_accepted.proofs.accepted_styles_run_clean.Goals as goal

pub returns : goal.returns
returns c = sound_over_files
