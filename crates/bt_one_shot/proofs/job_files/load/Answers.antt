use Rattle.bt_one_shot.proofs.LoadLemmas.{loads_none}
use Rattle.bt_one_shot.proofs.job_files.load.Goals as goal

pub returns-in_default-clause-err : goal.returns-in_default-clause-err
returns-in_default-clause-err g c = loads_none _ _ _ _ _
