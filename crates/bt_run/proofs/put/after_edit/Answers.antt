use Rattle.bt_run.proofs.PutKeptLemmas.{goes_some}
use Rattle.bt_run.proofs.put.after_edit.Goals as goal

pub returns-in-Some : goal.returns-in-Some
returns-in-Some c =
    goes_some c.args.resolution c.in-Some.kept c.put.new.self c.in-Some.is (record { resolution = c.put.ensures.resolution; texts = c.put.ensures.texts })
