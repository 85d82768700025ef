use Rattle.bt_paper.proofs.TextLemmas.{job_written, job_stays}
use Rattle.bt_paper.proofs.beginning.write.Goals as goal

pub returns : goal.returns
returns c = job_written c.args.name.now c.args.text.now c.args.draft.now c.write.new.self c.in_ok-write.ensures.ok

pub returns-in_err-write : goal.returns-in_err-write
returns-in_err-write c = job_stays c.args.draft.now c.write.new.self c.in_err-write.ensures.err
