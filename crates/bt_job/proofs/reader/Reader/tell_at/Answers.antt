use Rattle.std.proofs.Common.{refl}
use Rattle.bt_job.proofs.reader.Reader.tell_at.Goals as goal

pub returns-clause-ok : goal.returns-clause-ok
returns-clause-ok c = rw (c.in_ok-tell.ensures.ok, c.in_ok-message.ensures, c.in_ok-share.ensures) refl
