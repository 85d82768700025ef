use Rattle.std.proofs.Common.{refl}
use Rattle.bt_job.proofs.reader.Reader.take_found.Goals as goal

pub returns-in_ok-tell-in-Style : goal.returns-in_ok-tell-in-Style
returns-in_ok-tell-in-Style c = rw (c.in-Style.is, c.in_ok-tell-in-Style.ensures.ok, c.of_file-line.ensures, c.in_ok-file-in-Style.ensures, c.in_ok-copied-in-Style.ensures) refl
