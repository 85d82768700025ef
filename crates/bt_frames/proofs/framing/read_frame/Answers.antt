use Rattle.bt_frames.proofs.HeaderLemmas.{frame_read}
use Rattle.bt_frames.proofs.framing.read_frame.Goals as goal

pub returns-in_ok-frame-in-Length-Some-clause-frame : goal.returns-in_ok-frame-in-Length-Some-clause-frame
returns-in_ok-frame-in-Length-Some-clause-frame g c =
    let header = rw c.in-Length-Some.is at c.in_ok-count.ensures.header in
    let says = rw c.in-Length-Some.field-0-is at header.1 in
    frame_read _ _ _ header.0 c.in-Length-Some.count _ says header.2 c.in_ok-frame-in-Length-Some.ensures.body
