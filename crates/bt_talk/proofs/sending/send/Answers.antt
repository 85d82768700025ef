use Rattle.std.proofs.Common.{◌≡◌, length, ◌∙◌, arith}
use Rattle.serde_json.specs.View.{view}
use Rattle.serde_json.specs.Written.{compact_text}
use Rattle.bt_frames.specs.Framed.{head_of}
use Rattle.bt_talk.proofs.SendLemmas.{frame_sent}
use Rattle.bt_talk.proofs.sending.send.Goals as goal

pub returns-in-Ok-clause-sent : goal.returns-in-Ok-clause-sent
returns-in-Ok-clause-sent g c =
    let head : c.as_bytes.result.now ≡ head_of c.len.result = c.as_bytes.ensures.value ∙ c.in_ok-head.ensures in
    let same : c.as_slice.result.now ≡ c.in_ok-body.body.items = cc in
    let count : c.len.result ≡ length c.as_slice.result.now = omega (arith, c.len.ensures, c.as_slice.ensures.len) in
    frame_sent _ _ c.as_bytes.result.now c.as_slice.result.now (compact_text (view c.args.message.now)) c.len.result head count
    (same ∙ c.in_ok-body.ensures.text c.requires.plain) c.in-Ok.ensures.0.0
