use Rattle.std.proofs.Common.{◌≡◌, take, map}
use Rattle.std.specs.Io.KnownBytes.{Appends}
use Rattle.serde_json.specs.View.{view}
use Rattle.bt_talk.specs.Talks.{sent}
use Rattle.bt_talk.proofs.sending.send_all.Given as goal

abbrev pub invariant-each : goal.invariant-each
invariant-each g l =
    let sink = g.K.Sink in
    record {
      failures : (sink.seen l.sink).failures ≡ (sink.seen l.fn.sink).failures;
      bytes : Appends (sink.seen l.fn.sink).contents (sink.seen l.sink).contents (sent (map view (take l.message-index l.messages)));
    }
