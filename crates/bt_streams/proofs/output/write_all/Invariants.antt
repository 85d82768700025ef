use Rattle.std.proofs.Common.{◌≡◌, ◌-◌, ◌≤◌, take, length}
use Rattle.std.specs.Io.KnownBytes.{Appends}
use Rattle.bt_streams.proofs.output.write_all.Given as goal

abbrev pub invariant-writes : goal.invariant-writes
invariant-writes g l =
    let sink = g.K.Sink in
    record {
      room : l.written ≤ length l.bytes;
      failures : (sink.seen l.sink).failures ≡ (sink.seen l.fn.sink).failures;
      bytes : Appends (sink.seen l.fn.sink).contents (sink.seen l.sink).contents (take l.written l.bytes);
    }

abbrev pub decreases-writes : goal.decreases-writes
decreases-writes g l = length l.bytes - l.written
