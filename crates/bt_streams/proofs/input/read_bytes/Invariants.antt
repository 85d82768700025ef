use Rattle.std.proofs.Common.{◌≡◌, ◌-◌, ◌≤◌, take, length}
use Rattle.std.specs.Io.KnownBytes.{Consumes}
use Rattle.bt_streams.proofs.input.read_bytes.Given as goal

abbrev pub invariant-pieces : goal.invariant-pieces
invariant-pieces g l =
    let source = g.S.Source in
    record {
      room : l.filled ≤ length l.buffer;
      failures : (source.seen l.source).failures ≡ (source.seen l.fn.source).failures;
      reads : (source.seen l.source).reads_left ≤ (source.seen l.fn.source).reads_left;
      bytes : Consumes (source.seen l.fn.source).rest (source.seen l.source).rest (take l.filled l.buffer);
    }

abbrev pub decreases-pieces : goal.decreases-pieces
decreases-pieces g l = length l.initial.buffer - l.filled
