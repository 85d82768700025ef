use Rattle.std.proofs.Common.{◌≡◌, ◌+◌, ◌≤◌, take}
use Rattle.std.specs.Io.KnownBytes.{Consumes}
use Rattle.bt_streams.specs.Reads.{HasNoFeed}
use Rattle.bt_streams.proofs.input.read_line.Given as goal

abbrev pub invariant-line : goal.invariant-line
invariant-line g l =
    let source = g.S.Source in
    record {
      failures : (source.seen l.source).failures ≡ (source.seen l.fn.source).failures;
      reads : (source.seen l.source).reads_left + l.i ≤ (source.seen l.fn.source).reads_left;
      line : HasNoFeed (take l.i l.buffer);
      bytes : Consumes (source.seen l.fn.source).rest (source.seen l.source).rest (take l.i l.buffer);
    }
