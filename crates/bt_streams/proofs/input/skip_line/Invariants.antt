use Rattle.std.proofs.Common.{◌≡◌, ◌≤◌}
use Rattle.bt_streams.specs.Reads.{ReadsPart}
use Rattle.bt_streams.proofs.input.skip_line.Given as goal

abbrev pub invariant-rest : goal.invariant-rest
invariant-rest g l =
    let source = g.S.Source in
    record {
      failures : (source.seen l.source).failures ≡ (source.seen l.fn.source).failures;
      reads : (source.seen l.source).reads_left ≤ (source.seen l.fn.source).reads_left;
      part : ReadsPart (source.seen l.fn.source).rest (source.seen l.source).rest;
    }

abbrev pub decreases-rest : goal.decreases-rest
decreases-rest g l = (g.S.Source.seen l.source).reads_left
