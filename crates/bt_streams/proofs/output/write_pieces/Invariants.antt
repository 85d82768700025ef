use Rattle.std.proofs.Common.{◌≡◌, take}
use Rattle.std.specs.List.{flat_map}
use Rattle.std.specs.Io.KnownBytes.{Appends}
use Rattle.bt_streams.proofs.output.write_pieces.Given as goal

abbrev pub invariant-each : goal.invariant-each
invariant-each g l =
    let sink = g.K.Sink in
    record {
      failures : (sink.seen l.sink).failures ≡ (sink.seen l.fn.sink).failures;
      bytes : Appends (sink.seen l.fn.sink).contents (sink.seen l.sink).contents (flat_map (λ piece. piece.now) (take l.piece-index l.pieces));
    }
