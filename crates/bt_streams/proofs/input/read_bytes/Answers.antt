use Rattle.std.proofs.Common.{arith}
use Rattle.bt_streams.proofs.ReadLemmas.{consumes_part}
use Rattle.bt_streams.proofs.input.read_bytes.Goals as goal

pub pieces-preserved : goal.pieces-preserved
pieces-preserved g c =
    let now = c.in_ok-count.ensures in
    let before = c.pieces.invariant in
    record {
      room = omega (arith, now.bound, before.room);
      failures = cc;
      reads = omega (arith, now.lowers);
      bytes = consumes_part _ _ _ c.pieces.filled c.in_ok-count.count c.pieces.buffer c.read.new.buffer _ before.room now.bound before.bytes now.bytes.0;
    }
