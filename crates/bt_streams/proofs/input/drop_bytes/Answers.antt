use Rattle.std.proofs.Common.{◌≤◌, ◌++◌, take, arith, length-append}
use Rattle.std.proofs.lemmas.List.{length-take, length-take-le}
use Rattle.bt_streams.proofs.ReadLemmas.{consumes_more}
use Rattle.bt_streams.proofs.input.drop_bytes.Goals as goal

pub pieces-preserved : goal.pieces-preserved
pieces-preserved g c =
    let now = c.in_ok-count.ensures in
    let before = c.pieces.invariant.part in
    let n = c.in_ok-count.count in
    let t = c.read.new.buffer in
    let short : n ≤ c.pieces.to_drop = omega (arith, now.bound, c.min-part.ensures, c.read.auto.buffer, length-take c.min-part.result c.pieces.buffer) in
    record {
      failures = cc;
      reads = omega (arith, now.lowers);
      part = (before.0 ++ take n t, omega (arith, length-append before.0 (take n t), length-take-le n t now.bound, before.1), consumes_more _ _ _ before.0 (take n t) before.2 now.bytes.0);
    }
