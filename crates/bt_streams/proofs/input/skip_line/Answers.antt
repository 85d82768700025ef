use Rattle.std.proofs.Common.{◌++◌, ◌∷◌, [], arith}
use Rattle.bt_streams.proofs.ReadLemmas.{consumes_more, no_feed_more}
use Rattle.bt_streams.proofs.input.skip_line.Goals as goal

pub rest-preserved : goal.rest-preserved
rest-preserved g c =
    let now = c.in_ok-byte.ensures in
    let before = c.rest.invariant in
    record {
      failures = cc;
      reads = omega (arith, now.lowers);
      part =
          let byte = rw c.in-Some.is at now.bytes in
          let part = before.part in
          (part.0 ++ c.in-Some.byte ∷ [], no_feed_more part.0 c.in-Some.byte part.1 c.if-byte-eq10.false, consumes_more _ _ _ part.0 (c.in-Some.byte ∷ []) part.2 byte);
    }
