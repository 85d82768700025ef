use Rattle.std.proofs.Common.{ℕ, ◌+◌, length, arith, ◌<◌, refl}
use Rattle.std.proofs.lemmas.Grind.{take-set_at}
use Rattle.bt_streams.proofs.ReadLemmas.{line_more}
use Rattle.bt_streams.proofs.input.read_line.Goals as goal

pub line-preserved : goal.line-preserved
line-preserved g c =
    let now = c.in_ok-read_byte.ensures in
    let before = c.line.invariant in
    let i = c.line.i in
    let byte = rw c.in-Some.is at now.bytes in
    let lt : i < length c.line.buffer = omega arith in
    let e = take-set_at {X = ℕ} c.line.buffer i (i + 1) c.in-Some.byte refl lt in
    let next = line_more _ _ _ i c.in-Some.byte c.line.buffer _ e before.line c.in-Some.byte-test.1 before.bytes byte in
    record {
      failures = cc;
      reads = omega (arith, now.lowers);
      line = next.0;
      bytes = next.1;
    }
