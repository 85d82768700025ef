use Rattle.std.proofs.Common.{◌+◌, length-drop, arith}
use Rattle.std.proofs.lemmas.List.{take_rest}
use Rattle.bt_text.specs.ByteTests.{is_line_feed}
use Rattle.bt_bib.proofs.SeekLemmas.{hits_more, hits_none}
use Rattle.bt_bib.proofs.scan.line_ends.Goals as goal

pub lines-preserved : goal.lines-preserved
lines-preserved c =
    let rest = c.lines.rest.now in
    let k = c.in-Some.place in
    let after_byte = take_rest rest (k + 1) in
    let more = hits_more is_line_feed k rest c.in-Some.ensures in
    record {
      few = rw after_byte (omega (arith, c.in-Some.ensures.0.high, length-drop (k + 1) rest, c.lines.invariant.few));
      same = rw after_byte (omega (arith, more, c.lines.invariant.same));
    }

pub returns : goal.returns
returns c =
    let none = rw c.in_default.is at c.memchr.ensures in
    omega (arith, c.lines.invariant.same, hits_none is_line_feed c.lines.rest.now none)
