use Rattle.std.proofs.Common.{◌≡◌, ◌<◌, ◌++◌, ◌∷◌, [], take, length, refl, ap, sym, ◌∙◌, arith, append_assoc, length-append}
use Rattle.bt_frames.specs.Headers.{without_cr, said_by}
use Rattle.bt_streams.proofs.ReadLemmas.{consumes_more, no_feed_both}
use Rattle.bt_frames.proofs.HeaderLemmas.{are_more, are_some, long_more, line_counts, longer, cut_header, header_ended}
use Rattle.bt_frames.proofs.framing.read_header.Goals as goal

pub returns-then-is_empty-clause-header : goal.returns-then-is_empty-clause-header
returns-then-is_empty-clause-header g c =
    let before = c.lines.invariant.read in
    let line = take c.in-Feed.n c.read_line.new.buffer in
    let now = rw c.in-Feed.is at c.in_ok-n.ensures.line in
    let e = c.without_cr.ensures ∙ ap without_cr c.split_at.ensures.front in
    let none : length c.without_cr.result.now ≡ 0 = grind (arith, c.is_empty.ensures, c.if-is_empty.true) in (
      before.0 ++ (line ++ 10 ∷ []),
      record {
        front = before.0;
        last = line;
        lines = are_some _ _ _ before.1;
        empty = (now.1, ap length (sym e) ∙ none);
        text = refl;
      },
      consumes_more _ _ _ before.0 (line ++ 10 ∷ []) before.2 now.2,
    )

pub returns-in-End-clause-header : goal.returns-in-End-clause-header
returns-in-End-clause-header g c =
    let before = c.lines.invariant.read in
    let n = c.in-End.count in
    let now = rw c.in-End.is at c.in_ok-n.ensures.line in
    let all = consumes_more _ _ _ before.0 (take n c.read_line.new.buffer) before.2 now.2 in
    header_ended _ _ before.0 n c.read_line.new.buffer c.lines.length c.lines.first _ before.1 now.0 now.1 before.3 all now.3 c.ended.ensures

pub returns-then-not-branch-clause-header : goal.returns-then-not-branch-clause-header
returns-then-not-branch-clause-header g c =
    let before = c.lines.invariant.read in
    let now = rw c.in-None.is at c.in_ok-n.ensures.line in
    let rest = rw c.if-not-branch.true at c.in_ok-skip_line-in-None.ensures.line in
    let all = consumes_more _ _ _ c.read_line.new.buffer rest.0 now.1 rest.2 in
    let buffer = c.read_line.new.buffer in
    let long : 0 < length (buffer ++ rest.0) = omega (arith, length-append buffer rest.0, c.read_line.auto.buffer) in (
      before.0 ++ (buffer ++ rest.0),
      cut_header before.0 (buffer ++ rest.0) c.lines.length c.lines.first before.1 (no_feed_both buffer rest.0 now.0 rest.1) (longer before.0 (buffer ++ rest.0) long),
      consumes_more _ _ _ before.0 _ before.2 all,
      rest.3,
    )

pub lines-preserved-else-is_empty : goal.lines-preserved-else-is_empty
lines-preserved-else-is_empty g c =
    let before = c.lines.invariant.read in
    let line = take c.in-Feed.n c.read_line.new.buffer in
    let now = rw c.in-Feed.is at c.in_ok-n.ensures.line in
    let e = c.without_cr.ensures ∙ ap without_cr c.split_at.ensures.front in
    let some : 0 < length c.without_cr.result.now = grind (arith, c.is_empty.ensures, c.if-is_empty.false) in
    let says = c.said_by-length.ensures ∙ ap (said_by c.lines.length) c.split_at.ensures.front in
    record {
      failures = c.in_ok-n.ensures.ok ∙ c.lines.invariant.failures;
      reads = omega (arith, c.in_ok-n.ensures.lowers (omega arith), c.lines.invariant.reads);
      read = (
        before.0 ++ (line ++ 10 ∷ []),
        rw says (are_more before.0 line c.lines.length c.lines.first before.1 now.1 (rw (sym e) some)),
        consumes_more _ _ _ before.0 (line ++ 10 ∷ []) before.2 now.2,
        λ e. line_counts before.0 line,
      );
    }

pub lines-preserved : goal.lines-preserved
lines-preserved g c =
    let before = c.lines.invariant.read in
    let buffer = c.read_line.new.buffer in
    let now = rw c.in-None.is at c.in_ok-n.ensures.line in
    let rest = rw c.if-not-branch.false at c.in_ok-skip_line-in-None.ensures.line in
    let line = buffer ++ rest.0 in
    let long : 255 < length line = omega (arith, length-append buffer rest.0, c.read_line.auto.buffer) in
    let joined = append_assoc buffer rest.0 (10 ∷ []) in
    record {
      failures = c.in_ok-skip_line-in-None.ensures.ok ∙ (c.in_ok-n.ensures.ok ∙ c.lines.invariant.failures);
      reads = omega (arith, c.skip_line.ensures.lowers, c.in_ok-n.ensures.lowers (omega arith), c.lines.invariant.reads);
      read = (
        before.0 ++ (line ++ 10 ∷ []),
        long_more before.0 line c.lines.length c.lines.first before.1 (no_feed_both buffer rest.0 now.0 rest.1) long,
        consumes_more _ _ _ before.0 (line ++ 10 ∷ []) before.2 (rw joined (consumes_more _ _ _ buffer (rest.0 ++ 10 ∷ []) now.1 rest.2)),
        λ e. line_counts before.0 line,
      );
    }
