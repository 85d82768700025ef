use Rattle.std.proofs.Common.{◌<◌, ◌≤◌, ◌++◌, length, take, arith, Ok, Err, ◌∙◌, length-append}
use Rattle.std.proofs.lemmas.List.{length-take-le}
use Rattle.bt_streams.proofs.ReadLemmas.{consumes_more, no_feed_both}
use Rattle.bt_serve.proofs.TurnLemmas.{feed_turn, end_turn, part_turn, consumes_line, not_empty, request_short, request_long}
use Rattle.bt_serve.proofs.turns.serve_one.Goals as goal

pub returns-in-Ok-Feed-clause-turns : goal.returns-in-Ok-Feed-clause-turns
returns-in-Ok-Feed-clause-turns g c = λ input said known held.
    let line = rw c.in-Ok-Feed.field-0-is at c.in-Ok-Feed.ensures.line in
    let t = c.read_line.new.buffer in
    let n = c.in-Ok-Feed.n in
    let size = length-take-le n t (omega (arith, line.0)) in
    let short : length (take n t) ≤ 256 = omega (arith, size, line.0, c.read_line.auto.buffer) in
    feed_turn (take n t) input said _ _ _ _ _ _ c.args.session.now c.answer_request.new.session c.answer_request.result line.1 (c.parse.ensures ∙ request_short (take n t) short) line.2 known held c.answer_request.ensures.replies

pub returns-in-Ok-clause-turns : goal.returns-in-Ok-clause-turns
returns-in-Ok-clause-turns g c = λ input said known held.
    let line = rw c.in-Ok-End.field-0-is at c.in-Ok-End.ensures.line in
    let t = c.read_line.new.buffer in
    let n = c.in-Ok-End.n in
    let size = length-take-le n t (omega (arith, line.0)) in
    let short : length (take n t) ≤ 256 = omega (arith, size, line.0, c.read_line.auto.buffer) in
    let some : 0 < length (take n t) = omega (arith, size, c.in-Ok-End.n-test) in
    end_turn (take n t) input said _ _ _ _ _ _ c.args.session.now c.answer_request-in-Ok-End.new.session (Ok c.in-Ok.field-0) line.1 (not_empty (take n t) some) (c.parse-in-Ok-End.ensures ∙ request_short (take n t) short) line.2 line.3 known held c.in-Ok.ensures.replies

pub returns-in-Err-answer_request-clause-turns : goal.returns-in-Err-answer_request-clause-turns
returns-in-Err-answer_request-clause-turns g c = λ input said known held.
    let line = rw c.in-Ok-End.field-0-is at c.in-Ok-End.ensures.line in
    let t = c.read_line.new.buffer in
    let n = c.in-Ok-End.n in
    let size = length-take-le n t (omega (arith, line.0)) in
    let short : length (take n t) ≤ 256 = omega (arith, size, line.0, c.read_line.auto.buffer) in
    let some : 0 < length (take n t) = omega (arith, size, c.in-Ok-End.n-test) in
    end_turn (take n t) input said _ _ _ _ _ _ c.args.session.now c.answer_request-in-Ok-End.new.session (Err c.in-Err-answer_request.fault) line.1 (not_empty (take n t) some) (c.parse-in-Ok-End.ensures ∙ request_short (take n t) short) line.2 line.3 known held c.in-Err-answer_request.ensures.replies

pub returns-in-Err-skip_line-clause-turns : goal.returns-in-Err-skip_line-clause-turns
returns-in-Err-skip_line-clause-turns g c = λ input said known held.
    let line = rw c.in-Ok-None.field-0-is at c.in-Ok-None.ensures.line in
    let more = c.in-Err-skip_line.ensures.part in
    let t = c.read_line.new.buffer in
    part_turn (t ++ more.0) input said _ _ _ c.args.session.now (no_feed_both t more.0 line.0 more.1) (consumes_more _ _ _ t more.0 line.1 more.2) known held

pub returns-in-Ok-true-clause-turns : goal.returns-in-Ok-true-clause-turns
returns-in-Ok-true-clause-turns g c = λ input said known held.
    let line = rw c.in-Ok-None.field-0-is at c.in-Ok-None.ensures.line in
    let t = c.read_line.new.buffer in
    let more = rw c.in-Ok-true.field-0-test at c.in-Ok-true.ensures.line in
    let long : 256 < length (t ++ more.0) = omega (arith, length-append t more.0, c.read_line.auto.buffer) in
    feed_turn (t ++ more.0) input said _ _ _ _ _ _ c.args.session.now c.answer_request-in-Ok-true.new.session c.answer_request-in-Ok-true.result (no_feed_both t more.0 line.0 more.1) (request_long (t ++ more.0) long) (consumes_line _ _ _ t more.0 line.1 more.2) known held c.answer_request-in-Ok-true.ensures.replies

pub returns-in-Ok-answer_request-clause-turns : goal.returns-in-Ok-answer_request-clause-turns
returns-in-Ok-answer_request-clause-turns g c = λ input said known held.
    let line = rw c.in-Ok-None.field-0-is at c.in-Ok-None.ensures.line in
    let t = c.read_line.new.buffer in
    let more = rw c.in-Ok-false.field-0-test at c.in-Ok-false.ensures.line in
    let long : 256 < length (t ++ more.0) = omega (arith, length-append t more.0, c.read_line.auto.buffer) in
    let some : 0 < length (t ++ more.0) = omega (arith, long) in
    end_turn (t ++ more.0) input said _ _ _ _ _ _ c.args.session.now c.answer_request-in-Ok-false.new.session (Ok c.in-Ok-answer_request.field-0) (no_feed_both t more.0 line.0 more.1) (not_empty (t ++ more.0) some) (request_long (t ++ more.0) long) (consumes_more _ _ _ t more.0 line.1 more.2) more.3 known held c.in-Ok-answer_request.ensures.replies

pub returns-in-Err-answer_request-2-clause-turns : goal.returns-in-Err-answer_request-2-clause-turns
returns-in-Err-answer_request-2-clause-turns g c = λ input said known held.
    let line = rw c.in-Ok-None.field-0-is at c.in-Ok-None.ensures.line in
    let t = c.read_line.new.buffer in
    let more = rw c.in-Ok-false.field-0-test at c.in-Ok-false.ensures.line in
    let long : 256 < length (t ++ more.0) = omega (arith, length-append t more.0, c.read_line.auto.buffer) in
    let some : 0 < length (t ++ more.0) = omega (arith, long) in
    end_turn (t ++ more.0) input said _ _ _ _ _ _ c.args.session.now c.answer_request-in-Ok-false.new.session (Err c.in-Err-answer_request-2.fault) (no_feed_both t more.0 line.0 more.1) (not_empty (t ++ more.0) some) (request_long (t ++ more.0) long) (consumes_more _ _ _ t more.0 line.1 more.2) more.3 known held c.in-Err-answer_request-2.ensures.replies
