use Rattle.std.proofs.Common.{◌≡◌, ◌∙◌, ◌+◌, ◌-◌, ap, sym, length, take, drop, arith, length-drop}
use Rattle.std.proofs.lemmas.Result.{MatchResult-from_err}
use Rattle.std.proofs.lemmas.List.{take-append-drop}
use Rattle.std.proofs.Math.Seq.{take-add, take-length}
use Rattle.bt_streams.proofs.WriteLemmas.{appends_more, part_kept}
use Rattle.bt_streams.proofs.output.write_all.Goals as goal

pub returns-in_err-written : goal.returns-in_err-written
returns-in_err-written g c =
    let before = c.writes.invariant in
    let n = c.writes.written in
    let t = c.args.bytes.now in
    let part = part_kept _ _ _ (take n t) (drop n t) t (sym (take-append-drop n t)) before.bytes c.in_err-written.ensures.bytes in
    MatchResult-from_err c.from_residual.result _ _ c.from_residual.ensures.0 (λ _. (part, c.in_err-written.ensures.err ∙ ap (λ n. n + 1) before.failures))

pub writes-preserved : goal.writes-preserved
writes-preserved g c =
    let before = c.writes.invariant in
    let now = c.in_ok-written.ensures in
    let n = c.writes.written in
    let m = c.in_ok-written.field-0 in
    let t = c.args.bytes.now in
    let e : take (length t - n) (drop n t) ≡ drop n t = rw length-drop at (take-length (drop n t)) in
    record {
      room = omega (arith, now.bound, length-drop n t, before.room);
      failures = cc;
      bytes = rw take-add (appends_more _ _ _ (take n t) (take m (drop n t)) before.bytes (rw e at now.bytes));
    }
