use Rattle.std.proofs.Common.{◌≡◌, ◌+◌, ◌-◌, ◌<◌, ◌≤◌, length, drop, set, sym, ◌∙◌, length-drop, length-set, arith}
use Rattle.std.proofs.lemmas.List.{take_rest}
use Rattle.bt_text.proofs.BreakingLemmas.{broken_end, broken_step, next_text}
use Rattle.bt_text.proofs.line_breaks.break_lines.Goals as goal

pub loop-place-preserved : goal.loop-place-preserved
loop-place-preserved c =
    let bs = c.loop-place.bytes.items in
    let s = c.loop-place.start in
    let i = c.in-Some.place in
    let next = s + (i - 1) in
    let new = set (set bs next 32) (next + 1) 32 in
    let found = rw (take_rest c.deref.result.now s, c.deref.ensures.value) at c.in-Some.ensures.place in
    let below = rw (take_rest c.deref.result.now s, c.deref.ensures.value) at c.in-Some.ensures.within in
    let line : s + i - s ≡ i = omega arith in
    let pushed = rw (line, c.deref-in-Some.ensures.value) at c.in_ok-push_line.ensures.ok in
    let same : length new ≡ length bs = length-set (set bs next 32) (next + 1) 32 ∙ length-set bs next 32 in
    let reached : next + 1 ≡ s + i = omega (arith, below) in
    let inside : s + i < length bs = omega (arith, below, length-drop s bs) in
    let both = broken_step c.loop-place.lines (drop s bs) (drop next new) c.args.text.items i (sym found) (next_text bs s i next reached inside) c.loop-place.invariant.2 c.loop-place.invariant.3 in
    let within : next ≤ length new = omega (arith, same) in
    (within, same ∙ c.loop-place.invariant.1, rw pushed both.0, both.1)

pub returns-clause-output : goal.returns-clause-output
returns-clause-output c =
    let bs = c.loop-place.bytes.items in
    let s = c.loop-place.start in
    let none = rw (take_rest c.deref.result.now s, c.deref.ensures.value) at c.in_default.ensures.place in
    let held = rw (take_rest c.deref-2.result.now s, c.deref-2.ensures.value) at c.in_ok-held.ensures in
    rw held (broken_end c.loop-place.lines (drop s bs) c.args.text.items (sym none) c.loop-place.invariant.2 c.loop-place.invariant.3)
