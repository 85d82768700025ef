use Rattle.std.proofs.Common.{◌∙◌, ap, ◌++◌, ◌+◌, length}
use Rattle.bt_positions.specs.inner.LineStarts.{moved}
use Rattle.bt_positions.proofs.SpliceLemmas.{inner_moves, back_moves, starts_are}
use Rattle.bt_positions.proofs.splicing.starts_after.Goals as goal

pub push_moved-requires : goal.push_moved-requires
push_moved-requires c =
    let s = c.args.splice.now in
    inner_moves s.start s.end s.new.now c.args.text.now c.as_slice.result.now (c.as_slice.ensures.value ∙ c.in_ok-inner.ensures) c.requires.in_order c.requires.within c.requires.room

pub push_moved-requires-2 : goal.push_moved-requires-2
push_moved-requires-2 c =
    let s = c.args.splice.now in
    back_moves s.start s.end c.lines_before-2.result s.new.now c.args.text.now c.args.starts.now c.split_at-2.result.1.now c.requires.starts c.requires.no_return
    c.lines_before-2.ensures.value c.split_at-2.ensures.back c.requires.in_order c.requires.within c.requires.room

pub returns : goal.returns
returns c =
    let s = c.args.splice.now in
    let front = c.split_at.result.0.now in
    let inner = c.as_slice.result.now in
    let back = c.split_at-2.result.1.now in
    c.in_ok-push_moved-2.ensures
    ∙ ap (λ all. all ++ moved s.end (s.start + length s.new.now) back)
    (c.in_ok-push_moved.ensures ∙ ap (λ all. all ++ moved 0 s.start inner) (c.in_ok-extend_from_slice.ensures.items ∙ ap (λ all. all ++ front) c.in_ok-all.ensures.items))
    ∙ starts_are s.start s.end c.lines_before.result c.lines_before-2.result s.new.now c.args.text.now c.args.starts.now front inner back c.requires.starts c.requires.no_return
    c.lines_before.ensures.value c.split_at.ensures.front (c.as_slice.ensures.value ∙ c.in_ok-inner.ensures) c.lines_before-2.ensures.value c.split_at-2.ensures.back c.requires.in_order c.requires.within
