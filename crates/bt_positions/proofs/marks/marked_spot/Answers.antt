use Rattle.std.proofs.Common.{◌+◌, ◌*◌, ◌≤◌, ◌<◌, ap, arith}
use Rattle.std.proofs.Math.Nat.{mul-div-le, lt-mul-div-succ}
use Rattle.bt_positions.specs.declared.marks.Line.{Line}
use Rattle.bt_positions.proofs.MarkLemmas.{begin_leads, mark_leads}
use Rattle.bt_positions.proofs.marks.marked_spot.Goals as goal

pub returns-then-count-from : goal.returns-then-count-from
returns-then-count-from c =
    begin_leads c.args.counting c.args.character c.args.line.number c.args.line.start c.args.text.now (ap (λ (l : Line). l.start) c.requires.line)

pub returns : goal.returns
returns c =
    let count = c.last_up_to-count.result in
    let line = c.args.line in
    let some : c.min-from.result < count = omega arith in
    let behind : line.start < count * 2048 = omega (arith, some, lt-mul-div-succ line.start {b = 2048} (omega arith)) in
    let before : count * 2048 + 2 ≤ line.next = omega (arith, some, mul-div-le c.saturating_sub.result 2048) in
    mark_leads c.args.counting c.args.character line.number line.start line.next count c.args.marks.now c.args.text.now c.requires.marks
    (ap (λ (l : Line). l.start) c.requires.line) (ap (λ (l : Line). l.next) c.requires.line) behind before (omega arith)
    (c.last_up_to-count.ensures.before some)
