use Rattle.std.proofs.Common.{arith}
use Rattle.bt_positions.proofs.MarkLemmas.{by_mark, character_few}
use Rattle.bt_positions.proofs.marks.character_at.Goals as goal

pub overflow_add-result : goal.overflow_add-result
overflow_add-result c =
    let sum = by_mark c.args.counting c.min-count.result c.args.start c.args.offset c.width-2.result c.args.marks.now c.args.text.now
    c.requires.marks c.requires.start c.min-count.ensures c.if-place-start.false c.width-2.ensures in
    omega (arith, sum, character_few c.args.counting c.args.offset c.args.text.now, c.requires.small)

pub returns : goal.returns
returns c = by_mark c.args.counting c.min-count.result c.args.start c.args.offset c.width-2.result c.args.marks.now c.args.text.now
    c.requires.marks c.requires.start c.min-count.ensures c.if-place-start.false c.width-2.ensures
