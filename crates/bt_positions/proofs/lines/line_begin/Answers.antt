use Rattle.std.proofs.Common.{arith}
use Rattle.bt_positions.proofs.StartLemmas.{first_begins, start_beyond, start_there}
use Rattle.bt_positions.proofs.lines.line_begin.Goals as goal

pub returns-then-line-eq0 : goal.returns-then-line-eq0
returns-then-line-eq0 c = record { value = first_begins c.args.lines c.args.line c.args.text.now (omega (arith, c.if-line-eq0.true)) }

pub returns-then-line-starts : goal.returns-then-line-starts
returns-then-line-starts c = record { value = start_beyond c.args.lines c.args.line c.args.text.now c.args.starts.now c.requires (omega (arith, c.if-line-starts.true)) }

pub returns-else-line-starts : goal.returns-else-line-starts
returns-else-line-starts c = record {
  value = start_there c.args.lines c.args.line 0 c.args.text.now c.args.starts.now c.requires (omega (arith, c.if-line-eq0.false)) (omega (arith, c.if-line-starts.false));
}
