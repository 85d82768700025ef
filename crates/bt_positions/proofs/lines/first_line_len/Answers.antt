use Rattle.bt_positions.proofs.LineLemmas.{first_end, no_end}
use Rattle.bt_positions.proofs.lines.first_line_len.Goals as goal

pub returns-in-Some-clause-value : goal.returns-in-Some-clause-value
returns-in-Some-clause-value c = first_end c.in-Some.count c.args.text.now c.in-Some.ensures

pub returns-in-None-clause-value : goal.returns-in-None-clause-value
returns-in-None-clause-value c = no_end c.args.text.now c.in-None.ensures
