use Rattle.std.proofs.Common.{◌-◌, ◌≤◌, ◌<◌, get_or}
use Rattle.bt_positions.proofs.marks.last_up_to.Given as goal

abbrev pub invariant-halves : goal.invariant-halves
invariant-halves l = record {
  from : l.from ≤ l.low;
  between : l.low ≤ l.high;
  to : l.high ≤ l.to;
  before : l.from < l.low → get_or l.marks (l.low - 1) 0 ≤ l.character;
}

abbrev pub decreases-halves : goal.decreases-halves
decreases-halves l = l.high - l.low
