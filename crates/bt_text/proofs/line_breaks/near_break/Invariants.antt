use Rattle.std.proofs.Common.{◌≡◌, ◌≤◌}
use Rattle.bt_text.specs.LineBreaks.{near_break}
use Rattle.bt_text.proofs.BreakingLemmas.{near_before}
use Rattle.bt_text.proofs.line_breaks.near_break.Given as goal

-- no place from the end on is white
abbrev pub invariant-places : goal.invariant-places
invariant-places l =
    record {
      least : 3 ≤ l.end;
      most : l.end ≤ 80;
      last : near_break l.text ≡ near_before l.text l.end;
    }

abbrev pub decreases-places : goal.decreases-places
decreases-places l = l.end
