use Rattle.std.proofs.Common.{◌≡◌, length}
use Rattle.std.specs.Cmp.Lexicographic.{pointwise}
use Rattle.bt_edited.proofs.comparing.each_becomes.Given as goal

abbrev pub invariant-items : goal.invariant-items
invariant-items g l =
    pointwise (g.T.Changed.becomes l.change) l.ours l.theirs ≡ pointwise (g.T.Changed.becomes l.change) l.before l.after

abbrev pub decreases-items : goal.decreases-items
decreases-items g l = length l.ours
