use Rattle.std.proofs.Common.{◌≡◌, length}
use Rattle.bt_answers.specs.Formatting.{line_end}
use Rattle.bt_answers.proofs.formatting.line_end.Given as goal

abbrev pub invariant-bytes : goal.invariant-bytes
invariant-bytes l = line_end l.rest ≡ line_end l.text

abbrev pub decreases-bytes : goal.decreases-bytes
decreases-bytes l = length l.rest
