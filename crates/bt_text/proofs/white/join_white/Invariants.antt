use Rattle.std.proofs.Common.{◌≡◌, ◌++◌, length}
use Rattle.bt_text.specs.White.{white_joined}
use Rattle.bt_text.proofs.white.join_white.Given as goal

abbrev pub invariant-loop-rest : goal.invariant-loop-rest
invariant-loop-rest l = l.joined.items ++ white_joined l.rest ≡ white_joined l.text

abbrev pub decreases-loop-rest : goal.decreases-loop-rest
decreases-loop-rest l = length l.rest
