use Rattle.std.proofs.Common.{◌≡◌, length}
use Rattle.std.specs.Prelude.{◌↔◌}
use Rattle.bt_text.specs.White.{white_joined}
use Rattle.bt_text.proofs.white.is_white_joined.Given as goal

abbrev pub invariant-loop-rest : goal.invariant-loop-rest
invariant-loop-rest l = (white_joined l.rest ≡ l.rest) ↔ (white_joined l.text ≡ l.text)

abbrev pub decreases-loop-rest : goal.decreases-loop-rest
decreases-loop-rest l = length l.rest
