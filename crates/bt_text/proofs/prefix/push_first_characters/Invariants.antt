use Rattle.std.proofs.Common.{◌≡◌, ◌++◌, length}
use Rattle.bt_text.specs.Pieces.{pieces}
use Rattle.bt_text.proofs.CuttingLemmas.{first_bytes}
use Rattle.bt_text.proofs.prefix.push_first_characters.Given as goal

abbrev pub invariant-loop-left : goal.invariant-loop-left
invariant-loop-left l = l.out.items ++ first_bytes l.left (pieces l.rest) ≡ l.fn.out.items ++ first_bytes l.most (pieces l.text)

abbrev pub decreases-loop-left : goal.decreases-loop-left
decreases-loop-left l = length l.rest
