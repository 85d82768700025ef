use Rattle.std.proofs.Common.{◌≡◌, length, false}
use Rattle.bt_places.specs.Commented.{has_comment}
use Rattle.bt_places.proofs.commented.has_comment.Given as goal

abbrev pub invariant-bytes : goal.invariant-bytes
invariant-bytes l = has_comment l.escaped l.rest ≡ has_comment false l.line

abbrev pub decreases-bytes : goal.decreases-bytes
decreases-bytes l = length l.rest
