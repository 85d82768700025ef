use Rattle.std.proofs.Common.{◌≡◌, ◌++◌, length}
use Rattle.bt_places.specs.Commented.{closed_after, without_open_comments}
use Rattle.bt_places.proofs.commented.without_open_comments.Given as goal

abbrev pub invariant-bytes : goal.invariant-bytes
invariant-bytes l = l.made.items ++ closed_after l.spot l.rest ≡ without_open_comments l.text

abbrev pub decreases-bytes : goal.decreases-bytes
decreases-bytes l = length l.rest
