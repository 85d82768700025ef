use Rattle.std.proofs.Common.{◌≡◌, length}
use Rattle.bt_writing.specs.ItemEnds.{begins_field}
use Rattle.bt_writing.proofs.item_ends.begins_field.Given as goal

abbrev pub invariant-bytes : goal.invariant-bytes
invariant-bytes l = begins_field l.rest ≡ begins_field l.text

abbrev pub decreases-bytes : goal.decreases-bytes
decreases-bytes l = length l.rest
