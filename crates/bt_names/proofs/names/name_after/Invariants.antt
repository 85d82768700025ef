use Rattle.std.proofs.Common.{◌≡◌, ◌≤◌, take, slice_get}
use Rattle.bt_text.specs.Depth.{depth}
use Rattle.bt_names.specs.Names.{names_of}
use Rattle.bt_names.proofs.ListingLemmas.{names_from}
use Rattle.bt_names.proofs.names.name_after.Given as goal

abbrev pub invariant-walk : goal.invariant-walk
invariant-walk l = (l.depth ≡ depth (take l.place l.names)) × (l.depth ≤ l.place) × (slice_get (names_from l.names l.start l.place) l.left ≡ slice_get (names_of l.names) l.before)
