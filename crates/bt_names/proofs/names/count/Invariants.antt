use Rattle.std.proofs.Common.{◌≡◌, ◌+◌, ◌≤◌, length, take}
use Rattle.bt_text.specs.Depth.{depth}
use Rattle.bt_names.proofs.ListingLemmas.{and_places_below}
use Rattle.bt_names.proofs.names.count.Given as goal

abbrev pub invariant-walk : goal.invariant-walk
invariant-walk l = (l.depth ≡ depth (take l.place l.names)) × (l.depth ≤ l.place) × (l.count ≤ l.place + 1) × (l.count ≡ length (and_places_below l.names l.place) + 1)
