use Rattle.std.proofs.Common.{◌≡◌, drop}
use Rattle.std.specs.Prelude.{find}
use Rattle.bt_places.specs.Mentioning.{touches}
use Rattle.bt_places.proofs.mentioning.mention_around.Given as goal

abbrev pub invariant-found : goal.invariant-found
invariant-found l = find (touches l.place) (drop l.one-index l.found) ≡ find (touches l.place) l.found
