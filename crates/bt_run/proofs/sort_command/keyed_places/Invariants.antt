use Rattle.std.proofs.Common.{◌≡◌, All, map, take}
use Rattle.bt_run.specs.SortCommand.{key_at}
use Rattle.bt_run.proofs.sort_command.keyed_places.Given as goal

abbrev pub invariant-places : goal.invariant-places
invariant-places l = record {
  places : map (λ k. k.1) l.keyed.items ≡ take l.place-index l.order;
  keys : All (λ k. k.0.now ≡ key_at l.entries k.1) l.keyed.items;
}
