use Rattle.std.proofs.Common.{◌≡◌, drop}
use Rattle.bt_resolve.specs.inner.Heirs.{all_heirs}
use Rattle.bt_resolve.proofs.heirs.mark_heirs.Given as goal

abbrev pub invariant-list : goal.invariant-list
invariant-list l = all_heirs l.family l.marks.items (drop l.place-index l.list) ≡ all_heirs l.family l.initial.marks.items l.list
