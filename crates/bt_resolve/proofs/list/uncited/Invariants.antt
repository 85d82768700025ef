use Rattle.std.proofs.Common.{◌≡◌, ◌++◌, drop}
use Rattle.std.specs.Prelude.{filter, not}
use Rattle.bt_resolve.specs.Listed.{is_cited_at}
use Rattle.bt_resolve.proofs.list.uncited.Given as goal

abbrev pub invariant-places : goal.invariant-places
invariant-places l = l.found.items ++ filter (λ p. not (is_cited_at l.keys l.family p)) (drop l.place-index l.places) ≡ filter (λ p. not (is_cited_at l.keys l.family p)) l.places
