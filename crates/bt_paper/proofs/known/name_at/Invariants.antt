use Rattle.std.proofs.Common.{◌≡◌, drop}
use Rattle.bt_paper.specs.Known.{name_at}
use Rattle.bt_paper.proofs.known.name_at.Given as goal

abbrev pub invariant-known : goal.invariant-known
invariant-known l = name_at l.uri (drop l.one-index l.known) ≡ name_at l.uri l.known
