use Rattle.std.proofs.Common.{◌≡◌, drop}
use Rattle.bt_paper.specs.Known.{uri_named}
use Rattle.bt_paper.proofs.known.uri_named.Given as goal

abbrev pub invariant-known : goal.invariant-known
invariant-known l = uri_named l.name (drop l.one-index l.known) ≡ uri_named l.name l.known
