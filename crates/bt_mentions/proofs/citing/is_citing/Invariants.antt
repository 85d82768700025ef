use Rattle.std.proofs.Common.{◌≡◌, drop}
use Rattle.std.specs.List.{fold}
use Rattle.bt_mentions.specs.Citing.{citing_after}
use Rattle.bt_mentions.specs.declared.citing.Citing.TheVariants.{Outside}
use Rattle.bt_mentions.proofs.citing.is_citing.Given as goal

abbrev pub invariant-bytes : goal.invariant-bytes
invariant-bytes l = fold citing_after l.state (drop l.byte-index l.text) ≡ fold citing_after Outside l.text
