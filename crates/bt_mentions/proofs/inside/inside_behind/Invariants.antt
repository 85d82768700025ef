use Rattle.std.proofs.Common.{◌≡◌, drop}
use Rattle.std.specs.List.{fold}
use Rattle.bt_mentions.specs.Inside.{inside_after}
use Rattle.bt_mentions.specs.declared.inside.Inside.TheVariants.{Name}
use Rattle.bt_mentions.proofs.inside.inside_behind.Given as goal

abbrev pub invariant-bytes : goal.invariant-bytes
invariant-bytes l = fold inside_after l.state (drop l.byte-index l.text) ≡ fold inside_after (Name 9) l.text
