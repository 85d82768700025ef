use Rattle.std.proofs.Common.{◌≡◌, drop}
use Rattle.std.specs.List.{fold}
use Rattle.bt_answers.specs.Hints.{with_mention}
use Rattle.bt_answers.proofs.hints.add_mentions.Given as goal

abbrev pub invariant-found : goal.invariant-found
invariant-found l = fold (with_mention l.asked l.text) l.names (drop l.one-index l.found) ≡ fold (with_mention l.asked l.text) l.fn.names l.found
