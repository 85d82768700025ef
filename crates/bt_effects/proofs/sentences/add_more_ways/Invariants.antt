use Rattle.std.proofs.Common.{◌≡◌, ◌++◌, drop}
use Rattle.bt_effects.specs.Sentences.{more_ways}
use Rattle.bt_effects.proofs.sentences.add_more_ways.Given as goal

abbrev pub invariant-ways : goal.invariant-ways
invariant-ways l =
    l.words ++ more_ways l.fields l.program (drop l.way-index l.ways) ≡ l.initial.words ++ more_ways l.fields l.program l.ways
