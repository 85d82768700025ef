use Rattle.std.proofs.Common.{◌≡◌, ◌++◌, drop}
use Rattle.bt_effects.specs.Words.{more_values}
use Rattle.bt_effects.proofs.words.add_more_values.Given as goal

abbrev pub invariant-values : goal.invariant-values
invariant-values l =
    l.words ++ more_values l.fields l.program (drop l.value-index l.values) ≡ l.initial.words ++ more_values l.fields l.program l.values
