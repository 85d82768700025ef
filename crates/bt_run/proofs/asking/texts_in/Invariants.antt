use Rattle.std.proofs.Common.{◌≡◌, map, take}
use Rattle.bt_run.specs.inner.Cases.{text_in}
use Rattle.bt_run.proofs.asking.texts_in.Given as goal

abbrev pub invariant-names : goal.invariant-names
invariant-names l = l.texts ≡ map (text_in l.files) (take l.name-index l.names)
