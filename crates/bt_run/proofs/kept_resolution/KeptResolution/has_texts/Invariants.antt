use Rattle.std.proofs.Common.{◌≡◌, map, take}
use Rattle.bt_run.specs.inner.Cases.{text_in}
use Rattle.bt_run.proofs.kept_resolution.KeptResolution.has_texts.Given as goal

abbrev pub invariant-names : goal.invariant-names
invariant-names l = take l.number l.texts ≡ map (text_in l.files) (take l.number l.names)
