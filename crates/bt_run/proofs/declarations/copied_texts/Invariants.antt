use Rattle.std.proofs.Common.{◌≡◌, take}
use Rattle.bt_run.proofs.declarations.copied_texts.Given as goal

abbrev pub invariant-texts : goal.invariant-texts
invariant-texts l = l.copies ≡ take l.text-index l.texts
