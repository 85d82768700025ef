use Rattle.std.proofs.Common.{◌≡◌, take}
use Rattle.bt_actions.proofs.entry.share_texts.Given as goal

abbrev pub invariant-texts : goal.invariant-texts
invariant-texts l = l.same.items ≡ take l.text-index l.texts
