use Rattle.std.proofs.Common.{◌≡◌, map, take}
use Rattle.bt_marks.specs.Bytes.{text_bytes}
use Rattle.bt_why.proofs.rerun.plain_texts.Given as goal

abbrev pub invariant-texts : goal.invariant-texts
invariant-texts l = l.plain.items ≡ map (λ text. text_bytes text.items) (take l.text-index l.texts)
