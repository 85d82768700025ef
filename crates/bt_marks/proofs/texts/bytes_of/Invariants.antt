use Rattle.std.proofs.Common.{◌≡◌, take}
use Rattle.bt_marks.specs.Bytes.{text_bytes}
use Rattle.bt_marks.proofs.texts.bytes_of.Given as goal

abbrev pub invariant-text : goal.invariant-text
invariant-text l = l.bytes.items ≡ text_bytes (take l.marked-index l.text)
