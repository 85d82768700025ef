use Rattle.std.proofs.Common.{◌≡◌, take}
use Rattle.bt_marks.specs.Bytes.{text_bytes}
use Rattle.bt_marks.proofs.alignment.aligned.Given as goal

abbrev pub invariant-bytes : goal.invariant-bytes
invariant-bytes l = text_bytes l.text.items ≡ take l.byte-index l.bytes
