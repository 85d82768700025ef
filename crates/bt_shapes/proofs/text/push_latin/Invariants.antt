use Rattle.std.proofs.Common.{◌≡◌, ◌++◌, drop}
use Rattle.std.specs.Str.{encode_utf8_all}
use Rattle.std.specs.String.{string_bytes}
use Rattle.bt_shapes.proofs.text.push_latin.Given as goal

abbrev pub invariant-bytes : goal.invariant-bytes
invariant-bytes l = string_bytes l.text ++ encode_utf8_all (drop l.byte-index l.bytes) ≡ string_bytes l.fn.text ++ encode_utf8_all l.fn.bytes
