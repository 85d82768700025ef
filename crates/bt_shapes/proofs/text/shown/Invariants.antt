use Rattle.std.proofs.Common.{◌≡◌, ◌++◌}
use Rattle.std.specs.Str.Chunks.{utf8_chunks_rest}
use Rattle.std.specs.String.{string_bytes}
use Rattle.bt_shapes.specs.Text.{as_utf8}
use Rattle.bt_shapes.proofs.text.shown.Given as goal

abbrev pub invariant-chunks : goal.invariant-chunks
invariant-chunks l = string_bytes l.text ++ as_utf8 (utf8_chunks_rest l.chunk-iterator) ≡ as_utf8 l.fn.bytes
