use Rattle.std.proofs.Common.{◌≡◌, ◌<◌, drop}
use Rattle.bt_run.specs.inner.Marks.{tag_from}
use Rattle.bt_run.proofs.mark.tag_from.Given as goal

-- the bytes that are left give the whole
abbrev pub invariant-bytes : goal.invariant-bytes
invariant-bytes l = record {
  within : l.tag < 4294967296;
  whole : tag_from l.tag (drop l.byte-index l.bytes) ≡ tag_from l.first l.bytes;
}
