use Rattle.std.proofs.Common.{◌≡◌, ◌+◌, drop}
use Rattle.std.specs.List.{fold}
use Rattle.bt_mentions.specs.Scan.{scan_after}
use Rattle.bt_mentions.proofs.scan.Scan.over.Given as goal

abbrev pub invariant-bytes : goal.invariant-bytes
invariant-bytes l = record {
  place : l.scan.place ≡ l.fn.self.place + l.byte-index;
  same : fold scan_after l.scan (drop l.byte-index l.text) ≡ fold scan_after l.fn.self l.text;
}
