use Rattle.std.proofs.Common.{◌≡◌, ◌+◌, drop}
use Rattle.std.specs.List.{fold}
use Rattle.bt_mentions.specs.Gaps.{gaps_after}
use Rattle.bt_mentions.proofs.layout.Search.over.Given as goal

abbrev pub invariant-bytes : goal.invariant-bytes
invariant-bytes l = record {
  place : l.search.place ≡ l.fn.self.place + l.byte-index;
  same : fold gaps_after l.search (drop l.byte-index l.text) ≡ fold gaps_after l.fn.self l.text;
}
