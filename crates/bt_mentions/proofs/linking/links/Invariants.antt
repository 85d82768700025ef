use Rattle.std.proofs.Common.{◌≡◌, drop, []}
use Rattle.std.specs.List.{fold}
use Rattle.bt_mentions.specs.declared.linking.Linking.TheVariants.{Outside}
use Rattle.bt_mentions.specs.Links.{link_after}
use Rattle.bt_mentions.proofs.linking.links.Given as goal

abbrev pub invariant-bytes : goal.invariant-bytes
invariant-bytes l = record {
  place : l.scan.place ≡ l.byte-index;
  same : fold (link_after l.text) l.scan (drop l.byte-index l.text) ≡
      fold (link_after l.text) (record { state = Outside; place = 0; found = [] }) l.text;
}
