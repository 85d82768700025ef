use Rattle.bt_text.specs.ByName.{known}
use Rattle.bt_resolve.proofs.KnownEntryLemmas.{value_at}
use Rattle.bt_resolve.proofs.known_entry.KnownEntry.is_same_value.Goals as goal

pub parts-preserved : goal.parts-preserved
parts-preserved c = λ rest.
    c.parts.invariant
    (value_at (known c.args.self.now.macros.now) (known c.args.macros.now) c.args.parts.now c.parts.k c.index-parts-k.result c.parts-test.true c.index-parts-k.is (c.in_ok-same.ensures c.if-not-same.false) rest)
