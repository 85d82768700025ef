use Rattle.std.proofs.Common.{◌∙◌, ap, List}
use Rattle.bt_bib.specs.Items.{items_of}
use Rattle.bt_bib.specs.declared.placed_pieces.PlacedPiece.{PlacedPiece}
use Rattle.bt_text.specs.ByName.{known}
use Rattle.bt_resolve.specs.inner.Databases.{macros_after}
use Rattle.bt_resolve.proofs.BeforeLemmas.{databases_more}
use Rattle.bt_resolve.proofs.macros_before.define_databases.Goals as goal

pub databases-preserved : goal.databases-preserved
databases-preserved c =
    databases_more c.databases.k c.args.databases.now c.index-databases-k.result (known c.databases.macros) (known c.define_pieces.new.macros) c.databases-test.true c.index-databases-k.is
    (c.in_ok-define_pieces.ensures ∙ ap (λ (ps : List PlacedPiece). macros_after (known c.databases.macros) (items_of ps)) (c.pieces.ensures ∙ c.deref.ensures))
    ∙ c.databases.invariant
