use Rattle.std.proofs.Common.{◌∙◌, subst, List, arith}
use Rattle.bt_bib.specs.Items.{items_of}
use Rattle.bt_bib.specs.declared.placed_pieces.PlacedPiece.{PlacedPiece}
use Rattle.bt_resolve.specs.inner.Databases.{DefineNothing}
use Rattle.bt_resolve.proofs.BeforeLemmas.{all_nothing_end, databases_free}
use Rattle.bt_resolve.proofs.macros_before.string_databases.Goals as goal

pub databases-init : goal.databases-init
databases-init c = λ i far. all_nothing_end i c.args.databases.now (omega (arith, far))

pub databases-preserved : goal.databases-preserved
databases-preserved c =
    let here = subst (λ (ps : List PlacedPiece). DefineNothing (items_of ps)) (c.pieces.ensures ∙ c.deref.ensures) (c.strings_end.ensures 0 c.if-strings_end-gt0.false) in
    databases_free c.args.databases.now c.databases.k _ c.index-databases-number.result c.databases.invariant (omega (arith, c.databases-test.true)) c.index-databases-number.is here
