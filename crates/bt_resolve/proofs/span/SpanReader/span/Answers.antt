use Rattle.std.proofs.Common.{◌≡◌, refl, sym, subst, List, IsTrue}
use Rattle.std.specs.Prelude.{IfSome}
use Rattle.bt_text.specs.ByName.{known}
use Rattle.bt_bib.specs.Items.{items_of}
use Rattle.bt_bib.specs.declared.placed_pieces.PlacedPiece.{PlacedPiece}
use Rattle.bt_resolve.specs.inner.Spans.{span_of, tells_of}
use Rattle.bt_resolve.proofs.MarkLemmas.{no_pieces, only_piece}
use Rattle.bt_resolve.proofs.span.SpanReader.span.Goals as goal

pub returns-then-pieces-eq0-clause-told : goal.returns-then-pieces-eq0-clause-told
returns-then-pieces-eq0-clause-told c =
    subst (λ (ps : List PlacedPiece). IsTrue (tells_of c.args.self.now.mark (items_of ps))) (sym (no_pieces c.args.pieces.now c.if-pieces-eq0.true)) refl

pub returns-then-pieces-eq0-clause-span : goal.returns-then-pieces-eq0-clause-span
returns-then-pieces-eq0-clause-span c =
    subst (λ (ps : List PlacedPiece). c.nothing.result ≡ span_of c.args.self.now.asked.now (known c.args.self.now.macros.now) c.args.self.now.database c.args.self.now.mark (items_of ps)) (sym (no_pieces c.args.pieces.now c.if-pieces-eq0.true)) c.nothing.ensures

pub returns-clause-told : goal.returns-clause-told
returns-clause-told c =
    subst (λ (ps : List PlacedPiece). IfSome c.in_ok-read.read (λ span. IsTrue (tells_of c.args.self.now.mark (items_of ps))))
    (sym (only_piece c.args.pieces.now c.index-pieces-0.result c.requires.few c.if-pieces-eq0.false c.index-pieces-0.is)) c.in_ok-read.ensures.told

pub returns-clause-span : goal.returns-clause-span
returns-clause-span c =
    subst (λ (ps : List PlacedPiece). IfSome c.in_ok-read.read (λ span. span ≡ span_of c.args.self.now.asked.now (known c.args.self.now.macros.now) c.args.self.now.database c.args.self.now.mark (items_of ps)))
    (sym (only_piece c.args.pieces.now c.index-pieces-0.result c.requires.few c.if-pieces-eq0.false c.index-pieces-0.is)) c.in_ok-read.ensures.span
