use Rattle.std.proofs.Common.{◌∙◌, ap, sym, subst, Option, arith}
use Rattle.std.specs.Prelude.{IfSome}
use Rattle.bt_text.specs.ByName.{known}
use Rattle.bt_resolve.specs.declared.span.Span.{Span}
use Rattle.bt_resolve.specs.inner.Kept.{AreBefore, IsNewSpan}
use Rattle.bt_resolve.proofs.KeptLemmas.{edit_fits, edited_there}
use Rattle.bt_resolve.proofs.kept.Resolution.edit.Goals as goal

pub is_short-requires-clause-order : goal.is_short-requires-clause-order
is_short-requires-clause-order c =
    (edit_fits c.self.inside.question c.args.self.now c.args.number c.args.items.now c.args.edit.now c.as_slice-databases.result.now c.index-databases-number.result c.pieces-old.result.now c.requires c.self.view_is c.as_slice-databases.ensures c.if-number-databases.false c.index-databases-number.is (c.pieces-old.ensures ∙ c.deref.ensures)).0

pub is_short-requires-clause-inside : goal.is_short-requires-clause-inside
is_short-requires-clause-inside c =
    (edit_fits c.self.inside.question c.args.self.now c.args.number c.args.items.now c.args.edit.now c.as_slice-databases.result.now c.index-databases-number.result c.pieces-old.result.now c.requires c.self.view_is c.as_slice-databases.ensures c.if-number-databases.false c.index-databases-number.is (c.pieces-old.ensures ∙ c.deref.ensures)).1

pub returns : goal.returns
returns c =
    edited_there c.self.inside.question c.args.self.now c.args.number c.args.items.now c.args.edit.now c.self.inside.found c.as_slice-databases.result.now c.index-databases-number.result c.pieces-old.result.now c.as_slice-reaches.result.now c.index-reaches-number.result _ c.in_ok-asked.asked c.in-Some.around (known c.deref-2.result.now) c.in-Some-read.span c.in_ok-made.made c.requires c.self.view_is c.self.invariant.0
    c.as_slice-databases.ensures c.if-number-databases.false c.index-databases-number.is (c.pieces-old.ensures ∙ c.deref.ensures) c.as_slice-reaches.ensures c.if-number-reaches.false c.index-reaches-number.is c.as_slice.ensures c.in_ok-asked.ensures (c.is_short.ensures c.if-not-is_short.false) c.in-Some.ensures (subst (AreBefore c.args.self.now c.args.number c.args.edit.now.before) (ap known (sym c.deref-2.ensures)) c.in_ok-macros.ensures)
    (subst (λ (o : Option Span). IfSome o (λ span. IsNewSpan c.in_ok-asked.asked (known c.deref-2.result.now) c.args.number c.args.edit.now c.in-Some.around span)) c.in-Some-read.is c.in_ok-read.ensures) c.in_ok-made.ensures

pub macros_before-requires : goal.macros_before-requires
macros_before-requires c =
    let of = c.requires in
    record {
      pieces = of.old;
      here = of.here;
      inside = omega (arith, of.edit.order, of.edit.inside);
    }
