use Rattle.std.proofs.Common.{◌∙◌, ap, sym, arith}
use Rattle.std.proofs.lemmas.Bool.{eq-eqb, ne_eqb}
use Rattle.bt_bib.specs.declared.spot.Spot.{Spot}
use Rattle.bt_bib.proofs.SpliceLemmas.{common_is_last}
use Rattle.bt_bib.proofs.common_boundary.joint.Goals as goal

pub returns-then-last_boundary-back : goal.returns-then-last_boundary-back
returns-then-last_boundary-back c =
    let s = c.last_boundary.result in
    let is = common_is_last c.args.old.now c.args.splice.begin c.args.splice.end c.args.splice.inserted c.args.place c.count_below-count.result s c.requires.order (omega (arith, c.if-place-first.false)) c.count_below-count.ensures.value c.last_boundary.ensures in (
      is ∙ eq-eqb _ _ c.if-last_boundary-back.true,
      c.count_below-count.ensures.within,
      ap (λ (u : Spot). u.place) (sym c.last_boundary.ensures) ∙ c.if-last_boundary-back.true,
    )

pub returns-else-last_boundary-back : goal.returns-else-last_boundary-back
returns-else-last_boundary-back c =
    let s = c.last_boundary.result in
    let is = common_is_last c.args.old.now c.args.splice.begin c.args.splice.end c.args.splice.inserted c.args.place c.count_below-count.result s c.requires.order (omega (arith, c.if-place-first.false)) c.count_below-count.ensures.value c.last_boundary.ensures in
    is ∙ ne_eqb _ _ c.if-last_boundary-back.false
