use Rattle.std.proofs.Common.{◌≡◌, length, cond, ℕ, Option, Some, refl, sym, ◌∙◌, ap, subst, arith}
use Rattle.bt_bib.specs.Spot.{start}
use Rattle.bt_bib.specs.Boundaries.{last_end}
use Rattle.bt_bib.specs.Splice.{reread_upto}
use Rattle.bt_bib.specs.inner.CommonBoundary.{IsJoint}
use Rattle.bt_bib.proofs.SpliceLemmas.{in_order, law_of, edit_joint, edit_end}
use Rattle.bt_bib.proofs.items.Items.edit.Goals as goal

pub count_below-kept-requires : goal.count_below-kept-requires
count_below-kept-requires c = in_order c.args.old_text.now c.pieces-old.result.now (c.pieces-old.ensures ∙ c.requires.old)

pub reread-requires-clause-at : goal.reread-requires-clause-at
reread-requires-clause-at c =
    let ps = c.pieces-old.result.now in
    let from = c.last_boundary-from.result in
    let is_from = c.last_boundary-from.ensures ∙ ap (last_end start) (sym c.count_below-kept.ensures.value) in
    (law_of c.args.old_text.now c.args.new_text.now c.args.splice.begin c.args.splice.end c.args.splice.inserted ps c.requires.splice (c.pieces-old.ensures ∙ c.requires.old) from _ is_from refl).3

pub reread-requires-clause-order : goal.reread-requires-clause-order
reread-requires-clause-order c = in_order c.args.old_text.now c.pieces-old.result.now (c.pieces-old.ensures ∙ c.requires.old)

pub returns-in-Some-clause-edit : goal.returns-in-Some-clause-edit
returns-in-Some-clause-edit c =
    let ps = c.pieces-old.result.now in
    let b = c.args.splice.begin in
    let e = c.args.splice.end in
    let n = c.args.splice.inserted in
    let stop = c.in_ok-new.at in
    let joint : IsJoint ps b e n stop.place (Some c.in-Some.passed) = subst (λ (o : Option ℕ). IsJoint ps b e n stop.place o) c.in-Some.is c.in_ok-new.ensures.joint in
    edit_joint c.args.old_text.now c.args.new_text.now b e n c.count_below-kept.result c.in-Some.passed _ c.args.self.now ps c.new-none.result c.in_ok-new.new c.last_boundary-from.result stop c.last_boundary-back.result c.requires.splice c.pieces-old.ensures c.requires.old
    c.count_below-kept.ensures.within c.count_below-kept.ensures.value c.last_boundary-from.ensures c.new-none.ensures c.in_ok-new.ensures.pieces c.in_ok-new.ensures.ends joint c.last_boundary-back.ensures

pub returns-in-Some-clause-read : goal.returns-in-Some-clause-read
returns-in-Some-clause-read c =
    let ps = c.pieces-old.result.now in
    let new = c.args.new_text.now in
    let b = c.args.splice.begin in
    let e = c.args.splice.end in
    let n = c.args.splice.inserted in
    let stop = c.in_ok-new.at in
    let is_from = c.last_boundary-from.ensures ∙ ap (last_end start) (sym c.count_below-kept.ensures.value) in
    let law = law_of c.args.old_text.now new b e n ps c.requires.splice (c.pieces-old.ensures ∙ c.requires.old) c.last_boundary-from.result stop is_from c.in_ok-new.ensures.ends in
    let joint : IsJoint ps b e n stop.place (Some c.in-Some.passed) = subst (λ (o : Option ℕ). IsJoint ps b e n stop.place o) c.in-Some.is c.in_ok-new.ensures.joint in
    let upto : reread_upto c.args.old_text.now new b e n ≡ stop.place = law.1 ∙ ap (λ v. cond v stop.place (length new)) joint.0 in
    omega (arith, upto, law.2)

pub returns-clause-edit : goal.returns-clause-edit
returns-clause-edit c =
    let ps = c.pieces-old.result.now in
    edit_end c.args.old_text.now c.args.new_text.now c.args.splice.begin c.args.splice.end c.args.splice.inserted c.count_below-kept.result _ c.args.self.now ps c.new-none.result c.in_ok-new.new c.last_boundary-from.result c.in_ok-new.at c.requires.splice c.pieces-old.ensures c.requires.old
    c.count_below-kept.ensures.within c.count_below-kept.ensures.value c.last_boundary-from.ensures c.new-none.ensures c.in_ok-new.ensures.pieces c.in_ok-new.ensures.ends (c.in_ok-new.ensures.last c.in-None.is)

pub returns-clause-read : goal.returns-clause-read
returns-clause-read c =
    let ps = c.pieces-old.result.now in
    let new = c.args.new_text.now in
    let b = c.args.splice.begin in
    let e = c.args.splice.end in
    let n = c.args.splice.inserted in
    let stop = c.in_ok-new.at in
    let is_from = c.last_boundary-from.ensures ∙ ap (last_end start) (sym c.count_below-kept.ensures.value) in
    let law = law_of c.args.old_text.now new b e n ps c.requires.splice (c.pieces-old.ensures ∙ c.requires.old) c.last_boundary-from.result stop is_from c.in_ok-new.ensures.ends in
    let joint = subst (λ (o : Option ℕ). IsJoint ps b e n stop.place o) c.in-None.is c.in_ok-new.ensures.joint in
    let upto : reread_upto c.args.old_text.now new b e n ≡ length new = law.1 ∙ ap (λ v. cond v stop.place (length new)) joint in
    omega (arith, upto, law.2)
