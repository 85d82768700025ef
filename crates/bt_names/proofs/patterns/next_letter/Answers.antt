use Rattle.std.proofs.Common.{◌≡◌, ◌&&◌, eqb, false, get_or, sym, ap, ◌∙◌, arith}
use Rattle.std.proofs.lemmas.Bool.{and_left, and_right, ne_eqb}
use Rattle.bt_text.specs.ByteTests.{is_letter}
use Rattle.bt_text.specs.Depth.{depth_after}
use Rattle.bt_text.proofs.BlockLemmas.{depth_take}
use Rattle.bt_names.proofs.ListingLemmas.{depth_behind_most}
use Rattle.bt_names.proofs.PatternLemmas.{letters_skipped}
use Rattle.bt_names.proofs.patterns.next_letter.Goals as goal
use Rattle.bt_names.proofs.patterns.next_letter.Goals.{else-depth-eq0-via-then-depth-eq0+else-is_letter, else-depth-eq0-via-else-depth-eq0}

pub walk-preserved : goal.walk-preserved
walk-preserved c =
    let t = c.args.text.now in
    let i = c.walk.place in
    let d = c.walk.depth in
    let at = c.walk.invariant.0 in
    let skipped : (is_letter (get_or t i 0) && eqb d 0) ≡ false =
    elim c.else-depth-eq0.branch [
      | else-depth-eq0-via-then-depth-eq0+else-is_letter w ↦ and_left (is_letter (get_or t i 0)) (eqb d 0) (sym w.is_letter.ensures ∙ w.if-is_letter.false)
      | else-depth-eq0-via-else-depth-eq0 w ↦ and_right (is_letter (get_or t i 0)) (eqb d 0) (ne_eqb d 0 w.if-depth-eq0.false)
    ] in
    (c.depth_after-depth.ensures ∙ ap (λ d. depth_after d (get_or t i 0)) at ∙ sym (depth_take t i c.walk-test.true), omega (arith, c.depth_after-depth.ensures, depth_behind_most d (get_or t i 0)), letters_skipped t i d c.walk-test.true at skipped ∙ c.walk.invariant.2)
