use Rattle.std.proofs.Common.{◌≡◌, ◌+◌, ◌-◌, ap, sym, ◌∙◌, arith}
use Rattle.bt_text.proofs.BreakingLemmas.{near_break_start, near_before, near_white, near_dark}
use Rattle.bt_text.proofs.line_breaks.near_break.Goals as goal

pub places-init : goal.places-init
places-init c = record { least = omega arith; most = omega arith; last = near_break_start c.args.text.now }

pub places-preserved : goal.places-preserved
places-preserved c =
    let t = c.args.text.now in
    let i = c.places.end - 1 in
    let up : c.places.end ≡ i + 1 = omega arith in
    let dark = near_dark t i (omega arith) (sym c.is_white.ensures ∙ c.if-is_white.false) in
    record { least = omega arith; most = omega arith; last = c.places.invariant.last ∙ ap (near_before t) up ∙ dark }

pub returns-then-is_white-clause-place : goal.returns-then-is_white-clause-place
returns-then-is_white-clause-place c =
    let t = c.args.text.now in
    let i = c.places.end - 1 in
    let up : c.places.end ≡ i + 1 = omega arith in
    let white = near_white t i (omega arith) (sym c.is_white.ensures ∙ c.if-is_white.true) in
    sym (c.places.invariant.last ∙ ap (near_before t) up ∙ white)

pub returns-clause-place : goal.returns-clause-place
returns-clause-place c =
    let begun : c.places.end ≡ 3 = omega arith in
    sym (c.places.invariant.last ∙ ap (near_before c.args.text.now) begun)
