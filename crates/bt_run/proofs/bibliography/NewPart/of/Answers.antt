use Rattle.std.proofs.Common.{rules, ◌≡◌, ◌∙◌, ap, sym, ℕ, List, [], ◌++◌, ◌<◌, ◌+◌, ◌≤◌, drop, length, take, arith}
use Rattle.std.proofs.lemmas.List.{append_assoc, drop_all}
use Rattle.std.specs.Prelude.{slice_index_or}
use Rattle.bt_log.specs.Log.{lines_bytes}
use Rattle.bt_run.specs.declared.course.Step.{Step}
use Rattle.bt_run.specs.declared.walk.NewStep.{NewStep}
use Rattle.bt_run.specs.inner.Cases.{bbl_of}
use Rattle.bt_run.specs.inner.Walk.{with_steps}
use Rattle.bt_run.proofs.PutLemmas.{first_below, fits, indexed, indexed_first, next_numbered, next_rest, next_whole, with_line}
use Rattle.bt_run.proofs.bibliography.NewPart.of.Goals as goal

pub offset_bounds-lengths-number : goal.offset_bounds-lengths-number
offset_bounds-lengths-number c =
    let k = c.args.kept.now in
    let lt : c.others.number < length c.as_slice-lengths.result.now = indexed_first k.steps _ _ _ _ c.others-test.true c.other-item.is c.others.invariant.numbered _ (c.as_slice-lengths.ensures ∙ k.measured) in
    search rules

pub slice_bounds-end_of-end : goal.slice_bounds-end_of-end
slice_bounds-end_of-end c =
    let k = c.args.kept.now in
    let lt : c.other-item.result.number < length c.as_slice-lengths.result.now = indexed k.steps _ _ _ _ c.others-test.true c.other-item.is c.others.invariant.numbered _ (c.as_slice-lengths.ensures ∙ k.measured) in
    let le : c.others.number ≤ c.other-item.result.number = first_below k.steps _ _ _ _ c.others-test.true c.other-item.is c.others.invariant.numbered in
    search rules

pub end_of-end-requires : goal.end_of-end-requires
end_of-end-requires c =
    let k = c.args.kept.now in
    let inv = c.others.invariant in
    omega (arith, fits k.steps _ _ _ _ c.others-test.true c.other-item.is inv.numbered _ (c.as_slice-lengths.ensures ∙ k.measured) _ _ inv.within inv.rest)

pub extend_to-requires-clause-within : goal.extend_to-requires-clause-within
extend_to-requires-clause-within c =
    let k = c.args.kept.now in
    let inv = c.others.invariant in
    let fit = fits k.steps _ _ _ _ c.others-test.true c.other-item.is inv.numbered _ (c.as_slice-lengths.ensures ∙ k.measured) _ _ inv.within inv.rest in
    (omega (arith, c.end_of-end.ensures), omega (arith, fit, c.end_of-end.ensures))

pub offset_bounds-lengths-other : goal.offset_bounds-lengths-other
offset_bounds-lengths-other c =
    let k = c.args.kept.now in
    let lt : c.other-item.result.number < length c.as_slice-lengths.result.now = indexed k.steps _ _ _ _ c.others-test.true c.other-item.is c.others.invariant.numbered _ (c.as_slice-lengths.ensures ∙ k.measured) in
    search rules

pub bounds-lengths-other : goal.bounds-lengths-other
bounds-lengths-other c =
    let k = c.args.kept.now in
    indexed k.steps _ _ _ _ c.others-test.true c.other-item.is c.others.invariant.numbered _ (c.as_slice-lengths.ensures ∙ k.measured)

pub overflow_add-part : goal.overflow_add-part
overflow_add-part c =
    let k = c.args.kept.now in
    let inv = c.others.invariant in
    let fit = fits k.steps _ _ _ _ c.others-test.true c.other-item.is inv.numbered _ (c.as_slice-lengths.ensures ∙ k.measured) _ _ inv.within inv.rest in
    let le : c.end_of-end.result + slice_index_or c.as_slice-lengths.result.now c.other-item.result.number 0 ≤ length c.args.old.now = omega (arith, fit, c.end_of-end.ensures) in
    search rules

pub overflow_add-number : goal.overflow_add-number
overflow_add-number c =
    let k = c.args.kept.now in
    let lt : c.other-item.result.number < length c.as_slice-lengths.result.now = indexed k.steps _ _ _ _ c.others-test.true c.other-item.is c.others.invariant.numbered _ (c.as_slice-lengths.ensures ∙ k.measured) in
    search rules

pub others-preserved : goal.others-preserved
others-preserved c =
    let k = c.args.kept.now in
    let measured = c.as_slice-lengths.ensures ∙ k.measured in
    let inv = c.others.invariant in
    let old = c.args.old.now in
    let kept = c.extend_to.new.self.text.items in
    let line = lines_bytes c.other-item.result.step.outcome.lines in
    let fit = fits k.steps _ _ _ _ c.others-test.true c.other-item.is inv.numbered _ measured _ _ inv.within inv.rest in
    record {
      numbered = next_numbered k.steps _ _ _ _ c.others-test.true c.other-item.is inv.numbered;
      begin = omega (arith, c.in_ok-extend_to.ensures.begin);
      within = omega (arith, fit, c.end_of-end.ensures);
      rest = next_rest k.steps _ _ _ _ c.others-test.true c.other-item.is inv.numbered _ measured _ _ inv.within inv.rest _ c.end_of-end.ensures;
      whole = next_whole k.steps _ _ _ _ c.others-test.true c.other-item.is inv.numbered _ measured _ _ inv.within inv.rest _ c.end_of-end.ensures
          (take c.others.part.begin old ++ c.others.part.text.items) (take c.extend_to.new.self.begin old ++ c.push_lines.new.text.items) _ inv.whole
          (with_line (take c.extend_to.new.self.begin old) kept line _ _ (c.in_ok-push_lines.ensures ∙ ap (λ ls. kept ++ lines_bytes ls) (c.as_slice.ensures ∙ ap (λ (s : Step). s.outcome.lines) c.deref.ensures)) c.in_ok-extend_to.ensures.text);
    }

pub returns : goal.returns
returns c =
    let old = c.args.old.now in
    let part = c.others.part in
    let ss = c.args.kept.now.steps in
    let inv = c.others.invariant in
    let head = take part.begin old in
    let none : drop c.others.other-index c.args.others.now ≡ [] = drop_all c.others.other-index c.args.others.now (omega (arith, c.others-test.false)) in
    record {
      begin = inv.begin;
      end = inv.within;
      whole = sym (append_assoc head part.text.items (drop part.end old))
          ∙ ap (λ (t : List ℕ). head ++ part.text.items ++ t) (inv.rest ∙ ap (λ (os : List NewStep). bbl_of (drop c.others.number (with_steps ss os))) (sym none))
          ∙ inv.whole;
    }
