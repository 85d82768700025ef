use Rattle.std.proofs.Common.{◌∙◌, ◌++◌, ◌+◌, ◌∷◌, [], cond, ap, sym, length, refl, append-nil, length-drop, arith}
use Rattle.bt_positions.specs.inner.LineStarts.{line_starts}
use Rattle.bt_positions.proofs.StartLemmas.{found_one, no_more}
use Rattle.bt_positions.proofs.lines.line_starts.Goals as goal

pub ends-preserved : goal.ends-preserved
ends-preserved c =
    let found = c.in-Some.ensures in
    let count = c.in-Some.count in
    let before = c.ends.rest.now in
    let back = c.split_at.ensures.back in
    let m = c.ends.place + (count + 1) in
    let xs = c.ends.starts.items in
    let l = c.args.lines in record {
      within = omega (arith, c.ends.invariant.within, ap length back, length-drop (count + 1) before, found.0.high);
      same = ap (λ s. s ++ line_starts l m c.split_at.result.1.now) (c.in_ok-push_if.ensures ∙ ap (λ e. xs ++ cond e (m ∷ []) []) c.ends_line.ensures)
          ∙ found_one l xs c.ends.place count m _ before c.split_at.result.1.now found refl back refl
          ∙ c.ends.invariant.same;
    }

pub returns : goal.returns
returns c =
    let none = no_more c.args.lines c.ends.place c.ends.rest.now c.in_default.ensures in
    sym (append-nil c.ends.starts.items) ∙ ap (λ s. c.ends.starts.items ++ s) (sym none) ∙ c.ends.invariant.same
