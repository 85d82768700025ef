use Rattle.std.specs.Prelude.{slice_set}
use Rattle.std.proofs.Common.{◌∙◌, ap, arith, ℕ, List, Option}
use Rattle.bt_resolve.specs.inner.CurrentValues.{current}
use Rattle.bt_resolve.proofs.CurrentLemmas.{current_past, current_set}
use Rattle.bt_resolve.proofs.current_values.CurrentValues.replace.Goals as goal

pub returns-then-place-len : goal.returns-then-place-len
returns-then-place-len c =
    let v = c.self.inside in
    ap (current v.before.now) c.set.ensures
    ∙ current_set v.before.now v.since c.args.place c.args.values c.self.invariant
    ∙ ap (λ (vs : List (List (Option (List ℕ)))). slice_set vs c.args.place c.args.values) c.self.view_is

pub returns-else-place-len : goal.returns-else-place-len
returns-else-place-len c =
    let v = c.self.inside in
    current_past v.before.now c.args.self.now v.since c.args.place c.args.values c.self.invariant c.self.view_is (omega (arith, c.if-place-len.false, c.len.ensures))
