use Rattle.std.specs.Prelude.{slice_get, slice_index_or}
use Rattle.std.proofs.Common.{◌≡◌, ◌∙◌, ◌<◌, ℕ, List, Some, ap, length, sym}
use Rattle.std.proofs.lemmas.Bool.{ltb-true}
use Rattle.std.proofs.lemmas.Option.{slice_get-get_or}
use Rattle.bt_run.proofs.reused_step.marked_at.Goals as goal

got : {X : Type 0} (xs own : List X) (k : ℕ) (x : X) → own ≡ xs → k < length own → x ≡ slice_index_or own k x → slice_get xs k ≡ Some x
got xs own k x is lt at = ap (λ ys. slice_get ys k) (sym is) ∙ slice_get-get_or own k x lt ∙ ap Some (sym at)

pub returns : goal.returns
returns c =
    let earlier = c.args.earlier.now in
    let k = c.args.place in
    let s = c.in_ok-step.step.now in
    let m = c.in_ok-mark.field-0.now in
    let steps = c.as_slice.result.now in
    let marks = c.as_slice-2.result.now in
    let at = got earlier.steps steps k s c.as_slice.ensures (ltb-true k (length steps) (sym c.in_ok-step.ensures.lookup.0)) c.in_ok-step.ensures.lookup.1 in
    let here = got earlier.marks marks k m c.as_slice-2.ensures (ltb-true k (length marks) (sym c.in_ok-mark.ensures.lookup.0)) c.in_ok-mark.ensures.lookup.1 in
    record { at = at; mark = earlier.marked.each k s m at here }
