use Rattle.std.proofs.Common.{◌≡◌, ◌∙◌, ◌<◌, ap, refl, sym, subst, List, ℕ, length}
use Rattle.std.proofs.lemmas.Option.{slice_get_read}
use Rattle.bt_run.specs.declared.course.Step.{Step}
use Rattle.bt_run.specs.inner.SortOrder.{IsBefore, IsBehind}
use Rattle.bt_run.proofs.WalkOrderLemmas.{place_between, place_same, step_read}
use Rattle.bt_run.proofs.walk_context.WalkContext.stays.Goals as goal

pub returns-then-equal_bytes : goal.returns-then-equal_bytes
returns-then-equal_bytes c = λ go s here.
    let ss = c.args.self.earlier.now.steps in
    let xs = c.as_slice.result.now in
    let k = c.args.number in
    let made = c.index-as_slice-number.result in
    let within : k < length xs = subst (λ (ys : List Step). k < length ys) (sym c.as_slice.ensures) c.requires in
    let is : s ≡ made = step_read ss xs k s made c.as_slice.ensures (slice_get_read xs (length xs) k made refl within c.index-as_slice-number.is) here in
    place_same ss k s c.args.entry.now c.in-Some.old (ap (λ (t : Step). t.input.entry) (is ∙ sym c.deref.ensures) ∙ c.in-Some.is)
    (sym c.sort_key.ensures ∙ c.equal_bytes.ensures go ∙ c.sort_key-key.ensures)

pub returns-then-is_behind : goal.returns-then-is_behind
returns-then-is_behind c = λ go s here.
    let ss = c.args.self.earlier.now.steps in
    let xs = c.as_slice.result.now in
    let k = c.args.number in
    let key = c.sort_key-key.result.now in
    let made = c.index-as_slice-number.result in
    let within : k < length xs = subst (λ (ys : List Step). k < length ys) (sym c.as_slice.ensures) c.requires in
    let is : s ≡ made = step_read ss xs k s made c.as_slice.ensures (slice_get_read xs (length xs) k made refl within c.index-as_slice-number.is) here in
    let behind : IsBehind ss s.command k key =
    subst (λ (t : Step). IsBehind ss t.command k key) (c.deref-else-equal_bytes.ensures ∙ sym is) (c.is_behind.ensures c.if-is_behind.true)
    in
    let before : IsBefore ss s.command k key =
    subst (λ (t : Step). IsBefore ss t.command k key) (c.deref-then-is_behind.ensures ∙ sym is) (c.is_before.ensures go)
    in
    place_between ss k s c.args.entry.now c.in-Some.old (ap (λ (t : Step). t.input.entry) (is ∙ sym c.deref.ensures) ∙ c.in-Some.is)
    (subst (λ (b : List ℕ). IsBehind ss s.command k b) c.sort_key-key.ensures behind)
    (subst (λ (b : List ℕ). IsBefore ss s.command k b) c.sort_key-key.ensures before)
