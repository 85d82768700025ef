use Rattle.std.proofs.Common.{◌≡◌, ◌∙◌, ◌<◌, refl, sym, subst, List, length}
use Rattle.std.proofs.lemmas.Option.{slice_get_read}
use Rattle.bt_style.specs.declared.style.Command.{Command}
use Rattle.bt_run.specs.declared.course.Step.{Step}
use Rattle.bt_run.specs.inner.SortOrder.{IsFirstSort, IsIterated}
use Rattle.bt_run.proofs.WalkOrderLemmas.{keeps_one, step_read}
use Rattle.bt_run.proofs.walk_context.WalkContext.keeps_order.Goals as goal

pub returns-else-not-is_iterated : goal.returns-else-not-is_iterated
returns-else-not-is_iterated c = λ go s here.
    let context = c.args.self in
    let ss = context.earlier.now.steps in
    let xs = c.as_slice.result.now in
    let k = c.args.number in
    let sort = c.in-Some.sort in
    let after = c.args.after in
    let given = c.as_slice-commands.result.now in
    let made = c.index-as_slice-number.result in
    let within : k < length xs = subst (λ (ys : List Step). k < length ys) (sym c.as_slice.ensures) c.requires in
    let is : s ≡ made = step_read ss xs k s made c.as_slice.ensures (slice_get_read xs (length xs) k made refl within c.index-as_slice-number.is) here in
    let same = c.deref.ensures ∙ sym is in
    let first = subst (λ (t : Step). IsFirstSort given after t.command sort) same c.in-Some.ensures in
    let iterated = subst (λ (t : Step). IsIterated given sort t.command) same (c.if-not-is_iterated.ensures refl) in
    keeps_one context.style.now.commands ss k s c.args.entry.now after sort
    (subst (λ (cs : List Command). IsFirstSort cs after s.command sort) c.as_slice-commands.ensures first)
    c.if-sort-after.false
    (subst (λ (cs : List Command). IsIterated cs sort s.command) c.as_slice-commands.ensures iterated)
    (c.stays.ensures go s here)
