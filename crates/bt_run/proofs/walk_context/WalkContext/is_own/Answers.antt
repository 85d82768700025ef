use Rattle.std.specs.Prelude.{slice_get}
use Rattle.std.proofs.Common.{◌∙◌, ◌<◌, ap, refl, sym, subst, ℕ, List, length}
use Rattle.std.proofs.lemmas.Option.{slice_get_read}
use Rattle.bt_style.specs.Program.{program_of}
use Rattle.bt_run.specs.declared.mark.Mark.{Mark}
use Rattle.bt_run.proofs.WalkLemmas.{own_place}
use Rattle.bt_run.proofs.walk_context.WalkContext.is_own.Goals as goal

pub returns : goal.returns
returns c = λ s here.
    let context = c.args.self in
    let earlier = context.earlier.now in
    own_place (program_of context.style.now) context.key.now earlier.entries earlier.steps earlier.marks c.args.number c.in-Some.place context.place s c.in_ok-mark.mark.now
    context.steps earlier.marked context.keyed
    (ap (λ (ms : List Mark). slice_get ms c.args.number) (sym c.as_slice.ensures)
    ∙ slice_get_read c.as_slice.result.now (length c.as_slice.result.now) c.args.number c.in_ok-mark.mark.now refl c.in_ok-mark.ensures.lookup.3.0 (c.in_ok-mark.ensures.lookup.3.1 c.in_ok-mark.mark.now)) c.in-Some.is here
    (subst (λ (n : ℕ). c.in-Some.place < n) c.len.ensures c.if-place-len.false)
