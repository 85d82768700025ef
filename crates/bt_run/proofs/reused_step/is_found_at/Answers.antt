use Rattle.std.proofs.Common.{None, sym, arith}
use Rattle.bt_run.specs.declared.mark.Mark.{Mark}
use Rattle.bt_run.proofs.StepNameLemmas.{other_tag}
use Rattle.bt_run.proofs.reused_step.is_found_at.Goals as goal

pub returns-then-mark-tag : goal.returns-then-mark-tag
returns-then-mark-tag c =
    let earlier = c.args.earlier.now in
    let none : Mark = record { place = None; tag = 0 } in
    sym (other_tag c.args.sought earlier.entries earlier.steps earlier.marks c.as_slice.result.now c.args.place none
    earlier.marked c.as_slice.ensures c.requires.within (λ e. absurd (omega (arith, e, c.requires.tag, c.if-mark-tag.true))))
