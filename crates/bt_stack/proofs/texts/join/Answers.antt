use Rattle.std.proofs.Common.{ap, ◌∙◌}
use Rattle.bt_actions.specs.World.{Goes}
use Rattle.bt_stack.specs.Tops.{joined_tops}
use Rattle.bt_stack.specs.View.{world_of}
use Rattle.bt_stack.proofs.FormLemmas.{has_item, tops_joined_are}
use Rattle.bt_stack.proofs.texts.join.Goals as goal

pub returns-then-branch : goal.returns-then-branch
returns-then-branch c =
    let s = c.args.state.now in
    let done = has_item (joined_tops s.stack.items) 2 s.stack c.join.new.self (rw c.if-branch.true at c.in_ok-join.ensures.ok) in
    ap (λ d. Goes (world_of (record s { stack = d }))) done.desk
    ∙ tops_joined_are s.stack.items done.item (world_of s) done.is c.in_ok-join.ensures.few
