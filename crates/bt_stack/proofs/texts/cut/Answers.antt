use Rattle.std.proofs.Common.{ap, ◌∙◌}
use Rattle.bt_actions.specs.World.{Goes}
use Rattle.bt_stack.specs.Desk.{with_items}
use Rattle.bt_stack.specs.Tops.{cut, with_top}
use Rattle.bt_stack.specs.View.{world_of}
use Rattle.bt_stack.proofs.PartLemmas.{part_answered, numbers_there}
use Rattle.bt_stack.proofs.texts.cut.Goals as goal

pub drop_tops-requires : goal.drop_tops-requires
drop_tops-requires c = numbers_there c.args.state.now.stack.items _ _ c.in-Some.ensures.some

pub returns-in-Some : goal.returns-in-Some
returns-in-Some c = let s = c.args.state.now in
    let some = c.in-Some.ensures.some in
    ap (λ d. Goes (world_of (record s { stack = d }))) (c.cut_top.ensures.top ∙ ap (λ d. with_items (with_top (cut c.in-Some.place.0 c.in-Some.place.1) d.items) d) c.drop_tops.ensures)
    ∙ part_answered s.stack.items c.in-Some.place.0 c.in-Some.place.1 (world_of s) some (rw c.drop_tops.ensures at c.cut_top.ensures.few)
