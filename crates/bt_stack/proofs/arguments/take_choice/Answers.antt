use Rattle.std.proofs.Common.{ap, ◌∙◌, Option, Some}
use Rattle.bt_actions.specs.Item.{Code}
use Rattle.bt_actions.specs.View.{code_seen}
use Rattle.bt_actions.specs.World.{World}
use Rattle.bt_stack.specs.Desk.{Desk}
use Rattle.bt_stack.specs.View.{world_of}
use Rattle.bt_stack.proofs.ChoiceLemmas.{three_there, choice_taken, no_choice_asked}
use Rattle.bt_stack.proofs.arguments.take_choice.Goals as goal

pub drop_tops-requires : goal.drop_tops-requires
drop_tops-requires c = three_there c.args.state.now.stack.items _ c.in-Some.ensures

pub returns-in-Some : goal.returns-in-Some
returns-in-Some c = let s = c.args.state.now in
    let left : Desk → Option Code × World = λ d. (Some (code_seen c.in-Some.code), world_of (record s { stack = d })) in
    ap left c.drop_tops.ensures
    ∙ choice_taken s.stack.items _ (world_of s) c.in-Some.ensures

pub refuse_choice-requires : goal.refuse_choice-requires
refuse_choice-requires c = no_choice_asked _ c.in-None.ensures
