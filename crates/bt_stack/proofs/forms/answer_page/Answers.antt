use Rattle.std.proofs.Common.{ap, sym, ◌∙◌, length, drop}
use Rattle.std.specs.Prelude.{nat_le}
use Rattle.bt_actions.specs.Item.{Txt}
use Rattle.bt_actions.specs.World.{Goes, with_stack}
use Rattle.bt_stack.specs.View.{world_of}
use Rattle.bt_stack.proofs.FormLemmas.{is_answered, pushed_is, room_after}
use Rattle.bt_stack.proofs.forms.answer_page.Goals as goal

pub returns-then-branch : goal.returns-then-branch
returns-then-branch c =
    let s = c.args.state.now in
    let done = is_answered (nat_le (length c.args.page.items) 65536) (Txt c.args.page.items) c.args.count s.stack c.answer_text.new.self (rw c.if-branch.true at c.in_ok-answer_text.ensures.ok) in
    ap (λ d. Goes (world_of (record s { stack = d }))) done.desk
    ∙ sym (pushed_is (Txt c.args.page.items) (with_stack (drop c.args.count s.stack.items) (world_of s)) (room_after s.stack.items c.args.count c.in_ok-answer_text.ensures.few c.requires.some) done.fits)
