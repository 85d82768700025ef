use Rattle.std.proofs.Common.{ap, ◌∙◌}
use Rattle.std.proofs.lemmas.Result.{IfOk-weaker}
use Rattle.bt_style.specs.declared.builtin.Builtin.TheVariants as builtin
use Rattle.bt_actions.specs.Arguments.{as_text, taken_two}
use Rattle.bt_actions.specs.Given.{empty_item, valued}
use Rattle.bt_actions.specs.Texts.{case_of}
use Rattle.bt_stack.specs.View.{world_of}
use Rattle.bt_stack.proofs.CaseLemmas.{two_there, case_pushed, none_asked}
use Rattle.bt_stack.proofs.texts.convert_case.Goals as goal

pub answer_converted-requires : goal.answer_converted-requires
answer_converted-requires c = two_there c.take_page-page.new.self.items _ (rw c.in-Some.is at c.in_ok-told.ensures.told)

pub returns-in-Some : goal.returns-in-Some
returns-in-Some c = let s = c.args.state.now in
    let d = c.take_page-page.new.self in
    let known = rw c.in-Some.is at c.in_ok-told.ensures.told in
    let short = rw c.in-Some.is at c.in_ok-told.ensures.short in
    let same = ap (λ d. valued case_of empty_item (taken_two builtin.ChangeCase as_text as_text (world_of (record s { stack = d })))) c.take_page-page.ensures.same in
    IfOk-weaker c.answer_converted.result _ _ (λ flow h. h ∙ case_pushed d.items _ (world_of (record s { stack = d })) known c.in_ok-told.ensures.few short ∙ same) c.answer_converted.ensures

pub refuse_case-requires : goal.refuse_case-requires
refuse_case-requires c = none_asked _ (rw c.in-None.is at c.in_ok-told.ensures.told)
