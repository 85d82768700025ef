use Rattle.std.proofs.Common.{List, ap, sym, subst, ◌∙◌}
use Rattle.bt_stack.specs.declared.value.Value.{Value}
use Rattle.bt_stack.specs.inner.Kept.{texts_over, AllFit}
use Rattle.bt_stack.proofs.TopLemmas.{fit_pushed}
use Rattle.bt_stack.proofs.VariableLemmas.{texts_padded}
use Rattle.bt_stack.proofs.step_variables.make_text_place.Goals as goal

pub returns-in_err-make_room-clause-fit : goal.returns-in_err-make_room-clause-fit
returns-in_err-make_room-clause-fit c = λ size all.
    let P : List Value → Type 0 = λ l. AllFit size l in
    subst P (sym c.in_err-make_room.ensures) all

pub texts-init : goal.texts-init
texts-init c =
    record {
      same = λ pool ts. ap (λ l. texts_over pool l ts) c.in_ok-make_room.ensures;
      fit = λ size all. let P : List Value → Type 0 = λ l. AllFit size l in subst P (sym c.in_ok-make_room.ensures) all;
    }

pub texts-preserved : goal.texts-preserved
texts-preserved c =
    record {
      same = λ pool ts. ap (λ l. texts_over pool l ts) c.in_ok-push.ensures.items ∙ texts_padded pool c.texts.texts.items ts 0 ∙ c.texts.invariant.same pool ts;
      fit = λ size all. fit_pushed size c.texts.texts.items _ _ (c.texts.invariant.fit size all) tt c.in_ok-push.ensures.items;
    }

pub returns-in_err-push-clause-fit : goal.returns-in_err-push-clause-fit
returns-in_err-push-clause-fit c = λ size all.
    let P : List Value → Type 0 = λ l. AllFit size l in
    subst P (sym c.in_err-push.ensures.items) (c.texts.invariant.fit size all)
