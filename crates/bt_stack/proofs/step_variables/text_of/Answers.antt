use Rattle.std.proofs.Common.{ap, ◌∙◌}
use Rattle.bt_stack.specs.Desk.{short}
use Rattle.bt_stack.proofs.VariableLemmas.{texts_none, text_own, text_given}
use Rattle.bt_stack.proofs.step_variables.text_of.Goals as goal

pub returns-in-None-clause-item : goal.returns-in-None-clause-item
returns-in-None-clause-item c = λ pool all. c.short.ensures.item pool ∙ ap short (texts_none pool c.args.texts.now _ _ c.in-None.ensures)

pub returns-in-None-clause-fits : goal.returns-in-None-clause-fits
returns-in-None-clause-fits c = λ size all. c.short.ensures.fits size

pub returns-in-Some-own_text-clause-item : goal.returns-in-Some-own_text-clause-item
returns-in-Some-own_text-clause-item c = λ pool all.
    text_own pool c.args.texts.now _ _ _ _ c.in-Some.ensures c.in-Some-own_text.ensures.value (c.in-Some-own_text.ensures.fits _ all)

pub returns-in-None-own_text-clause-item : goal.returns-in-None-own_text-clause-item
returns-in-None-own_text-clause-item c = λ pool all.
    c.short-in-None-own_text.ensures.item pool
    ∙ ap short (c.as_slice.ensures ∙ c.deref.ensures ∙ text_given pool c.args.texts.now _ _ _ c.in-Some.ensures c.in-None-own_text.ensures.value)

pub returns-in-None-own_text-clause-fits : goal.returns-in-None-own_text-clause-fits
returns-in-None-own_text-clause-fits c = λ size all. c.short-in-None-own_text.ensures.fits size
