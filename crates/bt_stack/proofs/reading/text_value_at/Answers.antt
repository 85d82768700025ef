use Rattle.std.proofs.Common.{ap}
use Rattle.std.specs.Prelude.{option_and_then}
use Rattle.bt_actions.specs.Arguments.{as_text}
use Rattle.bt_stack.proofs.reading.text_value_at.Goals as goal

pub returns-in-Some-clause-fits : goal.returns-in-Some-clause-fits
returns-in-Some-clause-fits c = λ size all. c.text_value.ensures.fits size (c.in-Some.ensures.fits size all)

pub returns-in-None-clause-item : goal.returns-in-None-clause-item
returns-in-None-clause-item c = λ pool. ap (option_and_then as_text) (c.in-None.ensures.item pool)
