use Rattle.std.proofs.Common.{pos, rules}
use Rattle.bt_stack.proofs.VariableLemmas.{number_is}
use Rattle.bt_stack.proofs.step_variables.number_of.Goals as goal

pub returns-in-Some : goal.returns-in-Some
returns-in-Some c =
    number_is c.args.numbers.now c.args.given.now c.args.n c.own_number.result c.in-Some.number.now _ _ _ (pos 0) (search (rules)) c.number_over.ensures (search (rules)) c.own_number.ensures c.in-Some.ensures
