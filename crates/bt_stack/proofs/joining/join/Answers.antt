use Rattle.std.proofs.Common.{arith}
use Rattle.bt_stack.proofs.joining.join.Goals as goal

pub overflow_add-first : goal.overflow_add-first
overflow_add-first c = grind (arith, c.in-Some-Some.ensures.short _ c.requires.lower, c.in-Some-Some.ensures'.short _ c.requires.upper)

pub join_texts-requires-clause-len : goal.join_texts-requires-clause-len
join_texts-requires-clause-len c = grind (arith, c.in-Some-Some.ensures.bytes _ c.requires.lower, c.in-Some-Some.ensures'.bytes _ c.requires.upper)
