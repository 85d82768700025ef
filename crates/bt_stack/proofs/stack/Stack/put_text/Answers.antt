use Rattle.std.proofs.Common.{arith, ap, ◌∙◌, ◌++◌}
use Rattle.bt_stack.proofs.JoinLemmas.{text_done}
use Rattle.bt_stack.proofs.stack.Stack.put_text.Goals as goal

pub returns-clause-ok : goal.returns-clause-ok
returns-clause-ok c = let s = c.self.inside in
    text_done s.pool.items c.extend_from_slice.new.self.items c.args.page.items s.values.items c.truncate.new.self.items s.globals s.own c.len.result c.args.count c.len-start.result c.len-len.result _
    (c.in_ok-extend_from_slice.ensures.items ∙ ap (λ t. s.pool.items ++ t) c.deref.ensures.value) c.truncate.ensures.items (grind arith) (grind arith) (grind arith) (grind arith) c.requires.some c.requires.there c.self.invariant c.self.view_is
