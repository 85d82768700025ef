use Rattle.std.proofs.Common.{◌≡◌, take}
use Rattle.bt_stack.specs.inner.Kept.{texts_over}
use Rattle.bt_stack.proofs.variables_left.put_texts.Given as goal

abbrev pub invariant-texts : goal.invariant-texts
invariant-texts l = l.left ≡ texts_over l.pool (take l.n l.texts) l.fn.left
