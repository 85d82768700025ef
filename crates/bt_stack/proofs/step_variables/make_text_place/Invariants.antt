use Rattle.std.proofs.Common.{◌≡◌, ℕ, ◌+◌, ◌-◌, List, length}
use Rattle.bt_stack.specs.inner.Kept.{texts_over, AllFit}
use Rattle.bt_stack.proofs.step_variables.make_text_place.Given as goal

abbrev pub invariant-texts : goal.invariant-texts
invariant-texts l = record {
  same : (pool : List ℕ) (ts : List (List ℕ)) → texts_over pool l.texts.items ts ≡ texts_over pool l.fn.texts.items ts;
  fit : (size : ℕ) → AllFit size l.fn.texts.items → AllFit size l.texts.items;
}

abbrev pub decreases-texts : goal.decreases-texts
decreases-texts l = l.n + 1 - length l.texts.items
