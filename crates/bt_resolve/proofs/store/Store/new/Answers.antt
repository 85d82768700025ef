use Rattle.std.proofs.Common.{◌∙◌, ap, sym, map, ℕ, List, [], Option}
use Rattle.std.specs.Prelude.{is_some}
use Rattle.bt_resolve.specs.declared.stored.Stored.{Stored}
use Rattle.bt_resolve.specs.inner.Cases.{is_referred_to}
use Rattle.bt_text.proofs.NameLemmas.{by_small_again}
use Rattle.bt_resolve.proofs.store.Store.new.Goals as goal

pub invariant_of-result : goal.invariant_of-result
invariant_of-result c = record {
  keys_known = by_small_again (λ (s : Stored). s.key) [] _ c.new.ensures.listed;
  references_known = λ key.
      ap (λ (t : List ℕ → Option (Unit {0})). is_some (t key)) c.new-2.ensures.known
      ∙ ap (λ (es : List (List ℕ × Stored)). is_referred_to (map (λ e. e.1) es) key) (sym c.new.ensures.listed);
}
