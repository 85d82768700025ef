use Rattle.std.proofs.Common.{◌∙◌, ap, ℕ, ◌+◌, List, Option, count_by}
use Rattle.bt_resolve.specs.Listed.{parent_of}
use Rattle.bt_resolve.specs.inner.Cases.{is_place}
use Rattle.std.proofs.lemmas.List.Folds.{fold-map}
use Rattle.std.specs.Prelude.{cond}
use Rattle.bt_resolve.proofs.family.Family.new.Goals as goal

pub invariant_of-result : goal.invariant_of-result
invariant_of-result c = record {
  parents_known = c.in_ok-parents.ensures;
  counts_known = λ p.
      c.in_ok-counts.ensures p
      ∙ ap (λ (parents : List (Option ℕ)). count_by (is_place p) parents) (c.as_slice.ensures.value ∙ c.in_ok-parents.ensures)
      ∙ fold-map (λ (n : ℕ) (o : Option ℕ). n + cond (is_place p o) 1 0) (parent_of c.args.store) 0 c.args.store;
}
