-- One element more of a list that a loop builds.
use Rattle.std.proofs.Common.{◌≡◌, ◌∙◌, ap, sym, ℕ, suc, ◌+◌, ◌<◌, List, ◌∷◌, length, drop, get_or, drop-cons, arith}
use Rattle.std.specs.List.{fold}
pub use Rattle.bt_shapes.proofs.MoreLemmas.{mapped_more, filtered_more, fold_more}

-- of a fold whose elements are copied
pub fold_next : {A B : Type 0} (f : B → A → B) (xs : List A) (i : ℕ) (none : A) (old new whole : B) → i < length xs → new ≡ f old (get_or xs i none) →
    fold f old (drop i xs) ≡ whole → fold f new (drop (i + 1) xs) ≡ whole
fold_next f xs i none old new whole l more before =
    let next : suc i ≡ i + 1 = omega arith in
    let there = drop-cons xs i none l ∙ ap (λ n. get_or xs i none ∷ drop n xs) next in
    ap (λ n. fold f n (drop (i + 1) xs)) more ∙ ap (λ t. fold f old t) (sym there) ∙ before
