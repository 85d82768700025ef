use Rattle.std.proofs.Common.{◌≡◌, sym, ap, ◌∙◌, true, List, ℕ, Option, length}
use Rattle.std.specs.Prelude.{is_none}
use Rattle.std.specs.List.{list_all}
use Rattle.bt_text.proofs.NameLemmas.{if_ok}
use Rattle.bt_text.specs.Sparse.{filled_from}
use Rattle.bt_resolve.proofs.SparseValueLemmas.{all_theirs, filled_is}
use Rattle.bt_resolve.proofs.inheritance.inherited.Goals as goal

pub returns-then-len : goal.returns-then-len
returns-then-len c =
    let mine = c.args.mine.now in
    let theirs = c.args.theirs.now in
    let none : list_all is_none mine ≡ true = ap (list_all is_none) (sym c.deref.ensures) ∙ sym c.has_none.ensures ∙ c.if-has_none.true in
    let long : length mine ≡ length theirs =
    ap (λ (vs : List (Option (List ℕ))). length vs) (sym c.deref-then-has_none.ensures) ∙ sym c.len.ensures ∙ c.if-len.true ∙ c.len-then-has_none.ensures
    ∙ ap (λ (vs : List (Option (List ℕ))). length vs) c.deref-then-has_none-2.ensures in
    if_ok _ _ c.share.result (λ (values : List (Option (List ℕ))) is. is ∙ all_theirs mine theirs none long) c.share.ensures

pub returns-in_ok-filled_from : goal.returns-in_ok-filled_from
returns-in_ok-filled_from c =
    if_ok _ _ c.new.result (λ (values : List (Option (List ℕ))) is.
    is ∙ c.in_ok-filled_from.ensures
    ∙ ap (λ (mine : List (Option (List ℕ))). filled_from mine c.deref-else-has_none-2.result.now) c.deref-else-has_none.ensures
    ∙ ap (filled_from c.args.mine.now) c.deref-else-has_none-2.ensures ∙ filled_is c.args.mine.now c.args.theirs.now) c.new.ensures
