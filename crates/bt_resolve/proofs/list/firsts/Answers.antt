use Rattle.std.proofs.Common.{◌∙◌, ap, sym, ℕ, ◌+◌, List, ◌++◌, Bool, true, drop, get_or}
use Rattle.std.specs.Prelude.{◌==◌, cond, nat_eq}
use Rattle.std.specs.HashSet.{contains}
use Rattle.std.proofs.lemmas.List.{drop_more}
use Rattle.bt_resolve.specs.Listed.{firsts, is_among}
use Rattle.bt_resolve.proofs.ListLemmas.{among_first, firsts_next}
use Rattle.bt_resolve.proofs.list.firsts.Goals as goal

pub places-preserved : goal.places-preserved
places-preserved c =
    let places = c.args.places.now in
    let found = c.places.found.items in
    let i = c.places.place-index in
    let x = get_or places i 0 in
    let seen = c.places.invariant.seen in
    let rest = drop (i + 1) places in record {
      found =
          ap (λ (ps : List ℕ). ps ++ firsts ps rest) c.in_ok-add_first.ensures.found
          ∙ firsts_next (contains nat_eq c.places.seen x) found x rest (sym (seen x))
          ∙ ap (λ (ps : List ℕ). found ++ firsts found ps) (sym (drop_more places i 0 c.places-test.true))
          ∙ c.places.invariant.found;
      seen = λ p.
          c.in_ok-add_first.ensures.seen p
          ∙ ap (λ (b : Bool). cond (x == p) true b) (seen p)
          ∙ among_first (contains nat_eq c.places.seen x) found x p (sym (seen x))
          ∙ ap (λ (ps : List ℕ). is_among ps p) (sym c.in_ok-add_first.ensures.found);
    }
