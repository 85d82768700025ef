use Rattle.std.proofs.Common.{◌≡◌, ◌∙◌, ap, subst, ℕ, List, Option, IfOk}
use Rattle.std.specs.List.{filter_map}
use Rattle.bt_resolve.specs.Listed.{parent_of}
use Rattle.bt_resolve.specs.inner.Cases.{parents}
use Rattle.bt_resolve.proofs.SkeletonLemmas.{filter_map_map}
use Rattle.bt_resolve.proofs.list.parents.Goals as goal

pub returns : goal.returns
returns c =
    let same : filter_map (λ o. o) c.parents.result.now ≡ parents c.args.family.now =
    ap (λ (links : List (Option ℕ)). filter_map (λ o. o) links) c.parents.ensures ∙ filter_map_map (λ (o : Option ℕ). o) (parent_of c.args.family.now) c.args.family.now in
    subst (λ (all : List ℕ). IfOk c.known_places.result (λ known. known.items ≡ all)) same c.known_places.ensures
