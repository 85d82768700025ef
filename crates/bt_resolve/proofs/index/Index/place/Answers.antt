use Rattle.std.proofs.Common.{◌≡◌, ◌∙◌, ap, subst, List, ℕ, Option}
use Rattle.std.specs.Prelude.{IfSome}
use Rattle.bt_text.specs.ByName.{known}
use Rattle.bt_text.specs.declared.by_name.ByName.{ByName}
use Rattle.bt_resolve.specs.Names.{place_of_name}
use Rattle.bt_resolve.proofs.index.Index.place.Goals as goal

pub returns-in-None : goal.returns-in-None
returns-in-None c = c.place_of.ensures ∙ ap (λ (names : List (List ℕ)). place_of_name names c.args.name.now) c.self.view_is

pub returns-in_ok-get-in-Some-places : goal.returns-in_ok-get-in-Some-places
returns-in_ok-get-in-Some-places c =
    c.copied.ensures ∙ c.in_ok-get-in-Some-places.ensures
    ∙ ap (λ (places : List ℕ → Option ℕ). places c.args.name.now)
    (subst (λ (o : Option (ByName ℕ)). IfSome o (λ places. known places ≡ place_of_name c.self.inside.names.now)) c.in-Some-places.is c.self.invariant.0)
    ∙ ap (λ (names : List (List ℕ)). place_of_name names c.args.name.now) c.self.view_is
