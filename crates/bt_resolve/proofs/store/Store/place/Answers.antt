use Rattle.std.proofs.Common.{◌∙◌, ap, ℕ, List, Option}
use Rattle.std.specs.Prelude.{bytes_eq}
use Rattle.bt_text.specs.CaseFolding.{folded}
use Rattle.bt_text.specs.ByName.{first_place}
use Rattle.bt_text.proofs.NameLemmas.{if_ok, place_by_small}
use Rattle.bt_resolve.specs.declared.stored.Stored.{Stored}
use Rattle.bt_resolve.specs.Listed.{place_of_key}
use Rattle.bt_resolve.proofs.store.Store.place.Goals as goal

pub returns : goal.returns
returns c =
    if_ok _ _ c.place.result (λ (place : Option ℕ) is.
    is ∙ ap (λ (es : List (List ℕ × Stored)). first_place (λ e. bytes_eq (folded c.args.key.now) e.0) es) c.self.invariant.keys_known
    ∙ place_by_small (λ (s : Stored). s.key) (folded c.args.key.now) _
    ∙ ap (λ (entries : List Stored). place_of_key entries c.args.key.now) c.self.view_is) c.place.ensures
