-- Names that are kept as texts of their own.
use Rattle.std.proofs.Common.{◌≡◌, refl, ap, ℕ, false, List, [], ◌∷◌, ◌++◌, map}
use Rattle.std.specs.Prelude.{◌||◌, bytes_eq, Vec}
use Rattle.std.specs.List.{list_any}
use Rattle.std.proofs.lemmas.List.{map-append}
use Rattle.indexmap.specs.IndexSet.{insert_key}

-- A name is among them where it is among their bytes.
pub any_items : {Z : Type 0} (name : List ℕ) (names : List (Vec ℕ Z)) → list_any (λ k. bytes_eq name k.items) names ≡ list_any (bytes_eq name) (map (λ k. k.items) names)
any_items {Z} name [] = refl
any_items {Z} name (n ∷ ns) = ap (λ b. bytes_eq name n.items || b) (any_items name ns)

-- A new name goes after the others.
pub put_items : {Z : Type 0} (name : Vec ℕ Z) (names : List (Vec ℕ Z)) → list_any (bytes_eq name.items) (map (λ k. k.items) names) ≡ false →
    map (λ k. k.items) (insert_key (λ k m. bytes_eq k.items m.items) names name) ≡ map (λ k. k.items) names ++ name.items ∷ []
put_items {Z} name names fresh =
    rw (any_items name.items names, fresh) (map-append (λ (k : Vec ℕ Z). k.items) names (name ∷ []))
