-- Lists of values without floats.
use Rattle.std.proofs.Common.{◌≡◌, ℕ, List, [], ◌∷◌, ◌++◌, map, refl, ap, ◌∙◌, Bool, true, false, ◌||◌, if◌then◌else◌, Option, Some, None}
use Rattle.std.specs.List.{AllByRecursion, cons_option}
use Rattle.std.specs.Prelude.{nat_lt, codes}
use Rattle.serde_json.specs.Written.{has_float, items_have_float}
use Rattle.serde_json.specs.Data.{Data, number, unsigned, object, member, no_members}
use Rattle.serde_json.specs.View.{items_of}
use Rattle.bt_shapes.specs.Shapes.{fold_between}

abbrev pub IsPlain : Data → Type 0
IsPlain d = has_float d ≡ false

pub items_plain : (ds : List Data) → AllByRecursion IsPlain ds → items_have_float (items_of ds) ≡ false
items_plain [] p = refl
items_plain (d ∷ ds) p = ap (λ b. b || items_have_float (items_of ds)) p.0 ∙ items_plain ds p.1

pub all_both : (P : Data → Type 0) (xs ys : List Data) → AllByRecursion P xs → AllByRecursion P ys → AllByRecursion P (xs ++ ys)
all_both P [] ys p q = q
all_both P (x ∷ xs) ys p q = (p.0, all_both P xs ys p.1 q)

pub all_mapped : {A : Type 0} (f : A → Data) → ((x : A) → has_float (f x) ≡ false) → (xs : List A) → AllByRecursion IsPlain (map f xs)
all_mapped f p [] = tt
all_mapped f p (x ∷ xs) = (p x, all_mapped f p xs)

-- one value more, if there is one
pub more_plain : (o : Option Data) (ds : List Data) → AllByRecursion IsPlain (cons_option o []) → AllByRecursion IsPlain ds → AllByRecursion IsPlain (cons_option o ds)
more_plain None ds p q = q
more_plain (Some d) ds p q = (p.0, q)

some_if_plain : (b : Bool) (d : Data) → has_float d ≡ false → AllByRecursion IsPlain (cons_option (if b then Some d else None) [])
some_if_plain true d p = (p, tt)
some_if_plain false d p = tt

pub fold_between_plain : (from to : ℕ) → AllByRecursion IsPlain (cons_option (fold_between from to) [])
fold_between_plain from to =
    some_if_plain (nat_lt from to) (object (member (codes "endLine") (number (unsigned to)) (member (codes "startLine") (number (unsigned from)) no_members))) refl
