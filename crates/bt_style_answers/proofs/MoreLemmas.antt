-- Lists that are built from parts, and one element more of a list that a loop builds.
use Rattle.std.proofs.Common.{◌≡◌, ◌∙◌, ap, ℕ, ◌+◌, ◌<◌, List, [], ◌∷◌, ◌++◌, length, map, drop, get_or, append_assoc, Option}
use Rattle.std.proofs.lemmas.List.{get_or_default}
use Rattle.std.specs.Prelude.{filter_map}
use Rattle.std.specs.List.{cons_option}
use Rattle.serde_json.specs.Data.{Data}
use Rattle.bt_shapes.proofs.MoreLemmas.{mapped_more, filtered_more}

-- a list to which two others are appended
pub two_appended : (old mid new a b : List Data) → mid ≡ old ++ a → new ≡ mid ++ b → new ≡ old ++ (a ++ b)
two_appended old mid new a b p q = q ∙ ap (λ m. m ++ b) p ∙ append_assoc old a b

-- of a list that is mapped, where the element is read from its place
pub mapped_read : {A C : Type 0} (show : C → Data) (f : A → Data) (xs : List A) (i : ℕ) (d : A) (old new : List C) (v : C) (whole : List Data) → i < length xs →
    new ≡ old ++ v ∷ [] → show v ≡ f (get_or xs i d) → map show old ++ map f (drop i xs) ≡ whole → map show new ++ map f (drop (i + 1) xs) ≡ whole
mapped_read show f xs i d old new v whole l more shows before =
    mapped_more show f xs i (get_or xs i d) old new v whole l (get_or_default xs i d (get_or xs i d) l) more shows before

-- of a list that is filtered and mapped, where the element is read from its place
pub filtered_read : {A : Type 0} (f : A → Option Data) (xs : List A) (i : ℕ) (d : A) (old new whole : List Data) → i < length xs →
    new ≡ old ++ cons_option (f (get_or xs i d)) [] → old ++ filter_map f (drop i xs) ≡ whole → new ++ filter_map f (drop (i + 1) xs) ≡ whole
filtered_read f xs i d old new whole l more before =
    filtered_more f xs i (get_or xs i d) old new whole l (get_or_default xs i d (get_or xs i d) l) more before
