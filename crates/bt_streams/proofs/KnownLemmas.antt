-- What was read and written, if the source and the sink show their bytes.
use Rattle.std.proofs.Common.{◌≡◌, ℕ, List, [], ◌++◌, refl, ap, ◌∙◌, Option, None, Some}
use Rattle.std.specs.Io.KnownBytes.{Consumes, Appends, IsAtEnd}

pub consumed : (a b : Option (List ℕ)) (xs input : List ℕ) → Consumes a b xs → a ≡ Some input → (rest : List ℕ) × (b ≡ Some rest) × (input ≡ xs ++ rest)
consumed None b xs input p e = absurd (cc)
consumed (Some u) None xs input p e = absurd p
consumed (Some u) (Some v) xs input p e = let k : input ≡ u = cc in (v, refl, k ∙ p)

pub appended : (a b : Option (List ℕ)) (xs said : List ℕ) → Appends a b xs → a ≡ Some said → (said' : List ℕ) × (b ≡ Some said') × (said' ≡ said ++ xs)
appended None b xs said p e = absurd (cc)
appended (Some u) None xs said p e = absurd p
appended (Some u) (Some v) xs said p e = let k : u ≡ said = cc in (v, refl, p ∙ ap (λ t. t ++ xs) k)

pub at_end : (a : Option (List ℕ)) (xs : List ℕ) → IsAtEnd a → a ≡ Some xs → xs ≡ []
at_end None xs p e = absurd (cc)
at_end (Some u) xs p e = let k : xs ≡ u = cc in k ∙ p
