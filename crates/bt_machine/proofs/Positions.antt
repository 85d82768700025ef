-- The first place of a list of images.
use Rattle.std.proofs.Common.{◌≡◌, ◌+◌, List, [], ◌∷◌, Bool, not, cond, refl, ap}
use Rattle.std.proofs.lemmas.List.{length-map}
use Rattle.std.specs.Prelude.{map, position}
use Rattle.std.specs.List.{position_or_len}

-- the first place in a list of images
position_or_len-map : {A B : Type 0} (f : A → B) (test : B → Bool) (xs : List A) → position_or_len test (map f xs) ≡ position_or_len (λ x. test (f x)) xs
position_or_len-map f test [] = refl
position_or_len-map f test (x ∷ xs) = ap (λ n. cond (not (test (f x))) (1 + n) 0) (position_or_len-map f test xs)

pub position-map : {A B : Type 0} (f : A → B) (test : B → Bool) (xs : List A) → position test (map f xs) ≡ position (λ x. test (f x)) xs
position-map f test xs =
    let e = position_or_len-map f test xs in
    let l = length-map xs f in
    rw (e, l) refl
