-- A list in chunks of one length.
use Rattle.std.specs.Prelude.{◌≡◌, List, [], ◌∷◌, ◌++◌, length}

-- the values of the chunks in their order
abbrev pub all_of : {A : Type 0} → List (List A) → List A
all_of [] = []
all_of (c ∷ cs) = c ++ all_of cs

-- each chunk has all its values
abbrev pub AreWhole : {A : Type 0} → List (List A) → Type 0
AreWhole [] = Unit {0}
AreWhole (c ∷ cs) = (length c ≡ 64) × AreWhole cs
