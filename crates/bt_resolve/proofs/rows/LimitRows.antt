-- The limit of a value, at macros that stand for many letters.
use Rattle.std.specs.Prelude.{◌≡◌, ℕ, List, [], ◌∷◌, codes, length, replicate, Option, Some, None, refl}
use Rattle.bt_bib.specs.declared.item.Part.TheVariants.{Macro}
use Rattle.bt_resolve.specs.Values.{value, value_warnings}
use Rattle.bt_resolve.proofs.rows.RowWords.{warning}

-- each macro stands for this many letters
abbrev letters : ℕ → List ℕ → Option (List ℕ)
letters count name = Some (replicate count 120)

-- a value of 65,536 bytes is kept
at_the_limit : length (value (letters 32768) (Macro (codes "m") 1 ∷ Macro (codes "m") 1 ∷ [])) ≡ 65536
unfolding value
at_the_limit = refl

-- one of 65,538 bytes is empty
over_the_limit : value (letters 32769) (Macro (codes "m") 1 ∷ Macro (codes "m") 1 ∷ []) ≡ []
unfolding value
over_the_limit = refl

-- and it is reported at the line of its name, in lower case
told_over_the_limit :
    value_warnings None (letters 32769) (record { database = 1; line = 1 }) 2 (codes "Title") (Macro (codes "m") 3 ∷ Macro (codes "m") 3 ∷ [])
    ≡ warning 1 3 (codes "Warning--the value of \"title\" is over 65536 bytes") ∷ []
unfolding value_warnings
told_over_the_limit = refl
