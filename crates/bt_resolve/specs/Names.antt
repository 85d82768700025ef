-- Lists of names, which match without regard to case.
use Rattle.std.specs.Prelude.{ℕ, List, codes, Option}
use Rattle.bt_text.specs.CaseFolding.{is_same_folded}
use Rattle.bt_text.specs.ByName.{first_place}

-- the name of the field that refers to another entry
abbrev pub crossref : List ℕ
crossref = codes "crossref"

-- the place of a name among names
abbrev pub place_of_name : List (List ℕ) → List ℕ → Option ℕ
place_of_name names name = first_place (λ n. is_same_folded n name) names
