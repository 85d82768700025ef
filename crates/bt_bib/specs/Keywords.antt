-- Types that are keywords of the format.
use Rattle.std.specs.Prelude.{ℕ, List, codes, if◌then◌else◌}
use Rattle.bt_text.specs.CaseFolding.{is_same_folded}
use Rattle.bt_bib.specs.declared.keywords.Keyword.{Keyword}
use Rattle.bt_bib.specs.declared.keywords.Keyword.TheVariants.{Comment, String, Preamble, Entry}

-- the kind of piece that a type begins, whatever its case
abbrev pub keyword_of : List ℕ → Keyword
keyword_of kind =
    if is_same_folded kind (codes "comment") then Comment
    else if is_same_folded kind (codes "string") then String
    else if is_same_folded kind (codes "preamble") then Preamble
    else Entry
