-- Completes what follows an `@`.
use Rattle.std.specs.Prelude.{ℕ, ◌||◌, not, Bool, false, if◌then◌else◌, List, [], ◌∷◌, ◌++◌, codes}
use Rattle.std.specs.List.{list_any, fold}
use Rattle.serde_json.specs.Data.{Data}
use Rattle.bt_text.specs.CaseFolding.{is_same_folded}
use Rattle.bt_style_text.specs.declared.marks.Mark.{Mark}
use Rattle.bt_style_text.specs.Parts.{part}
use Rattle.bt_style_text.specs.Marks.{marks_of}
use Rattle.bt_writing.specs.declared.types.EntryType.{EntryType}
use Rattle.bt_writing.specs.declared.types.EntryType.TheVariants.{Article, Book, Booklet, Conference, InBook, InCollection, InProceedings, Manual, MastersThesis, Misc, PhdThesis, Proceedings, TechReport, Unpublished, StringDefinition, Preamble, Comment}
use Rattle.bt_places.specs.Entries.{is_style}
use Rattle.bt_places.specs.Visiting.{with_files, is_any}
use Rattle.bt_writing.specs.declared.written.Written.{Written}
use Rattle.bt_writing.specs.Written.{ordered_item}
use Rattle.bt_writing.specs.StyleNames.{has_function, is_type}

-- how a type is spelled
abbrev pub word_of : EntryType → List ℕ
word_of Article = codes "article"
word_of Book = codes "book"
word_of Booklet = codes "booklet"
word_of Conference = codes "conference"
word_of InBook = codes "inbook"
word_of InCollection = codes "incollection"
word_of InProceedings = codes "inproceedings"
word_of Manual = codes "manual"
word_of MastersThesis = codes "mastersthesis"
word_of Misc = codes "misc"
word_of PhdThesis = codes "phdthesis"
word_of Proceedings = codes "proceedings"
word_of TechReport = codes "techreport"
word_of Unpublished = codes "unpublished"
word_of StringDefinition = codes "string"
word_of Preamble = codes "preamble"
word_of Comment = codes "comment"

-- the types of the standard styles, and the words that aren't types
unfoldable pub types : List EntryType
types =
    Article ∷ Book ∷ Booklet ∷ Conference ∷ InBook ∷ InCollection ∷ InProceedings ∷
    Manual ∷ MastersThesis ∷ Misc ∷ PhdThesis ∷ Proceedings ∷ TechReport ∷ Unpublished ∷ StringDefinition ∷ Preamble ∷ Comment ∷ []

-- whether a name is one that the standard styles have, or no type
abbrev pub is_standard : List ℕ → Bool
is_standard name = list_any (λ t. is_same_folded (word_of t) name) types

-- a list with what is offered for a type; those come first of which the style has a function
abbrev pub with_type : Written → List ℕ → List Mark → List Data → EntryType → List Data
with_type w text marks list t = list ++ ordered_item w 7 (word_of t) (not (has_function text marks (word_of t))) ∷ []

-- a list with what is offered for a function, if it seems to be for a type that the standard styles don't have
abbrev pub with_own_type : Written → List ℕ → List Mark → List Data → Mark → List Data
with_own_type w text marks list mark =
    let name = part mark.start mark.end text in
    if not (is_type text marks mark) || is_standard name then list else list ++ ordered_item w 7 name false ∷ []

-- a list with what is offered for all types, given a style's text
abbrev pub with_types_in : Written → List Data → List ℕ → List Data
with_types_in w list text =
    let marks = marks_of text in
    fold (with_own_type w text marks) (fold (with_type w text marks) list types) marks

-- a list with what is offered for the types of a file, if it is a style
abbrev pub with_types_of : Written → List Data → List ℕ → List ℕ → List Data
with_types_of w list uri text = if is_style uri then with_types_in w list text else list

-- these candidates, or all standard types as unknown ones if there are none
abbrev pub or_standard : Written → List Data → List Data
or_standard w list = if is_any list then list else fold (with_type w [] []) [] types

-- what is offered after an `@`
abbrev pub type_candidates : Written → List (List ℕ × List ℕ) → List Data
type_candidates w files = or_standard w (with_files (with_types_of w) files [])
