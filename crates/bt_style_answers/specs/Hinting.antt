-- Hints at names that nothing uses or declares, as diagnostics.
use Rattle.std.specs.Prelude.{ℕ, ◌==◌, not, Bool, false, List, [], ◌∷◌, ◌++◌, map, filter, codes, Option, Some, None}
use Rattle.std.specs.List.{find}
use Rattle.serde_json.specs.Data.{Data, number, unsigned, string, array, item, no_items, object, member, no_members}
use Rattle.bt_positions.specs.declared.counting.Counting.{Counting}
use Rattle.bt_shapes.specs.Shapes.{text, range_of}
use Rattle.bt_style_text.specs.declared.words.Word.{Word}
use Rattle.bt_style_text.specs.declared.marks.Mark.{Mark}
use Rattle.bt_style_text.specs.Parts.{part}
use Rattle.bt_style_text.specs.Marks.{marks_of}
use Rattle.bt_style_text.specs.Hinting.{unused, declarations, unknown, meant, likely_name}

abbrev pub unused_words : List ℕ → List ℕ
unused_words name = codes "Nothing uses `" ++ name ++ codes "`."

-- what is said of a name that nothing declares, and of the likely one, if there is any
abbrev pub unknown_words : List ℕ → List ℕ → List ℕ
unknown_words name [] = codes "Nothing declares `" ++ name ++ codes "`."
unknown_words name (b ∷ likely) =
    codes "Nothing declares `" ++ name ++ codes "`. Did you mean `" ++ (b ∷ likely) ++ codes "`?"

-- a hint with the tag of what could go
abbrev pub unused_hint : Data → List ℕ → Data
unused_hint range words =
    object (member (codes "message") (text words) (member (codes "range") range
    (member (codes "severity") (number (unsigned 4)) (member (codes "source") (string (codes "bibtex"))
    (member (codes "tags") (array (item (number (unsigned 1)) no_items)) no_members)))))

abbrev pub unknown_hint : Data → List ℕ → Data
unknown_hint range words =
    object (member (codes "message") (text words) (member (codes "range") range
    (member (codes "severity") (number (unsigned 4)) (member (codes "source") (string (codes "bibtex")) no_members))))

abbrev pub unused_at : Counting → List ℕ → Mark → Data
unused_at c words mark =
    unused_hint (range_of c words mark.start mark.end) (unused_words (part mark.start mark.end words))

abbrev pub unknown_at : Counting → List ℕ → List Mark → Mark → Data
unknown_at c words declared mark =
    let name = part mark.start mark.end words in
    unknown_hint (range_of c words mark.start mark.end) (unknown_words name (likely_name words (meant words declared name)))

-- the hints at names that nothing uses
abbrev pub unused_in : Counting → List ℕ → List Mark → List Data
unused_in c words marks = map (unused_at c words) (unused words marks)

-- whether a name is the word of a fault; a quote can precede the name
abbrev pub is_at : Option Word → Mark → Bool
is_at None mark = false
is_at (Some word) mark = word.end == mark.end

-- the names that nothing declares, without the one at a fault
abbrev pub unknown_but : Option Word → List ℕ → List Mark → List Mark
unknown_but fault words marks = filter (λ (mark : Mark). not (is_at fault mark)) (unknown words marks (declarations marks))

-- the hints at names that nothing declares, without the one at a fault, whose error says it
abbrev pub unknown_in : Counting → Option Word → List ℕ → List Mark → List Data
unknown_in c fault words marks = map (unknown_at c words (declarations marks)) (unknown_but fault words marks)

abbrev pub hints_of : Counting → Option Word → List ℕ → List Mark → List Data
hints_of c fault words marks = unused_in c words marks ++ unknown_in c fault words marks

-- the hints for a style's text that has a fault at this word
abbrev pub hints_in : Counting → Option Word → List ℕ → List Data
hints_in c fault words = hints_of c fault words (marks_of words)

abbrev pub likely_for : List ℕ → List Mark → Option Mark → List ℕ
likely_for words declared None = []
likely_for words declared (Some mark) = likely_name words (meant words declared (part mark.start mark.end words))

abbrev pub likely_among : List ℕ → List Mark → Word → List ℕ
likely_among words marks word =
    let declared = declarations marks in
    likely_for words declared (find (is_at (Some word)) (unknown words marks declared))

-- the name that is probably meant by a word of a style's text, if nothing declares that
abbrev pub likely_at : List ℕ → Word → List ℕ
likely_at words word = likely_among words (marks_of words) word

-- what an error says at a word, and the name that is probably meant, if there is any
abbrev pub fault_words : List ℕ → List ℕ → List ℕ
fault_words said [] = said
fault_words said (b ∷ likely) = said ++ codes ". Did you mean `" ++ (b ∷ likely) ++ codes "`?"
