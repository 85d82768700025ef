-- An editor's changes of a text.
use Rattle.std.specs.Prelude.{ℕ, List, [], ◌∷◌, ◌++◌, take, drop, max}
use Rattle.bt_positions.specs.declared.counting.Counting.{Counting}
use Rattle.bt_positions.specs.Positions.{offset_of}
use Rattle.bt_documents.specs.declared.changes.Change.{Change}
use Rattle.bt_documents.specs.declared.changes.Change.TheVariants.{Whole, Range}

-- The text after a change: the new text, or the part before the first position, then the new text, then the part after
-- the second position. If the second position comes first, nothing is removed.
abbrev pub text_after : Counting → Change → List ℕ → List ℕ
text_after c (Whole new) text = new
text_after c (Range from to new) text =
    take (offset_of c from text) text ++ new ++ drop (max (offset_of c from text) (offset_of c to text)) text

-- the text after changes, each made to the text that the one before left
abbrev pub all_edited : Counting → List Change → List ℕ → List ℕ
all_edited c [] text = text
all_edited c (change ∷ rest) text = all_edited c rest (text_after c change text)
