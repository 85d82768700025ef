-- The functions and macros of a style, to be folded.
use Rattle.std.specs.Prelude.{ℕ, min, List, length, filter_map, Option}
use Rattle.serde_json.specs.Data.{Data, array}
use Rattle.serde_json.specs.View.{items_of}
use Rattle.bt_positions.specs.Positions.{position_of}
use Rattle.bt_positions.specs.declared.counting.Counting.{Counting}
use Rattle.bt_shapes.specs.Shapes.{fold_between}
use Rattle.bt_style_text.specs.declared.outline.Symbol.{Symbol}
use Rattle.bt_style_text.specs.Marks.{marks_of}
use Rattle.bt_style_text.specs.Outline.{symbols_of}

-- the line of a place
abbrev pub line_of : Counting → List ℕ → ℕ → ℕ
line_of c words place = (position_of c (min place (length words)) words).line

-- the lines of a symbol, if there are several
abbrev pub fold_of : Counting → List ℕ → Symbol → Option Data
fold_of c words symbol = fold_between (line_of c words symbol.start) (line_of c words symbol.end)

abbrev pub folds_of : Counting → List ℕ → List Symbol → List Data
folds_of c words symbols = filter_map (fold_of c words) symbols

-- the lines of each function and macro that has several
abbrev pub folds_in : Counting → List ℕ → Data
folds_in c words = array (items_of (folds_of c words (symbols_of (marks_of words))))
