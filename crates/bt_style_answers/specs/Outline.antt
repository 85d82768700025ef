-- What a style declares, as an editor's outline.
use Rattle.std.specs.Prelude.{ℕ, List, map}
use Rattle.serde_json.specs.Data.{Data, array}
use Rattle.serde_json.specs.View.{items_of}
use Rattle.bt_positions.specs.declared.counting.Counting.{Counting}
use Rattle.bt_style_text.specs.declared.roles.Kind.{Kind}
use Rattle.bt_style_text.specs.declared.roles.Kind.TheVariants as kinds
use Rattle.bt_style_text.specs.declared.outline.Symbol.{Symbol}
use Rattle.bt_style_text.specs.Parts.{part}
use Rattle.bt_style_text.specs.Marks.{marks_of}
use Rattle.bt_style_text.specs.Outline.{symbols_of}
use Rattle.bt_shapes.specs.Shapes.{range_of, symbol}

-- the protocol's number of a kind of symbols: a field, a variable, a function or a constant
abbrev pub symbol_kind : Kind → ℕ
symbol_kind kinds.Field = 8
symbol_kind kinds.Function = 12
symbol_kind kinds.Macro = 14
symbol_kind _ = 13

abbrev pub symbol_of : Counting → List ℕ → Symbol → Data
symbol_of c words found =
    symbol (part found.name.start found.name.end words) (symbol_kind found.kind)
    (range_of c words found.start found.end) (range_of c words found.name.start found.name.end)

-- what a style's text declares
abbrev pub symbols_in : Counting → List ℕ → Data
symbols_in c words = array (items_of (map (symbol_of c words) (symbols_of (marks_of words))))
