-- What `substring$`, `text.prefix$` and `format.name$` ask for.
use Rattle.std.specs.Prelude.{◌≡◌, ℕ, ℤ, ◌≤◌, List, length, take, drop, Option, Some, option_and_then, slice_get}
use Rattle.std.specs.Option.{option_zip}
use Rattle.bt_text.specs.Substrings.{substring_of}
use Rattle.bt_actions.specs.Arguments.{as_number, as_text, all_three}
use Rattle.bt_actions.specs.Item.{Item}

-- the text and the two numbers on the stack, if they are on top
abbrev pub part_asked : List Item → Option (List ℕ × ℤ × ℤ)
part_asked items =
    all_three (option_and_then as_text (slice_get items 2)) (option_and_then as_number (slice_get items 1))
    (option_and_then as_number (slice_get items 0))

-- the values on the stack ask for the part of a text that has count bytes from a place on
pub record IsPart (from count : ℕ) (items : List Item) : Type 0 where
  pub text : List ℕ
  pub start : ℤ
  pub len : ℤ
  pub is_text : Some text ≡ option_and_then as_text (slice_get items 2)
  pub is_start : Some start ≡ option_and_then as_number (slice_get items 1)
  pub is_len : Some len ≡ option_and_then as_number (slice_get items 0)
  pub short : length text ≤ 65536
  pub part : take count (drop from text) ≡ substring_of text start len

-- the text and the number on the stack, if they are on top
abbrev pub prefix_asked : List Item → Option (List ℕ × ℤ)
prefix_asked items = option_zip (option_and_then as_text (slice_get items 1)) (option_and_then as_number (slice_get items 0))

-- the names, the number and the pattern on the stack, if they are on top
abbrev pub name_asked : List Item → Option (List ℕ × ℤ × List ℕ)
name_asked items =
    all_three (option_and_then as_text (slice_get items 2)) (option_and_then as_number (slice_get items 1))
    (option_and_then as_text (slice_get items 0))
