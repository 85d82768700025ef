-- Texts up to the place of a fault, with bytes after them that complete the item.
use Rattle.std.specs.Prelude.{◌≡◌, ℕ, List, [], ◌∷◌, ◌++◌, take, map, codes, Option, None, refl}
use Rattle.bt_bib.specs.declared.fault.ItemFault.{ItemFault}
use Rattle.bt_bib.specs.Scan.{sign}
use Rattle.bt_bib.specs.Enclosure.{enclosed}
use Rattle.bt_bib.specs.Names.{word, name_ended, name}
use Rattle.bt_bib.specs.Many.{many}
use Rattle.bt_bib.specs.Values.{part, next_part, value}
use Rattle.bt_bib.specs.Fields.{field, next_field}
use Rattle.bt_bib.specs.Pieces.{opening, piece, next_piece}
use Rattle.bt_bib.specs.Items.{PlacedItem}
use Rattle.bt_bib.specs.BibText.{pieces_of}
use Rattle.bt_bib.specs.laws.BibText.{bib_items}

-- the faults of the items in the beginning of a text with other bytes after it
abbrev completed : List ℕ → ℕ → List ℕ → List (Option ItemFault)
completed text place others = map (λ (i : PlacedItem). i.item.fault) (bib_items (take place text ++ others))

of_a_value : completed (codes "@misc{a, t = ") 13 (codes "1}") ≡ None ∷ []
unfolding sign enclosed word name_ended name many part next_part value field next_field opening piece next_piece pieces_of
of_a_value = refl

of_a_type : completed (codes "@1{a}") 1 (codes "a{}") ≡ None ∷ []
unfolding sign enclosed word name_ended name many part next_part value field next_field opening piece next_piece pieces_of
of_a_type = refl

of_a_type_that_ends_badly : completed (codes "@misc\"") 5 (codes "{}") ≡ None ∷ []
unfolding sign enclosed word name_ended name many part next_part value field next_field opening piece next_piece pieces_of
of_a_type_that_ends_badly = refl

of_a_comment_word : completed (codes "@comment,") 8 (codes "a{}") ≡ None ∷ []
unfolding sign enclosed word name_ended name many part next_part value field next_field opening piece next_piece pieces_of
of_a_comment_word = refl

of_an_item : completed (codes "@string m") 8 (codes "{m = 1}") ≡ None ∷ []
unfolding sign enclosed word name_ended name many part next_part value field next_field opening piece next_piece pieces_of
of_an_item = refl

of_an_entry : completed (codes "@misc{a b}") 8 (codes ",}") ≡ None ∷ []
unfolding sign enclosed word name_ended name many part next_part value field next_field opening piece next_piece pieces_of
of_an_entry = refl

of_an_entry_in_parentheses : completed (codes "@misc(a)") 8 (codes ",)") ≡ None ∷ []
unfolding sign enclosed word name_ended name many part next_part value field next_field opening piece next_piece pieces_of
of_an_entry_in_parentheses = refl

of_an_equals_sign : completed (codes "@misc{a, t {x}}") 11 (codes "= 1}") ≡ None ∷ []
unfolding sign enclosed word name_ended name many part next_part value field next_field opening piece next_piece pieces_of
of_an_equals_sign = refl

of_quotes : completed (codes "@misc{a, t = \"{x} y}\"}") 19 (codes "\"}") ≡ None ∷ []
unfolding sign enclosed word name_ended name many part next_part value field next_field opening piece next_piece pieces_of
of_quotes = refl

of_braces : completed (codes "@misc{a, t = {x {y") 18 (codes "}}}") ≡ None ∷ []
unfolding sign enclosed word name_ended name many part next_part value field next_field opening piece next_piece pieces_of
of_braces = refl

of_a_part : completed (codes "@preamble{m # }") 14 (codes "1}") ≡ None ∷ []
unfolding sign enclosed word name_ended name many part next_part value field next_field opening piece next_piece pieces_of
of_a_part = refl

of_a_macro_name : completed (codes "@misc(a, b = c}") 14 (codes ")") ≡ None ∷ []
unfolding sign enclosed word name_ended name many part next_part value field next_field opening piece next_piece pieces_of
of_a_macro_name = refl
