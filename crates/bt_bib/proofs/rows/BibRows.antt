-- The definition of items at literal texts.
use Rattle.std.specs.Prelude.{◌≡◌, ℕ, List, [], ◌∷◌, codes, Option, Some, None, refl}
use Rattle.bt_bib.specs.declared.spot.Spot.{Spot}
use Rattle.bt_bib.specs.declared.fault.NameRole.TheVariants.{EntryType, StringName, FieldName, FieldPart}
use Rattle.bt_bib.specs.declared.fault.ItemFault.{ItemFault}
use Rattle.bt_bib.specs.declared.fault.ItemFault.TheVariants.{EndOfFile, MissingName, BadNameEnd, ExpectedOpen, ExpectedCommaOrClose, ExpectedEquals, UnbalancedBraces, MissingPart}
use Rattle.bt_bib.specs.declared.item.Item.{Item}
use Rattle.bt_bib.specs.declared.item.Closing.{Closing}
use Rattle.bt_bib.specs.declared.item.Closing.TheVariants.{Brace, Parenthesis}
use Rattle.bt_bib.specs.declared.item.Part.TheVariants.{Text, Macro}
use Rattle.bt_bib.specs.declared.item.Content.TheVariants as contents
use Rattle.bt_bib.specs.declared.item.Piece.TheVariants as pieces
use Rattle.bt_bib.specs.declared.placed_pieces.PlacedPiece.{PlacedPiece}
use Rattle.bt_bib.specs.Scan.{sign}
use Rattle.bt_bib.specs.Enclosure.{enclosed}
use Rattle.bt_bib.specs.Names.{word, name_ended, name}
use Rattle.bt_bib.specs.Many.{many}
use Rattle.bt_bib.specs.Values.{part, next_part, value}
use Rattle.bt_bib.specs.Fields.{field, next_field}
use Rattle.bt_bib.specs.Pieces.{opening, piece, next_piece, unread_string}
use Rattle.bt_bib.specs.Items.{PlacedItem}
use Rattle.bt_bib.specs.BibText.{pieces_of}
use Rattle.bt_bib.specs.laws.BibText.{bib_items}

abbrev spot : ℕ → ℕ → Spot
spot place line = record { place = place; line = line }

abbrev fault_in : List PlacedItem → Option (ItemFault × Spot)
fault_in [] = None
fault_in (i ∷ is) = elim i.item.fault [ None ↦ fault_in is | Some fault ↦ Some (fault, i.end) ]

-- the first fault of a text, and its place
abbrev first_fault : List ℕ → Option (ItemFault × Spot)
first_fault text = fault_in (bib_items text)

-- an item from one spot to another, whose lines are relative to that of its `@`
abbrev item : Spot → Spot → Item → PlacedPiece
item start end i = record { start = start; end = end; piece = pieces.Item i }

abbrev comment : Spot → Spot → PlacedPiece
comment start end = record { start = start; end = end; piece = pieces.Comment }

-- an entry of type `misc` and key `a` on the line of its `@`, with one field of one part
abbrev titled : Spot → Spot → Closing → List ℕ → PlacedPiece
titled start end close text = item start end (record { line = 0; content = contents.Entry (record { kind = Some (codes "misc"); key = Some (codes "a"); fields = record { name = codes "title"; line = 0; value = Text text ∷ [] } ∷ [] }); close = Some close; fault = None })

end_of_file : first_fault (codes "@misc{a, t = ") ≡ Some (EndOfFile, spot 13 1)
unfolding sign enclosed word name_ended name many part next_part value field next_field opening piece next_piece pieces_of
end_of_file = refl

end_of_file_below : first_fault (codes "\n@misc{a, t = ") ≡ Some (EndOfFile, spot 14 2)
unfolding sign enclosed word name_ended name many part next_part value field next_field opening piece next_piece pieces_of
end_of_file_below = refl

missing_name : first_fault (codes "@1{a}") ≡ Some (MissingName EntryType, spot 1 1)
unfolding sign enclosed word name_ended name many part next_part value field next_field opening piece next_piece pieces_of
missing_name = refl

missing_name_below : first_fault (codes "\n@1{a}") ≡ Some (MissingName EntryType, spot 2 2)
unfolding sign enclosed word name_ended name many part next_part value field next_field opening piece next_piece pieces_of
missing_name_below = refl

bad_name_end : first_fault (codes "@misc\"") ≡ Some (BadNameEnd EntryType 34, spot 5 1)
unfolding sign enclosed word name_ended name many part next_part value field next_field opening piece next_piece pieces_of
bad_name_end = refl

bad_name_end_below : first_fault (codes "\n@misc\"") ≡ Some (BadNameEnd EntryType 34, spot 6 2)
unfolding sign enclosed word name_ended name many part next_part value field next_field opening piece next_piece pieces_of
bad_name_end_below = refl

expected_open : first_fault (codes "@misc a") ≡ Some (ExpectedOpen, spot 6 1)
unfolding sign enclosed word name_ended name many part next_part value field next_field opening piece next_piece pieces_of
expected_open = refl

expected_open_below : first_fault (codes "\n@misc a") ≡ Some (ExpectedOpen, spot 7 2)
unfolding sign enclosed word name_ended name many part next_part value field next_field opening piece next_piece pieces_of
expected_open_below = refl

expected_comma_or_close : first_fault (codes "@misc{a b}") ≡ Some (ExpectedCommaOrClose, spot 8 1)
unfolding sign enclosed word name_ended name many part next_part value field next_field opening piece next_piece pieces_of
expected_comma_or_close = refl

expected_comma_or_close_below : first_fault (codes "\n@misc{a b}") ≡ Some (ExpectedCommaOrClose, spot 9 2)
unfolding sign enclosed word name_ended name many part next_part value field next_field opening piece next_piece pieces_of
expected_comma_or_close_below = refl

expected_equals : first_fault (codes "@misc{a, t {x}}") ≡ Some (ExpectedEquals, spot 11 1)
unfolding sign enclosed word name_ended name many part next_part value field next_field opening piece next_piece pieces_of
expected_equals = refl

expected_equals_below : first_fault (codes "\n@misc{a, t {x}}") ≡ Some (ExpectedEquals, spot 12 2)
unfolding sign enclosed word name_ended name many part next_part value field next_field opening piece next_piece pieces_of
expected_equals_below = refl

unbalanced_braces : first_fault (codes "@misc{a, t = \"x}\"}") ≡ Some (UnbalancedBraces, spot 15 1)
unfolding sign enclosed word name_ended name many part next_part value field next_field opening piece next_piece pieces_of
unbalanced_braces = refl

unbalanced_braces_below : first_fault (codes "\n@misc{a, t = \"x}\"}") ≡ Some (UnbalancedBraces, spot 16 2)
unfolding sign enclosed word name_ended name many part next_part value field next_field opening piece next_piece pieces_of
unbalanced_braces_below = refl

missing_part : first_fault (codes "@misc{a, t = }") ≡ Some (MissingPart, spot 13 1)
unfolding sign enclosed word name_ended name many part next_part value field next_field opening piece next_piece pieces_of
missing_part = refl

missing_part_below : first_fault (codes "\n@misc{a, t = }") ≡ Some (MissingPart, spot 14 2)
unfolding sign enclosed word name_ended name many part next_part value field next_field opening piece next_piece pieces_of
missing_part_below = refl

comment_is_reentered : pieces_of (codes "@comment{@misc{a, title = {T}}}") ≡ comment (spot 0 1) (spot 8 1) ∷ titled (spot 9 1) (spot 30 1) Brace (codes "T") ∷ []
unfolding sign enclosed word name_ended name many part next_part value field next_field opening piece next_piece pieces_of
comment_is_reentered = refl

parentheses_and_quotes : pieces_of (codes "@misc(a, title = \"x {\"} y\",)") ≡ titled (spot 0 1) (spot 28 1) Parenthesis (codes "x {\"} y") ∷ []
unfolding sign enclosed word name_ended name many part next_part value field next_field opening piece next_piece pieces_of
parentheses_and_quotes = refl

joined_parts : pieces_of (codes "@misc{a, title = {a  b\nc} # nix}") ≡ item (spot 0 1) (spot 32 2) (record { line = 0; content = contents.Entry (record { kind = Some (codes "misc"); key = Some (codes "a"); fields = record { name = codes "title"; line = 0; value = Text (codes "a  b\nc") ∷ Macro (codes "nix") 1 ∷ [] } ∷ [] }); close = Some Brace; fault = None }) ∷ []
unfolding sign enclosed word name_ended name many part next_part value field next_field opening piece next_piece pieces_of
joined_parts = refl

string_and_preamble : pieces_of (codes "@string{m = \"1\"}@preamble(m#2)") ≡ item (spot 0 1) (spot 16 1) (record { line = 0; content = contents.Define (record { name = Some (codes "m"); value = Some (Text (codes "1") ∷ []) }); close = Some Brace; fault = None }) ∷ item (spot 16 1) (spot 30 1) (record { line = 0; content = contents.Preamble (Some (Macro (codes "m") 0 ∷ Text (codes "2") ∷ [])); close = Some Parenthesis; fault = None }) ∷ []
unfolding sign enclosed word name_ended name many part next_part value field next_field opening piece next_piece pieces_of
string_and_preamble = refl

at_is_a_name_byte : pieces_of (codes "@@misc{a}") ≡ item (spot 0 1) (spot 9 1) (record { line = 0; content = contents.Entry (record { kind = Some (codes "@misc"); key = Some (codes "a"); fields = [] }); close = Some Brace; fault = None }) ∷ []
unfolding sign enclosed word name_ended name many part next_part value field next_field opening piece next_piece pieces_of
at_is_a_name_byte = refl

empty_key_at_the_end : pieces_of (codes "@misc{\n") ≡ item (spot 0 1) (spot 7 2) (record { line = 1; content = contents.Entry (record { kind = Some (codes "misc"); key = Some []; fields = [] }); close = Some Brace; fault = Some EndOfFile }) ∷ []
unfolding sign enclosed word name_ended name many part next_part value field next_field opening piece next_piece pieces_of
empty_key_at_the_end = refl

fields_read_whole_stay : pieces_of (codes "@misc{a, b = 1, c = d # }") ≡ item (spot 0 1) (spot 24 1) (record { line = 0; content = contents.Entry (record { kind = Some (codes "misc"); key = Some (codes "a"); fields = record { name = codes "b"; line = 0; value = Text (codes "1") ∷ [] } ∷ [] }); close = Some Brace; fault = Some MissingPart }) ∷ []
unfolding sign enclosed word name_ended name many part next_part value field next_field opening piece next_piece pieces_of
fields_read_whole_stay = refl

value_whole_at_the_end : pieces_of (codes "@misc{a, b = m") ≡ item (spot 0 1) (spot 14 1) (record { line = 0; content = contents.Entry (record { kind = Some (codes "misc"); key = Some (codes "a"); fields = record { name = codes "b"; line = 0; value = Macro (codes "m") 0 ∷ [] } ∷ [] }); close = Some Brace; fault = Some EndOfFile }) ∷ []
unfolding sign enclosed word name_ended name many part next_part value field next_field opening piece next_piece pieces_of
value_whole_at_the_end = refl

comma_in_a_string : first_fault (codes "@string{m = n,}") ≡ Some (ExpectedCommaOrClose, spot 13 1)
unfolding sign enclosed word name_ended name many part next_part value field next_field opening piece next_piece pieces_of
comma_in_a_string = refl

comma_in_a_preamble : first_fault (codes "@preamble{n,}") ≡ Some (ExpectedCommaOrClose, spot 11 1)
unfolding sign enclosed word name_ended name many part next_part value field next_field opening piece next_piece pieces_of
comma_in_a_preamble = refl

string_at_the_end : pieces_of (codes "@string") ≡ item (spot 0 1) (spot 7 1) (record { line = 0; content = unread_string; close = None; fault = Some EndOfFile }) ∷ []
unfolding sign enclosed word name_ended name many part next_part value field next_field opening piece next_piece pieces_of
string_at_the_end = refl

lone_sign_at_the_end : first_fault (codes "@") ≡ Some (EndOfFile, spot 1 1)
unfolding sign enclosed word name_ended name many part next_part value field next_field opening piece next_piece pieces_of
lone_sign_at_the_end = refl

comment_at_the_end : first_fault (codes "@comment") ≡ None
unfolding sign enclosed word name_ended name many part next_part value field next_field opening piece next_piece pieces_of
comment_at_the_end = refl

comment_ends_badly : first_fault (codes "@comment,") ≡ Some (BadNameEnd EntryType 44, spot 8 1)
unfolding sign enclosed word name_ended name many part next_part value field next_field opening piece next_piece pieces_of
comment_ends_badly = refl

faulty_string_name : first_fault (codes "@string{m'= 1}") ≡ Some (BadNameEnd StringName 39, spot 9 1)
unfolding sign enclosed word name_ended name many part next_part value field next_field opening piece next_piece pieces_of
faulty_string_name = refl

faulty_field_name : first_fault (codes "@misc{a, 1 = 2}") ≡ Some (MissingName FieldName, spot 9 1)
unfolding sign enclosed word name_ended name many part next_part value field next_field opening piece next_piece pieces_of
faulty_field_name = refl

faulty_macro_name : first_fault (codes "@misc(a, b = c}") ≡ Some (BadNameEnd FieldPart 125, spot 14 1)
unfolding sign enclosed word name_ended name many part next_part value field next_field opening piece next_piece pieces_of
faulty_macro_name = refl
