-- What macros stand for, at literal databases.
use Rattle.std.specs.Prelude.{◌≡◌, [], ◌∷◌, codes, Some, None, refl}
use Rattle.bt_bib.specs.Scan.{sign}
use Rattle.bt_bib.specs.Enclosure.{enclosed}
use Rattle.bt_bib.specs.Names.{word, name_ended, name}
use Rattle.bt_bib.specs.Many.{many}
use Rattle.bt_bib.specs.Values as parts
use Rattle.bt_bib.specs.Fields.{field, next_field}
use Rattle.bt_bib.specs.Pieces.{opening, piece, next_piece}
use Rattle.bt_bib.specs.BibText.{pieces_of}
use Rattle.bt_resolve.specs.Values.{value, field_value, value_warnings}
use Rattle.bt_resolve.specs.Macros.{macro_before}
use Rattle.bt_resolve.specs.Fields.{given_value}
use Rattle.bt_resolve.specs.Stored.{stored_of, stored_among}
use Rattle.bt_resolve.specs.Messages.{stored_messages, item_messages}
use Rattle.bt_resolve.specs.Faults.{fault_words, unclosed_entry, unclosed_command}
use Rattle.bt_resolve.specs.Listed.{listed}
use Rattle.bt_resolve.specs.Inherited.{values_after, is_left_out, final_crossref, entries_seen}
use Rattle.bt_resolve.specs.References.{reference_messages, missing_messages, list_messages}
use Rattle.bt_resolve.specs.Resolved.{stored_entries, preamble, messages, resolved}
use Rattle.bt_resolve.proofs.rows.RowWords.{cited, found, said, entry, warning, error}

-- a macro that nothing defines is empty
undefined_macro :
    found (cited (codes "a" ∷ [])) (codes "@misc{a, title = {a  b\nc} # nix}" ∷ []) 2
    ≡ said (entry (codes "a") None (Some (codes "a b c")) ∷ []) (warning 1 2 (codes "Warning--string name \"nix\" is undefined") ∷ [])
unfolding sign enclosed word name_ended name many parts.part parts.next_part parts.value field next_field opening piece next_piece pieces_of value field_value value_warnings macro_before given_value stored_of stored_among stored_messages item_messages fault_words unclosed_entry unclosed_command listed values_after is_left_out final_crossref entries_seen reference_messages missing_messages list_messages stored_entries preamble messages resolved
undefined_macro = refl

-- a macro has the value of the last string before the entry
redefined_macro :
    found (cited (codes "a" ∷ codes "b" ∷ [])) (codes "@string{m = \"1\"}\n@misc{a, title = m}\n@string{M = \"2\"}\n@misc{b, title = m # { x}}" ∷ []) 2
    ≡ said (entry (codes "a") None (Some (codes "1")) ∷ entry (codes "b") None (Some (codes "2 x")) ∷ []) ([])
unfolding sign enclosed word name_ended name many parts.part parts.next_part parts.value field next_field opening piece next_piece pieces_of value field_value value_warnings macro_before given_value stored_of stored_among stored_messages item_messages fault_words unclosed_entry unclosed_command listed values_after is_left_out final_crossref entries_seen reference_messages missing_messages list_messages stored_entries preamble messages resolved
redefined_macro = refl

-- in its own definition a macro is empty
own_macro :
    found (cited (codes "a" ∷ [])) (codes "@string{m = \"1\"}\n@string{m = m # \"x\"}\n@misc{a, title = m}" ∷ []) 2
    ≡ said (entry (codes "a") None (Some (codes "x")) ∷ []) (warning 1 2 (codes "Warning--string name \"m\" is used in its own definition") ∷ [])
unfolding sign enclosed word name_ended name many parts.part parts.next_part parts.value field next_field opening piece next_piece pieces_of value field_value value_warnings macro_before given_value stored_of stored_among stored_messages item_messages fault_words unclosed_entry unclosed_command listed values_after is_left_out final_crossref entries_seen reference_messages missing_messages list_messages stored_entries preamble messages resolved
own_macro = refl

-- a later string changes nothing, and the style's macros are there from the beginning
macro_of_the_style :
    found (cited (codes "a" ∷ [])) (codes "@misc{a, title = S # { x }}" ∷ codes "@string{s = {late}}" ∷ []) 2
    ≡ said (entry (codes "a") None (Some (codes "S x")) ∷ []) ([])
unfolding sign enclosed word name_ended name many parts.part parts.next_part parts.value field next_field opening piece next_piece pieces_of value field_value value_warnings macro_before given_value stored_of stored_among stored_messages item_messages fault_words unclosed_entry unclosed_command listed values_after is_left_out final_crossref entries_seen reference_messages missing_messages list_messages stored_entries preamble messages resolved
macro_of_the_style = refl

-- a string of the first database is defined in the second one
macro_of_a_database :
    found (cited (codes "a" ∷ [])) (codes "@string{s = {T}}" ∷ codes "@misc{a, title = s}" ∷ []) 2
    ≡ said (entry (codes "a") None (Some (codes "T")) ∷ []) ([])
unfolding sign enclosed word name_ended name many parts.part parts.next_part parts.value field next_field opening piece next_piece pieces_of value field_value value_warnings macro_before given_value stored_of stored_among stored_messages item_messages fault_words unclosed_entry unclosed_command listed values_after is_left_out final_crossref entries_seen reference_messages missing_messages list_messages stored_entries preamble messages resolved
macro_of_a_database = refl

-- a string with a fault defines nothing
faulty_string :
    found (cited (codes "a" ∷ [])) (codes "@string{s = {T} x}@misc{a, title = s}" ∷ []) 2
    ≡ said (entry (codes "a") None (Some (codes "S")) ∷ []) (error 1 1 (Some 16) (codes "Missing \"}\" in string command") (codes "command") ∷ [])
unfolding sign enclosed word name_ended name many parts.part parts.next_part parts.value field next_field opening piece next_piece pieces_of value field_value value_warnings macro_before given_value stored_of stored_among stored_messages item_messages fault_words unclosed_entry unclosed_command listed values_after is_left_out final_crossref entries_seen reference_messages missing_messages list_messages stored_entries preamble messages resolved
faulty_string = refl

-- the values of preambles, and the place of a warning in the second database
preambles_joined :
    found (cited (codes "a" ∷ [])) (codes "@preamble{{p } # nix # { q}}" ∷ codes "@preamble{s}\n@misc{a, title = s # nix}" ∷ []) 2
    ≡ (let r = said (entry (codes "a") None (Some (codes "S")) ∷ []) (warning 1 1 (codes "Warning--string name \"nix\" is undefined") ∷ warning 2 2 (codes "Warning--string name \"nix\" is undefined") ∷ []) in record r { preamble = codes "p qS" })
unfolding sign enclosed word name_ended name many parts.part parts.next_part parts.value field next_field opening piece next_piece pieces_of value field_value value_warnings macro_before given_value stored_of stored_among stored_messages item_messages fault_words unclosed_entry unclosed_command listed values_after is_left_out final_crossref entries_seen reference_messages missing_messages list_messages stored_entries preamble messages resolved
preambles_joined = refl

-- unwanted entries and undeclared fields yield no messages
macros_of_unused_entries :
    found (cited (codes "a" ∷ [])) (codes "@misc{b, title = nix}@misc{a, note = nix}" ∷ []) 2
    ≡ said (entry (codes "a") None None ∷ []) ([])
unfolding sign enclosed word name_ended name many parts.part parts.next_part parts.value field next_field opening piece next_piece pieces_of value field_value value_warnings macro_before given_value stored_of stored_among stored_messages item_messages fault_words unclosed_entry unclosed_command listed values_after is_left_out final_crossref entries_seen reference_messages missing_messages list_messages stored_entries preamble messages resolved
macros_of_unused_entries = refl
