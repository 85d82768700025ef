-- What entries inherit, and which are left out, at literal databases.
use Rattle.std.specs.Prelude.{◌≡◌, [], ◌∷◌, codes, Some, None, refl}
use Rattle.bt_bib.specs.Scan.{sign}
use Rattle.bt_bib.specs.Enclosure.{enclosed}
use Rattle.bt_bib.specs.Names.{word, name_ended, name}
use Rattle.bt_bib.specs.Many.{many}
use Rattle.bt_bib.specs.Values as parts
use Rattle.bt_bib.specs.Fields.{field, next_field}
use Rattle.bt_bib.specs.Pieces.{opening, piece, next_piece}
use Rattle.bt_bib.specs.BibText.{pieces_of}
use Rattle.bt_resolve.specs.Values.{value, field_value, value_warnings}
use Rattle.bt_resolve.specs.Macros.{macro_before}
use Rattle.bt_resolve.specs.Fields.{given_value}
use Rattle.bt_resolve.specs.Stored.{stored_of, stored_among}
use Rattle.bt_resolve.specs.Messages.{stored_messages, item_messages}
use Rattle.bt_resolve.specs.Faults.{fault_words, unclosed_entry}
use Rattle.bt_resolve.specs.Listed.{listed}
use Rattle.bt_resolve.specs.Inherited.{values_after, is_left_out, final_crossref, entries_seen}
use Rattle.bt_resolve.specs.References.{reference_messages, missing_messages, list_messages}
use Rattle.bt_resolve.specs.Resolved.{stored_entries, preamble, messages, resolved}
use Rattle.bt_log.specs.declared.message.Rank.TheVariants.{Error, Warning}
use Rattle.bt_resolve.proofs.rows.RowWords.{cited, found, said, entry, told}

-- two children keep their parent in the list, after what is cited
two_children :
    found (cited (codes "a" ∷ codes "b" ∷ [])) (codes "@misc{a, crossref = {P}}\n@misc{p, title = {T}}\n@misc{b, crossref = {p}}" ∷ []) 2
    ≡ said (entry (codes "a") (Some (codes "P")) (Some (codes "T")) ∷ entry (codes "b") (Some (codes "p")) (Some (codes "T")) ∷ entry (codes "p") None (Some (codes "T")) ∷ []) ([])
unfolding sign enclosed word name_ended name many parts.part parts.next_part parts.value field next_field opening piece next_piece pieces_of value field_value value_warnings macro_before given_value stored_of stored_among stored_messages item_messages fault_words unclosed_entry listed values_after is_left_out final_crossref entries_seen reference_messages missing_messages list_messages stored_entries preamble messages resolved
two_children = refl

-- one child inherits, and its parent is left out
one_child :
    found (cited (codes "a" ∷ [])) (codes "@misc{a, crossref = {P}}\n@misc{p, title = {T}}\n@misc{b, crossref = {p}}" ∷ []) 2
    ≡ said (entry (codes "a") None (Some (codes "T")) ∷ []) ([])
unfolding sign enclosed word name_ended name many parts.part parts.next_part parts.value field next_field opening piece next_piece pieces_of value field_value value_warnings macro_before given_value stored_of stored_among stored_messages item_messages fault_words unclosed_entry listed values_after is_left_out final_crossref entries_seen reference_messages missing_messages list_messages stored_entries preamble messages resolved
one_child = refl

-- with the least number 1 one child keeps its parent
one_child_is_enough :
    found (cited (codes "a" ∷ [])) (codes "@misc{a, crossref = {P}}\n@misc{p, title = {T}}\n@misc{b, crossref = {p}}" ∷ []) 1
    ≡ said (entry (codes "a") (Some (codes "P")) (Some (codes "T")) ∷ entry (codes "p") None (Some (codes "T")) ∷ []) ([])
unfolding sign enclosed word name_ended name many parts.part parts.next_part parts.value field next_field opening piece next_piece pieces_of value field_value value_warnings macro_before given_value stored_of stored_among stored_messages item_messages fault_words unclosed_entry listed values_after is_left_out final_crossref entries_seen reference_messages missing_messages list_messages stored_entries preamble messages resolved
one_child_is_enough = refl

-- an uncited parent that comes before its child is not stored
parent_in_front :
    found (cited (codes "a" ∷ [])) (codes "@misc{p, title = {T}}\n@misc{a, title = {U}, crossref = {p}}" ∷ []) 2
    ≡ said (entry (codes "a") None (Some (codes "U")) ∷ []) (told (codes "a") Error (codes "A bad cross reference---entry \"a\"") (Some (codes "refers to entry \"p\", which doesn't exist")) ∷ [])
unfolding sign enclosed word name_ended name many parts.part parts.next_part parts.value field next_field opening piece next_piece pieces_of value field_value value_warnings macro_before given_value stored_of stored_among stored_messages item_messages fault_words unclosed_entry listed values_after is_left_out final_crossref entries_seen reference_messages missing_messages list_messages stored_entries preamble messages resolved
parent_in_front = refl

-- a cited parent may come before its child
cited_parent_in_front :
    found (cited (codes "a" ∷ codes "p" ∷ [])) (codes "@misc{p, title = {T}}\n@misc{a, crossref = {p}}" ∷ []) 2
    ≡ said (entry (codes "a") (Some (codes "p")) (Some (codes "T")) ∷ entry (codes "p") None (Some (codes "T")) ∷ []) ([])
unfolding sign enclosed word name_ended name many parts.part parts.next_part parts.value field next_field opening piece next_piece pieces_of value field_value value_warnings macro_before given_value stored_of stored_among stored_messages item_messages fault_words unclosed_entry listed values_after is_left_out final_crossref entries_seen reference_messages missing_messages list_messages stored_entries preamble messages resolved
cited_parent_in_front = refl

-- a value of its own is not inherited
own_value_stays :
    found (cited (codes "a" ∷ [])) (codes "@misc{a, title = {U}, crossref = {p}}\n@misc{p, title = {T}}" ∷ []) 1
    ≡ said (entry (codes "a") (Some (codes "p")) (Some (codes "U")) ∷ entry (codes "p") None (Some (codes "T")) ∷ []) ([])
unfolding sign enclosed word name_ended name many parts.part parts.next_part parts.value field next_field opening piece next_piece pieces_of value field_value value_warnings macro_before given_value stored_of stored_among stored_messages item_messages fault_words unclosed_entry listed values_after is_left_out final_crossref entries_seen reference_messages missing_messages list_messages stored_entries preamble messages resolved
own_value_stays = refl

-- nested references: each entry inherits from its parent as the parent is at that time
nested :
    found (cited (codes "a" ∷ [])) (codes "@misc{a, crossref = {b}}\n@misc{b, crossref = {c}}\n@misc{c, title = {T}}" ∷ []) 1
    ≡ said (entry (codes "a") (Some (codes "b")) None ∷ entry (codes "b") (Some (codes "c")) (Some (codes "T")) ∷ entry (codes "c") None (Some (codes "T")) ∷ []) (told (codes "a") Warning (codes "Warning--you've nested cross references--entry \"a\"") (Some (codes "refers to entry \"b\", which also refers to something")) ∷ [])
unfolding sign enclosed word name_ended name many parts.part parts.next_part parts.value field next_field opening piece next_piece pieces_of value field_value value_warnings macro_before given_value stored_of stored_among stored_messages item_messages fault_words unclosed_entry listed values_after is_left_out final_crossref entries_seen reference_messages missing_messages list_messages stored_entries preamble messages resolved
nested = refl

-- the same warning if the parents are left out
nested_left_out :
    found (cited (codes "a" ∷ [])) (codes "@misc{a, crossref = {b}}\n@misc{b, crossref = {c}}\n@misc{c, title = {T}}" ∷ []) 2
    ≡ said (entry (codes "a") None None ∷ []) (told (codes "a") Warning (codes "Warning--you've nested cross references--entry \"a\"") (Some (codes "refers to entry \"b\", which also refers to something")) ∷ [])
unfolding sign enclosed word name_ended name many parts.part parts.next_part parts.value field next_field opening piece next_piece pieces_of value field_value value_warnings macro_before given_value stored_of stored_among stored_messages item_messages fault_words unclosed_entry listed values_after is_left_out final_crossref entries_seen reference_messages missing_messages list_messages stored_entries preamble messages resolved
nested_left_out = refl

-- an entry that refers to itself is its own child
refers_to_itself :
    found (cited (codes "a" ∷ [])) (codes "@misc{a, crossref = {A}}" ∷ []) 2
    ≡ said (entry (codes "a") (Some (codes "A")) None ∷ []) (told (codes "a") Warning (codes "Warning--you've nested cross references--entry \"a\"") (Some (codes "refers to entry \"A\", which also refers to something")) ∷ [])
unfolding sign enclosed word name_ended name many parts.part parts.next_part parts.value field next_field opening piece next_piece pieces_of value field_value value_warnings macro_before given_value stored_of stored_among stored_messages item_messages fault_words unclosed_entry listed values_after is_left_out final_crossref entries_seen reference_messages missing_messages list_messages stored_entries preamble messages resolved
refers_to_itself = refl

-- uncited parents come in the order in which entries refer to them
parents_by_their_children :
    found (cited (codes "a" ∷ codes "b" ∷ [])) (codes "@misc{b, crossref = {q}}@misc{a, crossref = {p}}@misc{p}@misc{q}" ∷ []) 1
    ≡ said (entry (codes "a") (Some (codes "p")) None ∷ entry (codes "b") (Some (codes "q")) None ∷ entry (codes "q") None None ∷ entry (codes "p") None None ∷ []) ([])
unfolding sign enclosed word name_ended name many parts.part parts.next_part parts.value field next_field opening piece next_piece pieces_of value field_value value_warnings macro_before given_value stored_of stored_among stored_messages item_messages fault_words unclosed_entry listed values_after is_left_out final_crossref entries_seen reference_messages missing_messages list_messages stored_entries preamble messages resolved
parents_by_their_children = refl
