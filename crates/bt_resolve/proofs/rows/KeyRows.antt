-- Which entries are in the list, at literal databases.
use Rattle.std.specs.Prelude.{◌≡◌, [], ◌∷◌, codes, Some, None, refl}
use Rattle.bt_bib.specs.Scan.{sign}
use Rattle.bt_bib.specs.Enclosure.{enclosed}
use Rattle.bt_bib.specs.Names.{word, name_ended, name}
use Rattle.bt_bib.specs.Many.{many}
use Rattle.bt_bib.specs.Values as parts
use Rattle.bt_bib.specs.Fields.{field, next_field}
use Rattle.bt_bib.specs.Pieces.{opening, piece, next_piece}
use Rattle.bt_bib.specs.BibText.{pieces_of}
use Rattle.bt_resolve.specs.Values.{value, field_value, value_warnings}
use Rattle.bt_resolve.specs.Macros.{macro_before}
use Rattle.bt_resolve.specs.Fields.{given_value}
use Rattle.bt_resolve.specs.Stored.{stored_of, stored_among}
use Rattle.bt_resolve.specs.Messages.{stored_messages, item_messages}
use Rattle.bt_resolve.specs.Faults.{fault_words, unclosed_entry}
use Rattle.bt_resolve.specs.Listed.{listed}
use Rattle.bt_resolve.specs.Inherited.{values_after, is_left_out, final_crossref, entries_seen}
use Rattle.bt_resolve.specs.References.{reference_messages, missing_messages, list_messages}
use Rattle.bt_resolve.specs.Resolved.{stored_entries, preamble, messages, resolved}
use Rattle.bt_log.specs.declared.message.Rank.TheVariants.{Warning}
use Rattle.bt_resolve.proofs.rows.RowWords.{cited, cited_with_star, found, said, entry, about, warning, error, told}

-- the first entry of a key counts
repeated_entry :
    found (cited (codes "a" ∷ [])) (codes "@misc{a, title = {A}}\n@misc{A, title = {B}}" ∷ []) 2
    ≡ said (entry (codes "a") None (Some (codes "A")) ∷ []) (about (codes "A") (error 1 2 None (codes "Repeated entry") (codes "entry")) ∷ [])
unfolding sign enclosed word name_ended name many parts.part parts.next_part parts.value field next_field opening piece next_piece pieces_of value field_value value_warnings macro_before given_value stored_of stored_among stored_messages item_messages fault_words unclosed_entry listed values_after is_left_out final_crossref entries_seen reference_messages missing_messages list_messages stored_entries preamble messages resolved
repeated_entry = refl

-- an error carries the number of its database
repeated_in_the_second_database :
    found (cited (codes "a" ∷ [])) (codes "@misc{a, title = {A}}" ∷ codes "\n@misc{a, title = {B}}" ∷ []) 2
    ≡ said (entry (codes "a") None (Some (codes "A")) ∷ []) (about (codes "a") (error 2 2 None (codes "Repeated entry") (codes "entry")) ∷ [])
unfolding sign enclosed word name_ended name many parts.part parts.next_part parts.value field next_field opening piece next_piece pieces_of value field_value value_warnings macro_before given_value stored_of stored_among stored_messages item_messages fault_words unclosed_entry listed values_after is_left_out final_crossref entries_seen reference_messages missing_messages list_messages stored_entries preamble messages resolved
repeated_in_the_second_database = refl

-- an uncited entry is never repeated
repeated_uncited :
    found (cited (codes "a" ∷ [])) (codes "@misc{b}@misc{b}@misc{a}" ∷ []) 2
    ≡ said (entry (codes "a") None None ∷ []) ([])
unfolding sign enclosed word name_ended name many parts.part parts.next_part parts.value field next_field opening piece next_piece pieces_of value field_value value_warnings macro_before given_value stored_of stored_among stored_messages item_messages fault_words unclosed_entry listed values_after is_left_out final_crossref entries_seen reference_messages missing_messages list_messages stored_entries preamble messages resolved
repeated_uncited = refl

-- what is cited before `*` comes first
star_after_a_key :
    found (cited_with_star 1 (codes "b" ∷ [])) (codes "@misc{a, title = {A}}@misc{b, title = {B}}@misc{c, title = {C}}" ∷ []) 2
    ≡ said (entry (codes "b") None (Some (codes "B")) ∷ entry (codes "a") None (Some (codes "A")) ∷ entry (codes "c") None (Some (codes "C")) ∷ []) ([])
unfolding sign enclosed word name_ended name many parts.part parts.next_part parts.value field next_field opening piece next_piece pieces_of value field_value value_warnings macro_before given_value stored_of stored_among stored_messages item_messages fault_words unclosed_entry listed values_after is_left_out final_crossref entries_seen reference_messages missing_messages list_messages stored_entries preamble messages resolved
star_after_a_key = refl

-- a key after `*` has its place in the databases
star_before_a_key :
    found (cited_with_star 0 (codes "C" ∷ [])) (codes "@misc{a, title = {A}}@misc{b, title = {B}}@misc{c, title = {C}}" ∷ []) 2
    ≡ said (entry (codes "a") None (Some (codes "A")) ∷ entry (codes "b") None (Some (codes "B")) ∷ entry (codes "C") None (Some (codes "C")) ∷ []) ([])
unfolding sign enclosed word name_ended name many parts.part parts.next_part parts.value field next_field opening piece next_piece pieces_of value field_value value_warnings macro_before given_value stored_of stored_among stored_messages item_messages fault_words unclosed_entry listed values_after is_left_out final_crossref entries_seen reference_messages missing_messages list_messages stored_entries preamble messages resolved
star_before_a_key = refl

-- with `*` no entry is left out
star_keeps_parents :
    found (cited_with_star 0 ([])) (codes "@misc{a, crossref = {p}}@misc{p, title = {T}}" ∷ []) 2
    ≡ said (entry (codes "a") (Some (codes "p")) (Some (codes "T")) ∷ entry (codes "p") None (Some (codes "T")) ∷ []) ([])
unfolding sign enclosed word name_ended name many parts.part parts.next_part parts.value field next_field opening piece next_piece pieces_of value field_value value_warnings macro_before given_value stored_of stored_among stored_messages item_messages fault_words unclosed_entry listed values_after is_left_out final_crossref entries_seen reference_messages missing_messages list_messages stored_entries preamble messages resolved
star_keeps_parents = refl

-- a key is spelled as it is cited
case_of_a_key :
    found (cited (codes "Foo" ∷ [])) (codes "@misc{foo, title = {T}}" ∷ []) 2
    ≡ said (entry (codes "Foo") None (Some (codes "T")) ∷ []) ([])
unfolding sign enclosed word name_ended name many parts.part parts.next_part parts.value field next_field opening piece next_piece pieces_of value field_value value_warnings macro_before given_value stored_of stored_among stored_messages item_messages fault_words unclosed_entry listed values_after is_left_out final_crossref entries_seen reference_messages missing_messages list_messages stored_entries preamble messages resolved
case_of_a_key = refl

-- an uncited key is spelled as in its database
case_of_an_uncited_key :
    found (cited (codes "a" ∷ [])) (codes "@misc{a, crossref = {foo}}@misc{Foo, title = {T}}" ∷ []) 1
    ≡ said (entry (codes "a") (Some (codes "foo")) (Some (codes "T")) ∷ entry (codes "Foo") None (Some (codes "T")) ∷ []) ([])
unfolding sign enclosed word name_ended name many parts.part parts.next_part parts.value field next_field opening piece next_piece pieces_of value field_value value_warnings macro_before given_value stored_of stored_among stored_messages item_messages fault_words unclosed_entry listed values_after is_left_out final_crossref entries_seen reference_messages missing_messages list_messages stored_entries preamble messages resolved
case_of_an_uncited_key = refl

-- a cited key without an entry
no_entry :
    found (cited (codes "a" ∷ codes "b" ∷ [])) (codes "@misc{b}" ∷ []) 2
    ≡ said (entry (codes "b") None None ∷ []) (told (codes "a") Warning (codes "Warning--I didn't find a database entry for \"a\"") None ∷ [])
unfolding sign enclosed word name_ended name many parts.part parts.next_part parts.value field next_field opening piece next_piece pieces_of value field_value value_warnings macro_before given_value stored_of stored_among stored_messages item_messages fault_words unclosed_entry listed values_after is_left_out final_crossref entries_seen reference_messages missing_messages list_messages stored_entries preamble messages resolved
no_entry = refl

-- a fault ends an entry, which stays with the fields before it
cut_short :
    found (cited (codes "a" ∷ [])) (codes "@misc{a, title = {T}\n@misc{b}" ∷ []) 2
    ≡ said (entry (codes "a") None (Some (codes "T")) ∷ []) (about (codes "a") (error 1 2 (Some 21) (codes "I was expecting a `,' or a `}'") (codes "entry")) ∷ [])
unfolding sign enclosed word name_ended name many parts.part parts.next_part parts.value field next_field opening piece next_piece pieces_of value field_value value_warnings macro_before given_value stored_of stored_among stored_messages item_messages fault_words unclosed_entry listed values_after is_left_out final_crossref entries_seen reference_messages missing_messages list_messages stored_entries preamble messages resolved
cut_short = refl

-- of two fields of one name the first counts; a value's warnings come before the field's
second_field :
    found (cited (codes "a" ∷ [])) (codes "@misc{a, title = {x}, note = nix,\n TITLE = nix}" ∷ []) 2
    ≡ said (entry (codes "a") None (Some (codes "x")) ∷ []) (warning 1 2 (codes "Warning--string name \"nix\" is undefined") ∷ about (codes "a") (warning 1 2 (codes "Warning--I'm ignoring a's extra \"title\" field")) ∷ [])
unfolding sign enclosed word name_ended name many parts.part parts.next_part parts.value field next_field opening piece next_piece pieces_of value field_value value_warnings macro_before given_value stored_of stored_among stored_messages item_messages fault_words unclosed_entry listed values_after is_left_out final_crossref entries_seen reference_messages missing_messages list_messages stored_entries preamble messages resolved
second_field = refl

-- a type without a function
no_function :
    found (cited (codes "a" ∷ [])) (codes "@Book{A, title = {x}}" ∷ []) 2
    ≡ said ((let e = entry (codes "a") None (Some (codes "x")) in record e { kind = codes "book"; function = None }) ∷ []) (about (codes "A") (warning 1 1 (codes "Warning--entry type for \"A\" isn't style-file defined")) ∷ [])
unfolding sign enclosed word name_ended name many parts.part parts.next_part parts.value field next_field opening piece next_piece pieces_of value field_value value_warnings macro_before given_value stored_of stored_among stored_messages item_messages fault_words unclosed_entry listed values_after is_left_out final_crossref entries_seen reference_messages missing_messages list_messages stored_entries preamble messages resolved
no_function = refl
