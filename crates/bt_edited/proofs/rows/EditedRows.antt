-- Edits and changes at literal texts.
use Rattle.std.specs.Prelude.{◌≡◌, ℕ, Bool, true, false, List, [], ◌∷◌, codes, Some, None, refl}
use Rattle.bt_positions.specs.declared.counting.Counting.TheVariants.{Utf16}
use Rattle.bt_positions.specs.declared.indexed_text.Position.{Position}
use Rattle.bt_bib.specs.Scan.{sign}
use Rattle.bt_bib.specs.Enclosure.{enclosed}
use Rattle.bt_bib.specs.Names.{word, name_ended, name}
use Rattle.bt_bib.specs.Many.{many}
use Rattle.bt_bib.specs.Values.{part, next_part, value}
use Rattle.bt_bib.specs.Fields.{field, next_field}
use Rattle.bt_bib.specs.Pieces.{opening, piece, next_piece}
use Rattle.bt_bib.specs.BibText.{pieces_of}
use Rattle.bt_edited.specs.declared.changes.Change.{Change}
use Rattle.bt_edited.specs.declared.changes.Change.TheVariants.{Nothing, Key, Macro}
use Rattle.bt_edited.specs.declared.edits.Edit.{Edit}
use Rattle.bt_edited.specs.Edits.{text_after_edits}
use Rattle.bt_edited.specs.Becomes.{is_made}

abbrev position : ℕ → ℕ → Position
position line character = record { line = line; character = character }

abbrev edit : Position → Position → List ℕ → Edit
edit from to new = record { from = from; to = to; new = new }

-- the comparison of two texts
abbrev becomes : Change → List ℕ → List ℕ → Bool
becomes change before after = is_made change (pieces_of before) (Some after)

-- ---- edits

edits_rise : text_after_edits Utf16 (edit (position 0 1) (position 0 1) (codes "x") ∷ edit (position 0 1) (position 1 0) (codes ";") ∷ []) (codes "ab\nc") ≡ Some (codes "ax;c")
edits_rise = refl

edits_overlap : text_after_edits Utf16 (edit (position 0 0) (position 0 2) (codes "x") ∷ edit (position 0 1) (position 0 2) (codes "y") ∷ []) (codes "abc") ≡ None
edits_overlap = refl

ends_before_it_begins : text_after_edits Utf16 (edit (position 0 2) (position 0 1) (codes "x") ∷ []) (codes "abc") ≡ None
ends_before_it_begins = refl

-- ---- layout

layout_keeps : becomes Nothing (codes "@a{k,t={x y},m=a#1}") (codes "@a{k,\n t={x y},m=a#1\n}") ≡ true
unfolding sign enclosed word name_ended name many part next_part value field next_field opening piece next_piece pieces_of
layout_keeps = refl

values_count : becomes Nothing (codes "@a{k,t={x y}}") (codes "@a{k,t={x  y}}") ≡ false
unfolding sign enclosed word name_ended name many part next_part value field next_field opening piece next_piece pieces_of
values_count = refl

faults_count : becomes Nothing (codes "@a{k,t=}") (codes "@a{k,t}") ≡ false
unfolding sign enclosed word name_ended name many part next_part value field next_field opening piece next_piece pieces_of
faults_count = refl

-- ---- keys

key_changes : becomes (Key (codes "s") (codes "t")) (codes "@a{S,n=s} @a{b,crossref={ s }}") (codes "@a{t,n=s} @a{b,crossref={ t }}") ≡ true
unfolding sign enclosed word name_ended name many part next_part value field next_field opening piece next_piece pieces_of
key_changes = refl

number_changes : becomes (Key (codes "12") (codes "t")) (codes "@a{12} @a{b,crossref=12}") (codes "@a{t} @a{b,crossref={t}}") ≡ true
unfolding sign enclosed word name_ended name many part next_part value field next_field opening piece next_piece pieces_of
number_changes = refl

key_in_longer_key : becomes (Key (codes "s") (codes "t")) (codes "@a{s(1)} @a{b,crossref={s(1)}}") (codes "@a{s(1)} @a{b,crossref={t(1)}}") ≡ false
unfolding sign enclosed word name_ended name many part next_part value field next_field opening piece next_piece pieces_of
key_in_longer_key = refl

key_of_parts : becomes (Key (codes "ab") (codes "t")) (codes "@a{b,crossref=\"a\"#\"b\"}") (codes "@a{b,crossref=\"a\"#\"b\"}") ≡ false
unfolding sign enclosed word name_ended name many part next_part value field next_field opening piece next_piece pieces_of
key_of_parts = refl

key_beside_macro : becomes (Key (codes "a") (codes "t")) (codes "@a{b,crossref=\"a\"#m}") (codes "@a{b,crossref=\"a\"#m}") ≡ true
unfolding sign enclosed word name_ended name many part next_part value field next_field opening piece next_piece pieces_of
key_beside_macro = refl

-- ---- macros

macro_changes : becomes (Macro (codes "m") (codes "n")) (codes "@string{M=1}@a{m,t=m#{m},") (codes "@string{n=1}@a{m,t=n#{m},") ≡ true
unfolding sign enclosed word name_ended name many part next_part value field next_field opening piece next_piece pieces_of
macro_changes = refl

macro_is_left : becomes (Macro (codes "m") (codes "n")) (codes "@preamble{m}") (codes "@preamble{m}") ≡ false
unfolding sign enclosed word name_ended name many part next_part value field next_field opening piece next_piece pieces_of
macro_is_left = refl
