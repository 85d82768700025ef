-- What is re-read of two entries with 44 bytes in all.
use Rattle.std.specs.Prelude.{◌≡◌, ℕ, ◌-◌, List, [], ◌++◌, length, take, drop, codes, refl}
use Rattle.bt_bib.specs.Scan.{sign}
use Rattle.bt_bib.specs.Enclosure.{enclosed}
use Rattle.bt_bib.specs.Names.{word, name_ended, name}
use Rattle.bt_bib.specs.Many.{many}
use Rattle.bt_bib.specs.Values.{part, next_part, value}
use Rattle.bt_bib.specs.Fields.{field, next_field}
use Rattle.bt_bib.specs.Pieces.{opening, piece, next_piece}
use Rattle.bt_bib.specs.BibText.{pieces_of}
use Rattle.bt_bib.specs.Splice.{reread_from, reread_upto}

abbrev two : List ℕ
two = codes "@misc{a, title = {A}}\n@misc{b, title = {B}}\n"

-- where re-reading begins, where it ends, and how many bytes that is, when other bytes replace those from begin up to
-- end
abbrev reread : ℕ → ℕ → List ℕ → ℕ × ℕ × ℕ
reread begin end others =
    let new = take begin two ++ others ++ drop end two in
    let from = reread_from two begin in
    let upto = reread_upto two new begin end (length others) in (
      from,
      upto,
      upto - from,
    )

two_entries : length two ≡ 44
two_entries = refl

in_the_second : reread 40 41 (codes "C") ≡ (21, 43, 22)
unfolding sign enclosed word name_ended name many part next_part value field next_field opening piece next_piece pieces_of
in_the_second = refl

in_the_first : reread 18 19 (codes "C") ≡ (0, 21, 21)
unfolding sign enclosed word name_ended name many part next_part value field next_field opening piece next_piece pieces_of
in_the_first = refl

the_last_brace_of_the_first : reread 20 21 [] ≡ (0, 42, 42)
unfolding sign enclosed word name_ended name many part next_part value field next_field opening piece next_piece pieces_of
the_last_brace_of_the_first = refl

both_braces_of_the_first : reread 19 21 [] ≡ (0, 42, 42)
unfolding sign enclosed word name_ended name many part next_part value field next_field opening piece next_piece pieces_of
both_braces_of_the_first = refl

in_front_of_both : reread 0 0 (codes "\n\n") ≡ (0, 23, 23)
unfolding sign enclosed word name_ended name many part next_part value field next_field opening piece next_piece pieces_of
in_front_of_both = refl
