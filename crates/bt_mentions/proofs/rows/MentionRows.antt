-- The mentions of literal texts.
use Rattle.std.specs.Prelude.{◌≡◌, ℕ, true, false, List, [], ◌∷◌, map, codes, refl}
use Rattle.bt_bib.specs.Scan.{sign}
use Rattle.bt_bib.specs.Enclosure.{enclosed}
use Rattle.bt_bib.specs.Names.{word, name_ended, name}
use Rattle.bt_bib.specs.Many.{many}
use Rattle.bt_bib.specs.Values.{part, next_part, value}
use Rattle.bt_bib.specs.Fields.{field, next_field}
use Rattle.bt_bib.specs.Pieces.{opening, piece, next_piece}
use Rattle.bt_bib.specs.BibText.{pieces_of}
use Rattle.bt_mentions.specs.declared.mention.Role.{Role}
use Rattle.bt_mentions.specs.declared.mention.Role.TheVariants.{Key, Crossref, Number, Citation, Definition, Macro}
use Rattle.bt_mentions.specs.declared.mention.Mention.{Mention}
use Rattle.bt_mentions.specs.Databases.{mentions}
use Rattle.bt_mentions.specs.Scan.{citations}

abbrev found : ℕ → ℕ → Role → Mention
found from to role = record { from = from; to = to; role = role }

-- the whole value in braces is the key, without the white space around it
braced : mentions (codes "@a{b, crossref = { s(1) \"%c }}") ≡ found 3 4 Key ∷ found 19 27 Crossref ∷ []
unfolding sign enclosed word name_ended name many part next_part value field next_field opening piece next_piece pieces_of
braced = refl

quoted : mentions (codes "@a(b, CrossRef = \"a,{b}c\" )") ≡ found 3 4 Key ∷ found 18 24 Crossref ∷ []
unfolding sign enclosed word name_ended name many part next_part value field next_field opening piece next_piece pieces_of
quoted = refl

empty : mentions (codes "@a{b, crossref = { }, c = {d}}") ≡ found 3 4 Key ∷ []
unfolding sign enclosed word name_ended name many part next_part value field next_field opening piece next_piece pieces_of
empty = refl

unclosed : mentions (codes "@a{b, crossref = {c d") ≡ found 3 4 Key ∷ []
unfolding sign enclosed word name_ended name many part next_part value field next_field opening piece next_piece pieces_of
unclosed = refl

number : mentions (codes "@a{b, crossref = 1990 , year = 1991}") ≡ found 3 4 Key ∷ found 17 21 Number ∷ found 31 35 Macro ∷ []
unfolding sign enclosed word name_ended name many part next_part value field next_field opening piece next_piece pieces_of
number = refl

-- a value of several parts is no key
joined : mentions (codes "@a{b, crossref = {c} # \"d\", crossref = 1 # e # 2, crossref = e # {f}}") ≡ found 3 4 Key ∷ found 43 44 Macro ∷ found 47 48 Macro ∷ found 61 62 Macro ∷ []
unfolding sign enclosed word name_ended name many part next_part value field next_field opening piece next_piece pieces_of
joined = refl

cited : citations false (codes "\\citation{s(1), a%b,\"c}") ≡ found 10 14 Citation ∷ found 16 19 Citation ∷ found 20 22 Citation ∷ []
cited = refl

cited_in_latex : citations true (codes "\\cite{s(1),%\n{a}b}") ≡ found 6 10 Citation ∷ found 14 15 Citation ∷ []
cited_in_latex = refl
