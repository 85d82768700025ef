-- The items of a text can be written, and those with other names too.
use Rattle.std.proofs.Common.{◌≡◌, ℕ, ◌+◌, ◌-◌, Bool, true, false, cond, not, List, [], ◌∷◌, ◌++◌, length, drop, map, Option, Some, None, refl, sym, ap, ◌∙◌, arith, inl, inr}
use Rattle.std.specs.Prelude.{◌||◌, ◌==◌, eqb, if◌then◌else◌, codes}
use Rattle.std.specs.List.{All, slice_split, onto_first, ends_with}
use Rattle.std.proofs.lemmas.Bool.{false≢true, eqb-true, false_from_ne_true, and_from, le-leb}
use Rattle.std.proofs.lemmas.Grind.{common_steps}
use Rattle.std.proofs.lemmas.List.{length-map}
use Rattle.std.proofs.lemmas.List.Elements.{All-nil, All-cons, All-head, All-tail, All-append, All-weaker, All-take, All-map}
use Rattle.std.proofs.lemmas.List.Splits.{length-slice_split}
use Rattle.std.proofs.lemmas.List.Sums.{AllPass-from_list_all, list_all-from_AllPass, fails_before_first}
use Rattle.bt_bib.specs.declared.aux_line.Command.{Command}
use Rattle.bt_bib.specs.declared.aux_line.Command.TheVariants.{Citation, Database, Style, Nested}
use Rattle.bt_bib.specs.declared.aux_argument.AuxFault.{AuxFault}
use Rattle.bt_bib.specs.declared.aux_argument.Parting.{Parting}
use Rattle.bt_bib.specs.declared.aux_argument.Parting.TheVariants.{Commas, Whole}
use Rattle.bt_bib.specs.declared.aux_line.AuxItem.{AuxItem}
use Rattle.bt_bib.specs.AuxArgument.{ends_argument, inside, parts_in, parts_kept, fault_of}
use Rattle.bt_bib.specs.inner.Cases.{is_comma, if_counted}
use Rattle.bt_bib.specs.AuxLine.{opening_of, command_of, parting, item, items_from}
use Rattle.bt_text.specs.White.{trimmed_end}
use Rattle.bt_job.specs.FileNames.{is_file_name_byte, with_ending, file_name_of}
use Rattle.bt_files.specs.AuxText.{part_with, item_with}
use Rattle.bt_files.specs.laws.AuxText.{is_part_byte, is_part, is_part_count, IsWritableItem, IsWritableFrom, has_name_bytes, GivesNames}
use Rattle.bt_files.proofs.laws.AuxTextLemmas.{Endless}

-- Parts that are read

endless_inside : (rest : List ℕ) → Endless (inside rest)
endless_inside rest = λ k d lt. let fails = fails_before_first ends_argument rest k d (grind (arith, common_steps)) in grind (arith, common_steps)

part_byte_from : (x y : Bool) → x ≡ false → y ≡ false → not (x || y) ≡ true
part_byte_from false false ends parts = refl
part_byte_from true y ends parts = absurd (false≢true (sym ends))
part_byte_from false true ends parts = absurd (false≢true (sym parts))

whole_part : (t : List ℕ) → Endless t → is_part Whole t ≡ true
whole_part t all = list_all-from_AllPass (is_part_byte Whole) t (All-weaker (λ b. ends_argument b ≡ false) (λ b. is_part_byte Whole b ≡ true) (λ b e. ap not e) t all)

-- whether a text is a part of those with commas between them
abbrev Part : List ℕ → Type 0
Part part = is_part Commas part ≡ true

onto_part : (x : ℕ) (parts : List (List ℕ)) → is_part_byte Commas x ≡ true → All Part parts → All Part (onto_first x parts)
onto_part x [] ok all = All-cons Part (x ∷ []) [] (and_from (is_part_byte Commas x) true ok refl) (All-nil Part)
onto_part x (p ∷ parts) ok all = All-cons Part (x ∷ p) parts (and_from (is_part_byte Commas x) (is_part Commas p) ok (All-head Part p parts all)) (All-tail Part p parts all)

split_parts : (t : List ℕ) → Endless t → All Part (slice_split is_comma t)
split_parts [] all = All-cons Part [] [] refl (All-nil Part)
split_parts (x ∷ t) all =
    by_test (is_comma x) refl (All-head (λ b. ends_argument b ≡ false) x t all) (split_parts t (All-tail (λ b. ends_argument b ≡ false) x t all))
  where
    by_test : (test : Bool) → is_comma x ≡ test → ends_argument x ≡ false → All Part (slice_split is_comma t) → All Part (cond test ([] ∷ slice_split is_comma t) (onto_first x (slice_split is_comma t)))
    by_test true is ends later = All-cons Part [] (slice_split is_comma t) refl later
    by_test false is ends later = onto_part x (slice_split is_comma t) (part_byte_from (ends_argument x) (is_comma x) ends is) later

parts_in_argument : (p : Parting) (t : List ℕ) → Endless t → All (λ part. is_part p part ≡ true) (parts_in p t)
parts_in_argument Commas t all = split_parts t all
parts_in_argument Whole t all = All-cons (λ part. is_part Whole part ≡ true) t [] (whole_part t all) (All-nil (λ part. is_part Whole part ≡ true))

kept_are_parts : (p : Parting) (fault : Option AuxFault) (parts : List (List ℕ)) → All (λ part. is_part p part ≡ true) parts → All (λ part. is_part p part ≡ true) (parts_kept fault parts)
kept_are_parts p None parts all = all
kept_are_parts p (Some fault) parts all = All-take (λ part. is_part p part ≡ true) (length parts - 1) parts all

count_read : (p : Parting) (fault : Option AuxFault) (t : List ℕ) → is_part_count p fault (length (parts_kept fault (parts_in p t))) ≡ true
count_read Commas None t = le-leb 1 (length (slice_split is_comma t)) (omega (arith, length-slice_split is_comma t))
count_read Commas (Some fault) t = refl
count_read Whole None t = refl
count_read Whole (Some fault) t = refl

-- Items that are read

item_writable : (n : ℕ) (line : List ℕ) (c : Command) → IsWritableItem (item n line c)
item_writable n line c =
    let rest = drop (length (opening_of c)) line in record {
      parts = kept_are_parts (parting c) (fault_of rest) (parts_in (parting c) (inside rest)) (parts_in_argument (parting c) (inside rest) (endless_inside rest));
      count = count_read (parting c) (fault_of rest) (inside rest);
    }

from_earlier : (n : ℕ) (items : List AuxItem) → IsWritableFrom (n + 1) items → IsWritableFrom n items
from_earlier n [] are = tt
from_earlier n (i ∷ items) are = (omega (arith, are.0), are.1, are.2)

counted_writable : (n : ℕ) (line : List ℕ) (c : Option Command) (later : List AuxItem) → IsWritableFrom (n + 1) later → IsWritableFrom n (if_counted n line later c)
counted_writable n line None later are = from_earlier n later are
counted_writable n line (Some c) later are = (omega arith, item_writable n line c, are)

pub read_is_writable : (n : ℕ) (lines : List (List ℕ)) → IsWritableFrom n (items_from n lines)
read_is_writable n [] = tt
read_is_writable n (l ∷ lines) = counted_writable n (trimmed_end l) (command_of (trimmed_end l)) (items_from (n + 1) lines) (read_is_writable (n + 1) lines)

-- Other names

differs : (b c : ℕ) → is_file_name_byte b ≡ true → is_file_name_byte c ≡ false → (b == c) ≡ false
differs b c is outside = false_from_ne_true (b == c) (λ e. false≢true (sym outside ∙ ap is_file_name_byte (sym (eqb-true b c e)) ∙ is))

name_byte : (p : Parting) (b : ℕ) → is_file_name_byte b ≡ true → is_part_byte p b ≡ true
name_byte p b is = by_parting p
  where
    ends_nothing : ends_argument b ≡ false
    ends_nothing = rw (differs b 125 is refl, differs b 9 is refl, differs b 10 is refl, differs b 13 is refl, differs b 32 is refl) refl

    by_parting : (p : Parting) → is_part_byte p b ≡ true
    by_parting Commas = part_byte_from (ends_argument b) (is_comma b) ends_nothing (differs b 44 is refl)
    by_parting Whole = ap not ends_nothing

name_is_part : (p : Parting) (name : List ℕ) → has_name_bytes name ≡ true → is_part p name ≡ true
name_is_part p name is =
    list_all-from_AllPass (is_part_byte p) name
    (All-weaker (λ b. is_file_name_byte b ≡ true) (λ b. is_part_byte p b ≡ true) (name_byte p) name (AllPass-from_list_all is_file_name_byte name is))

longer_part : (p : Parting) (name ending : List ℕ) → is_part p name ≡ true → is_part p ending ≡ true → is_part p (name ++ ending) ≡ true
longer_part p name ending is ends =
    list_all-from_AllPass (is_part_byte p) (name ++ ending)
    (All-append (λ b. is_part_byte p b ≡ true) name ending (AllPass-from_list_all (is_part_byte p) name is) (AllPass-from_list_all (is_part_byte p) ending ends))

ended_part : (p : Parting) (ending name : List ℕ) → is_part p name ≡ true → is_part p ending ≡ true → is_part p (with_ending ending name) ≡ true
ended_part p ending name is ends = by_test (ends_with eqb name ending)
  where
    by_test : (test : Bool) → is_part p (if test then name else name ++ ending) ≡ true
    by_test true = is
    by_test false = longer_part p name ending is ends

named_part : (c : Command) (part : List ℕ) → is_part (parting c) part ≡ true → is_part (parting c) (file_name_of c part) ≡ true
named_part Citation part is = is
named_part Database part is = ended_part Commas (codes ".bib") part is refl
named_part Style part is = ended_part Whole (codes ".bst") part is refl
named_part Nested part is = is

given_part : (f : List ℕ → List ℕ) → GivesNames f → (p : Parting) (name : List ℕ) → is_part p name ≡ true → is_part p (f name) ≡ true
given_part f gives p name is = elim (gives name) [ inl same ↦ ap (is_part p) same ∙ is | inr ok ↦ name_is_part p (f name) ok ]

renamed_part : (f : List ℕ → List ℕ) → GivesNames f → (c : Command) (part : List ℕ) → is_part (parting c) part ≡ true → is_part (parting c) (part_with f c part) ≡ true
renamed_part f gives Citation part is = is
renamed_part f gives Database part is = given_part f gives Commas (file_name_of Database part) (named_part Database part is)
renamed_part f gives Style part is = given_part f gives Whole (file_name_of Style part) (named_part Style part is)
renamed_part f gives Nested part is = given_part f gives Whole (file_name_of Nested part) (named_part Nested part is)

renamed_item : (f : List ℕ → List ℕ) → GivesNames f → (i : AuxItem) → IsWritableItem i → IsWritableItem (item_with f i)
renamed_item f gives i is = record {
  parts = All-map (λ part. is_part (parting i.command) part ≡ true) (part_with f i.command) i.parts
      (All-weaker (λ part. is_part (parting i.command) part ≡ true) (λ part. is_part (parting i.command) (part_with f i.command part) ≡ true) (renamed_part f gives i.command) i.parts is.parts);
  count = ap (is_part_count (parting i.command) i.fault) (length-map i.parts (part_with f i.command)) ∙ is.count;
}

pub renamed_is_writable : (f : List ℕ → List ℕ) → GivesNames f → (n : ℕ) (items : List AuxItem) → IsWritableFrom n items → IsWritableFrom n (map (item_with f) items)
renamed_is_writable f gives n [] are = tt
renamed_is_writable f gives n (i ∷ items) are = (are.0, renamed_item f gives i are.1, renamed_is_writable f gives (i.line + 1) items are.2)
