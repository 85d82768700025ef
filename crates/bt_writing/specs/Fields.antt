-- Completes the fields of an entry.
use Rattle.std.specs.Prelude.{ℕ, Bool, if◌then◌else◌, List, [], ◌∷◌, ◌++◌, codes}
use Rattle.std.specs.List.{list_any, fold}
use Rattle.serde_json.specs.Data.{Data}
use Rattle.bt_text.specs.CaseFolding.{is_same_folded}
use Rattle.bt_bib.specs.declared.item.Field.{Field}
use Rattle.bt_style_text.specs.declared.marks.Mark.{Mark}
use Rattle.bt_style_text.specs.Parts.{part}
use Rattle.bt_style_text.specs.Marks.{marks_of}
use Rattle.bt_places.specs.Entries.{is_style}
use Rattle.bt_places.specs.Visiting.{with_files}
use Rattle.bt_writing.specs.declared.written.Written.{Written}
use Rattle.bt_writing.specs.Written.{ordered_item}
use Rattle.bt_writing.specs.StyleNames.{is_read}

-- whether a field is present
abbrev pub has_field : List Field → List ℕ → Bool
has_field present name = list_any (λ (f : Field). is_same_folded f.name name) present

-- a list with what is offered for a field; missing ones come first
abbrev pub with_field : List Field → Written → List Data → List ℕ → List Data
with_field present w list name = list ++ ordered_item w 5 name (has_field present name) ∷ []

-- a list with what is offered for a field, if a style declares it here and reads it
abbrev pub with_read : List Field → Written → List ℕ → List Mark → List Data → Mark → List Data
with_read present w text marks list mark =
    if is_read text marks mark then with_field present w list (part mark.start mark.end text) else list

-- a list with what is offered for the fields of a style: `crossref`, which BibTeX reads itself, and those that the style reads
abbrev pub with_fields : List Field → Written → List Data → List ℕ → List Data
with_fields present w list text =
    let marks = marks_of text in
    fold (with_read present w text marks) (with_field present w list (codes "crossref")) marks

-- a list with what is offered for the fields of a file, if it is a style
abbrev pub with_style : List Field → Written → List Data → List ℕ → List ℕ → List Data
with_style present w list uri text = if is_style uri then with_fields present w list text else list

-- what is offered to an entry that has these fields
abbrev pub field_candidates : List (List ℕ × List ℕ) → List Field → Written → List Data
field_candidates files present w = with_files (with_style present w) files []
