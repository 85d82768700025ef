-- The features' values have no floats.
use Rattle.std.proofs.Common.{◌≡◌, ℕ, codes, List, [], ◌∷◌, ◌++◌, length, refl, false, Option, Some, None}
use Rattle.std.specs.Prelude.{nat_lt, not, ◌||◌}
use Rattle.std.specs.List.{AllByRecursion, fold}
use Rattle.serde_json.specs.Written.{has_float}
use Rattle.serde_json.specs.Data.{Data, array}
use Rattle.serde_json.specs.View.{items_of}
use Rattle.bt_talk.specs.Handled.{HasNoFloat}
use Rattle.bt_bib.specs.BibText.{pieces_of}
use Rattle.bt_bib.specs.declared.item.Field.{Field}
use Rattle.bt_bib.specs.declared.placed_pieces.PlacedPiece.{PlacedPiece}
use Rattle.bt_positions.specs.Positions.{offset_of}
use Rattle.bt_positions.specs.declared.indexed_text.Position.{Position}
use Rattle.bt_positions.specs.declared.counting.Counting.{Counting}
use Rattle.bt_documents.specs.declared.document.Document.{Document}
use Rattle.bt_mentions.specs.Databases.{part}
use Rattle.bt_writing.specs.declared.actions.Fix.{Fix}
use Rattle.bt_writing.specs.Respelling.{with_respellings_around}
use Rattle.bt_writing.proofs.RespellingPlain.{respellings_plain}
use Rattle.bt_writing.specs.Actions.{repeated, removal_at, with_removal, fix_of, fix_at, with_fix, array_if_any, actions_in, actions_if_any}
use Rattle.bt_places.specs.Editor.{counting_in}
use Rattle.bt_places.specs.Entries.{is_style, is_database, item_around}
use Rattle.bt_answers.specs.References.{is_definition}
use Rattle.bt_style_answers.specs.declared.references.Lent.TheVariants as lent
use Rattle.bt_answers.specs.Lending.{with_lent}
use Rattle.bt_writing.specs.Finding.{type_places}
use Rattle.bt_style_text.specs.declared.marks.Mark.{Mark}
use Rattle.bt_style_text.specs.Parts as style
use Rattle.bt_style_text.specs.Marks.{marks_of}
use Rattle.bt_writing.specs.Fields.{has_field, with_field, with_read, with_fields, with_style, field_candidates}
use Rattle.bt_writing.specs.Completing.{with_macro, with_macros, macro_candidates}
use Rattle.bt_writing.specs.StyleMacros.{macro_candidate, with_style_macro, with_macros_in, with_macros_of}
use Rattle.bt_writing.specs.declared.written.Written.{Written}
use Rattle.bt_writing.specs.Written.{ordered_item}
use Rattle.bt_writing.specs.StyleNames.{is_macro, is_read, has_function, is_type}
use Rattle.bt_writing.specs.Types.{word_of, types, is_standard, with_type, with_own_type, with_types_in, with_types_of, or_standard, type_candidates}
use Rattle.bt_places.specs.Visiting.{with_files, is_any}
use Rattle.bt_places.proofs.PlainLists.{items_plain, all_both, none_or, some_or_null, either_plain, fold_plain, pushed_plain, files_plain}
use Rattle.bt_places.proofs.FeaturePlain.{picked_plain}
use Rattle.bt_answers.proofs.FeaturePlain.{lent_plain}

pub type_places_plain : (files : List (List ℕ × List ℕ)) (docs : List Document) (c : Counting) (kind : List ℕ) → has_float (type_places files docs c kind) ≡ false
type_places_plain files docs c kind =
    let add = with_lent (counting_in c docs) lent.Function kind in
    items_plain (with_files add files []) (files_plain add (lent_plain (counting_in c docs) lent.Function kind) files [] tt)

-- ---- macros

added_macros_plain : (w : Written) (list : List Data) (uri text : List ℕ) → AllByRecursion HasNoFloat list → AllByRecursion HasNoFloat (with_macros w list uri text)
added_macros_plain w list uri text p =
    picked_plain (λ u. with_macro w) (λ u t l m q. pushed_plain (is_definition m.role) (macro_candidate w (part m.from m.to t)) l refl q) list uri text p

style_macros_plain : (w : Written) (list : List Data) (uri words : List ℕ) → AllByRecursion HasNoFloat list → AllByRecursion HasNoFloat (with_macros_of w list uri words)
style_macros_plain w list uri words p =
    either_plain (is_style uri) (with_macros_in w list words) list
    (fold_plain (with_style_macro w words) (λ l m r. pushed_plain (is_macro m.role) (macro_candidate w (style.part m.start m.end words)) l refl r) (marks_of words) list p) p

pub macros_plain : (w : Written) (files : List (List ℕ × List ℕ)) → AllByRecursion HasNoFloat (macro_candidates w files)
macros_plain w files =
    files_plain (with_macros_of w) (style_macros_plain w) files (with_files (with_macros w) files []) (files_plain (with_macros w) (added_macros_plain w) files [] tt)

-- ---- fields

field_plain : (present : List Field) (w : Written) (name : List ℕ) (list : List Data) → AllByRecursion HasNoFloat list → AllByRecursion HasNoFloat (with_field present w list name)
field_plain present w name list p = all_both HasNoFloat list (ordered_item w 5 name (has_field present name) ∷ []) p (refl, tt)

all_fields_plain : (present : List Field) (w : Written) (text : List ℕ) (marks : List Mark) (list : List Data) → AllByRecursion HasNoFloat list → AllByRecursion HasNoFloat (fold (with_read present w text marks) list marks)
all_fields_plain present w text marks list p =
    fold_plain (with_read present w text marks) (λ l m r. either_plain (is_read text marks m) (with_field present w l (style.part m.start m.end text)) l
    (field_plain present w (style.part m.start m.end text) l r) r) marks list p

style_plain : (present : List Field) (w : Written) (list : List Data) (uri text : List ℕ) → AllByRecursion HasNoFloat list → AllByRecursion HasNoFloat (with_style present w list uri text)
style_plain present w list uri text p =
    either_plain (is_style uri) (with_fields present w list text) list
    (all_fields_plain present w text (marks_of text) (with_field present w list (codes "crossref")) (field_plain present w (codes "crossref") list p)) p

pub fields_plain : (files : List (List ℕ × List ℕ)) (present : List Field) (w : Written) → AllByRecursion HasNoFloat (field_candidates files present w)
fields_plain files present w = files_plain (with_style present w) (style_plain present w) files [] tt

-- ---- types

all_types_plain : (w : Written) (text : List ℕ) (marks : List Mark) (list : List Data) → AllByRecursion HasNoFloat list → AllByRecursion HasNoFloat (fold (with_type w text marks) list types)
all_types_plain w text marks list p =
    fold_plain (with_type w text marks) (λ l t r. all_both HasNoFloat l (ordered_item w 7 (word_of t) (not (has_function text marks (word_of t))) ∷ []) r (refl, tt)) types list p

own_types_plain : (w : Written) (text : List ℕ) (marks rest : List Mark) (list : List Data) → AllByRecursion HasNoFloat list → AllByRecursion HasNoFloat (fold (with_own_type w text marks) list rest)
own_types_plain w text marks rest list p =
    fold_plain (with_own_type w text marks) (λ l m r. either_plain (not (is_type text marks m) || is_standard (style.part m.start m.end text)) l
    (l ++ ordered_item w 7 (style.part m.start m.end text) false ∷ []) r (all_both HasNoFloat l (ordered_item w 7 (style.part m.start m.end text) false ∷ []) r (refl, tt))) rest list p

added_types_plain : (w : Written) (list : List Data) (uri text : List ℕ) → AllByRecursion HasNoFloat list → AllByRecursion HasNoFloat (with_types_of w list uri text)
added_types_plain w list uri text p =
    let marks = marks_of text in
    either_plain (is_style uri) (with_types_in w list text) list
    (own_types_plain w text marks marks (fold (with_type w text marks) list types) (all_types_plain w text marks list p)) p

standard_plain : (w : Written) (list : List Data) → AllByRecursion HasNoFloat list → AllByRecursion HasNoFloat (or_standard w list)
standard_plain w list p = either_plain (is_any list) list (fold (with_type w [] []) [] types) p (all_types_plain w [] [] [] tt)

pub types_plain : (w : Written) (files : List (List ℕ × List ℕ)) → AllByRecursion HasNoFloat (type_candidates w files)
types_plain w files = standard_plain w (with_files (with_types_of w) files []) (files_plain (with_types_of w) (added_types_plain w) files [] tt)

-- ---- actions

removal_plain : (d : Document) (o : Option PlacedPiece) (list : List Data) → AllByRecursion HasNoFloat list → AllByRecursion HasNoFloat (with_removal d list o)
removal_plain d None list p = p
removal_plain d (Some q) list p = all_both HasNoFloat list (removal_at d q ∷ []) p (refl, tt)

fix_plain : (d : Document) (o : Option Fix) (list : List Data) → AllByRecursion HasNoFloat list → AllByRecursion HasNoFloat (with_fix d list o)
fix_plain d None list p = p
fix_plain d (Some f) list p = all_both HasNoFloat list (fix_at d f ∷ []) p (refl, tt)

array_plain : (list : List Data) → AllByRecursion HasNoFloat list → has_float (array_if_any list) ≡ false
array_plain list p = some_or_null (is_any list) (array (items_of list)) (items_plain list p)

actions_in_plain : (d : Document) (pieces : List PlacedPiece) (place : ℕ) → has_float (actions_in d pieces place) ≡ false
actions_in_plain d pieces place =
    let around = item_around place pieces in
    let removed = with_removal d [] (repeated place pieces) in
    let fixed = with_fix d removed (fix_of d.text around) in
    array_plain (with_respellings_around d pieces fixed around)
    (respellings_plain d pieces around fixed (fix_plain d (fix_of d.text around) removed (removal_plain d (repeated place pieces) [] tt)))

pub actions_plain : (d : Document) (o : Option Position) → has_float (actions_if_any d o) ≡ false
actions_plain d None = refl
actions_plain d (Some at) =
    none_or (not (is_database d.name) || nat_lt 1073741824 (length d.text)) (actions_in d (pieces_of d.text) (offset_of d.counting at d.text))
    (actions_in_plain d (pieces_of d.text) (offset_of d.counting at d.text))
