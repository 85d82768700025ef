-- The features' values have no floats.
use Rattle.std.proofs.Common.{◌≡◌, ℕ, min, codes, List, [], ◌∷◌, ◌++◌, length, refl, Bool, false, if◌then◌else◌, Option, Some, None, Ok, Err}
use Rattle.std.specs.Prelude.{nat_lt, not, ◌&&◌, ◌||◌, filter_map, bytes_eq}
use Rattle.std.specs.List.{AllByRecursion, fold, list_all}
use Rattle.serde_json.specs.Written.{has_float}
use Rattle.serde_json.specs.Data.{Data, null, array}
use Rattle.serde_json.specs.View.{items_of}
use Rattle.bt_rpc.specs.declared.answers.RpcError.TheVariants.{BadName, TakenName, UndefinedMacro, InexactRename}
use Rattle.bt_talk.specs.Handled.{HasNoFloat}
use Rattle.bt_bib.specs.BibText.{pieces_of}
use Rattle.bt_bib.specs.declared.placed_pieces.PlacedPiece.{PlacedPiece}
use Rattle.bt_positions.specs.Positions.{position_of}
use Rattle.bt_positions.specs.declared.counting.Counting.{Counting}
use Rattle.bt_documents.specs.declared.document.Document.{Document}
use Rattle.bt_mentions.specs.declared.mention.Mention.{Mention}
use Rattle.bt_mentions.specs.Databases.{part}
use Rattle.bt_answers.specs.declared.references.Wanted.{Wanted}
use Rattle.bt_answers.specs.declared.references.Wanted.TheVariants.{Definitions}
use Rattle.bt_answers.specs.declared.hints.Names.TheVariants.{Entries, Asked}
use Rattle.bt_answers.specs.Hints.{is_small, names_in, missing_hint, unused_hint, is_missing_at, is_unused_at, with_missing, with_unused, asks_all, with_missing_among, with_missing_if_any, with_all_missing, with_unused_beside, with_unused_if_any, with_all_unused, with_hints}
use Rattle.bt_log.specs.declared.message.Message.{Message}
use Rattle.bt_places.specs.Shown.{Shown}
use Rattle.bt_answers.specs.Faults.{faulty_file, any_fault, linked_name, fault_words, fault_value, with_fault, with_faults_at, with_faults}
use Rattle.bt_places.specs.Editor.{counting_in}
use Rattle.bt_places.specs.Entries.{is_style, is_tex, is_database}
use Rattle.bt_mentions.specs.declared.linking.Link.{Link}
use Rattle.bt_mentions.specs.declared.linking.LinkKind.{LinkKind}
use Rattle.bt_mentions.specs.declared.linking.LinkKind.TheVariants.{Database, Style}
use Rattle.bt_mentions.specs.Links.{links}
use Rattle.bt_answers.specs.Links.{full_name, is_plain_byte, folder, folder_before, ends_with, link_to, with_link_to, with_file, with_named, with_kind, with_link, links_of}
use Rattle.bt_edited.specs.declared.edits.Edit.{Edit}
use Rattle.bt_edited.specs.declared.changes.Change.TheVariants.{Nothing}
use Rattle.bt_edited.specs.Edits.{text_after_edits}
use Rattle.bt_edited.specs.Becomes.{is_made}
use Rattle.bt_answers.specs.EditValues.{edit_value, edit_values}
use Rattle.bt_answers.specs.Formatting.{layout_edits, if_kept, format_edits}
use Rattle.bt_answers.specs.Folding.{fold_of, folds_in, folds_of}
use Rattle.bt_shapes.proofs.PlainLists.{all_mapped, more_plain, fold_between_plain}
use Rattle.bt_places.specs.Mentioning.{is_key}
use Rattle.bt_answers.specs.References.{is_mention, wanted_of, with_reference, with_references, all_references, asked_of, references, references_of, macro_places, macro_of}
use Rattle.bt_style_answers.specs.declared.references.Lent.{Lent}
use Rattle.bt_style_answers.specs.declared.references.Lent.TheVariants as lent
use Rattle.bt_style_answers.specs.References.{with_declaration}
use Rattle.bt_style_answers.proofs.PlainLemmas.{declaration_plain}
use Rattle.bt_answers.specs.Lending.{with_lent}
use Rattle.bt_answers.specs.Renaming.{file_edit, with_file_edit, with_renamed, name_edits, are_renamed, can_be_named, is_free, is_defined, is_named, rename_edit, renamed_if_free, renamed_of, range_if_defined, mention_range}
use Rattle.bt_answers.specs.Symbols.{query_of, is_symbol, symbol_at, with_symbol, with_symbols, symbols}
use Rattle.bt_places.specs.Shapes.{location, range_of}
use Rattle.bt_places.specs.Visiting.{with_files, with_texts, is_any}
use Rattle.bt_places.proofs.PlainLists.{IsPlainData, either_outcome, items_plain, all_both, none_or, either_plain, fold_plain, pushed_plain, files_plain, texts_plain}
use Rattle.bt_places.proofs.CompletingPlain.{one_plain}
use Rattle.bt_places.proofs.FeaturePlain.{OptionIsPlain, picked_plain, unless_plain}

-- ---- references

added_references_plain : (units : List ℕ → Counting) (wanted : Wanted) (name : List ℕ) (list : List Data) (uri text : List ℕ) → AllByRecursion HasNoFloat list →
    AllByRecursion HasNoFloat (with_references units wanted name list uri text)
added_references_plain units wanted name list uri text p =
    picked_plain (with_reference units wanted name) (λ u t l m q. pushed_plain (is_mention wanted name t m) (location u (range_of (units u) t m.from m.to)) l refl q) list uri text p

all_references_plain : (files : List (List ℕ × List ℕ)) (docs : List Document) (c : Counting) (wanted : Wanted) (name : List ℕ) → AllByRecursion HasNoFloat (all_references files docs c wanted name)
all_references_plain files docs c wanted name =
    let add = with_references (counting_in c docs) wanted name in
    let step = added_references_plain (counting_in c docs) wanted name in
    texts_plain add step docs (with_files add files []) (files_plain add step files [] tt)

found_references_plain : (files : List (List ℕ × List ℕ)) (docs : List Document) (c : Counting) (wanted : Wanted) (name : List ℕ) → has_float (references files docs c wanted name) ≡ false
found_references_plain files docs c wanted name = items_plain (all_references files docs c wanted name) (all_references_plain files docs c wanted name)

pub lent_plain : (units : List ℕ → Counting) (lent : Lent) (name : List ℕ) (list : List Data) (uri words : List ℕ) → AllByRecursion HasNoFloat list → AllByRecursion HasNoFloat (with_lent units lent name list uri words)
lent_plain units lent name list uri words p =
    either_plain (not (is_style uri) || nat_lt 1073741824 (length words)) list (with_declaration (units uri) uri words lent name list) p (declaration_plain (units uri) uri words lent name list p)

macro_places_plain : (files : List (List ℕ × List ℕ)) (docs : List Document) (c : Counting) (name : List ℕ) → has_float (macro_places files docs c name) ≡ false
macro_places_plain files docs c name =
    let defined = all_references files docs c Definitions name in
    let add = with_lent (counting_in c docs) lent.Macro name in
    items_plain (with_files add files defined) (files_plain add (lent_plain (counting_in c docs) lent.Macro name) files defined (all_references_plain files docs c Definitions name))

pub references_plain : (files : List (List ℕ × List ℕ)) (docs : List Document) (c : Counting) (d : Document) (declared : Bool) (o : Option Mention) → has_float (references_of files docs c d declared o) ≡ false
references_plain files docs c d declared None = refl
references_plain files docs c d declared (Some m) = found_references_plain files docs c (asked_of m.role declared) (part m.from m.to d.text)

pub macro_plain : (files : List (List ℕ × List ℕ)) (docs : List Document) (c : Counting) (d : Document) (o : Option Mention) → OptionIsPlain (macro_of files docs c d o)
macro_plain files docs c d None = tt
macro_plain files docs c d (Some m) =
    unless_plain (is_key m.role) (macro_places files docs c (part m.from m.to d.text)) (macro_places_plain files docs c (part m.from m.to d.text))

-- ---- renaming

edits_plain : (list : List Data) (uri : List ℕ) (edits : List Data) → AllByRecursion HasNoFloat list → AllByRecursion HasNoFloat edits → AllByRecursion HasNoFloat (with_file_edit list uri edits)
edits_plain list uri edits p q = pushed_plain (is_any edits) (file_edit uri edits) list (rw (items_plain edits q) refl) p

added_edits_plain : (units : List ℕ → Counting) (wanted : Wanted) (old new : List ℕ) (list : List Data) (uri text : List ℕ) → AllByRecursion HasNoFloat list →
    AllByRecursion HasNoFloat (with_renamed units wanted old new list uri text)
added_edits_plain units wanted old new list uri text p =
    (let edits = name_edits units wanted old new uri text in edits_plain list uri (edit_values edits) p (all_mapped edit_value (λ e. refl) edits))

all_edits_plain : (files : List (List ℕ × List ℕ)) (docs : List Document) (c : Counting) (wanted : Wanted) (old new : List ℕ) → has_float (rename_edit files docs c wanted old new) ≡ false
all_edits_plain files docs c wanted old new =
    let add = with_renamed (counting_in c docs) wanted old new in
    let step = added_edits_plain (counting_in c docs) wanted old new in
    rw (items_plain (with_texts add docs (with_files add files [])) (texts_plain add step docs (with_files add files []) (files_plain add step files [] tt))) refl

free_plain : (files : List (List ℕ × List ℕ)) (docs : List Document) (c : Counting) (wanted : Wanted) (old new : List ℕ) → IsPlainData (renamed_if_free files docs c wanted old new)
free_plain files docs c wanted old new =
    let all = rename_edit files docs c wanted old new in
    let exact = if not (are_renamed files docs c wanted old new) then Err InexactRename else Ok all in
    let defined = if not (is_defined files docs c wanted old) then Err UndefinedMacro else exact in
    let free = if not (is_free files docs c wanted old new) then Err TakenName else defined in
    either_outcome (not (can_be_named wanted new)) (Err BadName) free tt
    (either_outcome (not (is_free files docs c wanted old new)) (Err TakenName) defined tt
    (either_outcome (not (is_defined files docs c wanted old)) (Err UndefinedMacro) exact tt
    (either_outcome (not (are_renamed files docs c wanted old new)) (Err InexactRename) (Ok all) tt (all_edits_plain files docs c wanted old new))))

pub renamed_plain : (files : List (List ℕ × List ℕ)) (docs : List Document) (c : Counting) (d : Document) (o : Option Mention) (new : Option (List ℕ)) → IsPlainData (renamed_of files docs c d o new)
renamed_plain files docs c d o None = tt
renamed_plain files docs c d None (Some new) = refl
renamed_plain files docs c d (Some m) (Some new) =
    let old = part m.from m.to d.text in
    either_outcome (is_named d.text m) (renamed_if_free files docs c (wanted_of m.role) old new) (Ok null) (free_plain files docs c (wanted_of m.role) old new) refl

pub range_plain : (files : List (List ℕ × List ℕ)) (docs : List Document) (c : Counting) (d : Document) (o : Option Mention) → IsPlainData (mention_range files docs c d o)
range_plain files docs c d None = refl
range_plain files docs c d (Some m) =
    either_outcome (is_named d.text m) (range_if_defined files docs c d m) (Ok null)
    (either_outcome (is_defined files docs c (wanted_of m.role) (part m.from m.to d.text)) (Ok (range_of d.counting d.text m.from m.to)) (Err UndefinedMacro) refl tt) refl

-- ---- symbols of all databases

added_symbols_plain : (units : List ℕ → Counting) (query : List ℕ) (list : List Data) (uri text : List ℕ) → AllByRecursion HasNoFloat list → AllByRecursion HasNoFloat (with_symbols units query list uri text)
added_symbols_plain units query list uri text p =
    picked_plain (with_symbol units query) (λ u t l m q. pushed_plain (is_symbol query t m) (symbol_at (units u) u t m) l refl q) list uri text p

pub found_symbols_plain : (files : List (List ℕ × List ℕ)) (docs : List Document) (c : Counting) (m : Data) → has_float (symbols files docs c m) ≡ false
found_symbols_plain files docs c m =
    let add = with_symbols (counting_in c docs) (query_of m) in
    items_plain (with_files add files []) (files_plain add (added_symbols_plain (counting_in c docs) (query_of m)) files [] tt)

-- ---- folding

folds_in_plain : (c : Counting) (words : List ℕ) (ps : List PlacedPiece) → AllByRecursion HasNoFloat (filter_map (fold_of c words) ps)
folds_in_plain c words [] = tt
folds_in_plain c words (p ∷ ps) =
    more_plain (fold_of c words p) _ (fold_between_plain (position_of c (min p.start.place (length words)) words).line (position_of c (min p.end.place (length words)) words).line)
    (folds_in_plain c words ps)

pub folds_plain : (d : Document) → has_float (folds_of d) ≡ false
folds_plain d =
    none_or (not (is_database d.name) || nat_lt 1073741824 (length d.text)) (array (items_of (folds_in d.counting d.text (pieces_of d.text))))
    (items_plain (folds_in d.counting d.text (pieces_of d.text)) (folds_in_plain d.counting d.text (pieces_of d.text)))

-- ---- layout

kept_plain : (d : Document) (ps : List PlacedPiece) (es : List Edit) → has_float (if_kept d ps es) ≡ false
kept_plain d ps es =
    one_plain (is_made Nothing ps (text_after_edits d.counting es d.text)) (array (items_of (edit_values es))) null (items_plain (edit_values es) (all_mapped edit_value (λ e. refl) es)) refl

pub format_edits_plain : (d : Document) (m : Data) → has_float (format_edits d m) ≡ false
format_edits_plain d m =
    none_or (not (is_database d.name) || nat_lt 1073741824 (length d.text)) (if_kept d (pieces_of d.text) (layout_edits d m)) (kept_plain d (pieces_of d.text) (layout_edits d m))

-- ---- hints

among_plain : (known : List (List ℕ)) (d : Document) (list : List Data) → AllByRecursion HasNoFloat list → AllByRecursion HasNoFloat (with_missing_among known d list)
among_plain known d list p =
    picked_plain (λ u. with_missing d.counting known)
    (λ u t l m q. pushed_plain (is_missing_at known t m) (missing_hint (range_of d.counting t m.from m.to)) l refl q) list d.name d.text p

missing_plain : (known : List (List ℕ)) (d : Document) (list : List Data) → AllByRecursion HasNoFloat list → AllByRecursion HasNoFloat (with_missing_if_any known d list)
missing_plain [] d list p = p
missing_plain (k ∷ known) d list p = among_plain (k ∷ known) d list p

beside_plain : (asked : List (List ℕ)) (d : Document) (list : List Data) → AllByRecursion HasNoFloat list → AllByRecursion HasNoFloat (with_unused_beside asked d list)
beside_plain asked d list p =
    picked_plain (λ u. with_unused d.counting asked)
    (λ u t l m q. pushed_plain (is_unused_at asked t m) (unused_hint (range_of d.counting t m.from m.to)) l refl q) list d.name d.text p

unused_plain : (asked : List (List ℕ)) (d : Document) (list : List Data) → AllByRecursion HasNoFloat list → AllByRecursion HasNoFloat (with_unused_if_any asked d list)
unused_plain asked d list p = either_plain (asks_all asked) list (with_unused_beside asked d list) p (beside_plain asked d list p)

pub hints_plain : (files : List (List ℕ × List ℕ)) (d : Document) (list : List Data) → AllByRecursion HasNoFloat list → AllByRecursion HasNoFloat (with_hints files d list)
hints_plain files d list p =
    let database = if is_database d.name && d.in_step then with_all_unused files d list else list in
    either_plain (is_small files) (if is_tex d.name then with_all_missing files d list else database) list
    (either_plain (is_tex d.name) (with_all_missing files d list) database (missing_plain (names_in Entries files) d list p)
    (either_plain (is_database d.name && d.in_step) (with_all_unused files d list) list (unused_plain (names_in Asked files) d list p) p)) p

-- ---- links

link_to_plain : (d : Document) (l : Link) (list : List Data) (target : List ℕ) → AllByRecursion HasNoFloat list → AllByRecursion HasNoFloat (with_link_to d l list target)
link_to_plain d l list target p =
    either_plain (nat_lt 1073741824 (length d.text)) list (list ++ link_to d l target ∷ []) p (all_both HasNoFloat list (link_to d l target ∷ []) p (refl, tt))

file_plain : (d : Document) (l : Link) (suffix : List ℕ) (list : List Data) (uri words : List ℕ) → AllByRecursion HasNoFloat list → AllByRecursion HasNoFloat (with_file d l suffix list uri words)
file_plain d l suffix list uri words p = either_plain (ends_with suffix uri) (with_link_to d l list uri) list (link_to_plain d l list uri p) p

named_plain : (files : List (List ℕ × List ℕ)) (d : Document) (l : Link) (list : List Data) (name : List ℕ) → AllByRecursion HasNoFloat list → AllByRecursion HasNoFloat (with_named files d l list name)
named_plain files d l list name p =
    files_plain (with_file d l (full_name (codes "/") l.kind name)) (file_plain d l (full_name (codes "/") l.kind name)) files list p

kind_plain : (files : List (List ℕ × List ℕ)) (d : Document) (l : Link) (kind : LinkKind) (list : List Data) (name : List ℕ) → AllByRecursion HasNoFloat list →
    AllByRecursion HasNoFloat (with_kind files d l kind list name)
kind_plain files d l Database list name p = named_plain files d l list name p
kind_plain files d l Style list name p = named_plain files d l list name p
kind_plain files d l Chapter list name p = link_to_plain d l list (full_name (folder_before (folder d.name) name) l.kind name) p

link_plain : (files : List (List ℕ × List ℕ)) (d : Document) (list : List Data) (l : Link) → AllByRecursion HasNoFloat list → AllByRecursion HasNoFloat (with_link files d list l)
link_plain files d list l p =
    let name = part l.from l.to d.text in
    either_plain (list_all is_plain_byte name) (with_kind files d l l.kind list name) list (kind_plain files d l l.kind list name p) p

pub links_plain : (files : List (List ℕ × List ℕ)) (d : Document) → has_float (links_of files d) ≡ false
links_plain files d =
    none_or (is_database d.name || is_style d.name) (array (items_of (fold (with_link files d) [] (links d.text))))
    (items_plain (fold (with_link files d) [] (links d.text)) (fold_plain (with_link files d) (link_plain files d) (links d.text) [] tt))

-- ---- errors about files

fault_plain : (count : ℕ) (d : Document) (l : Link) (name : List ℕ) (list : List Data) (m : Message) → AllByRecursion HasNoFloat list → AllByRecursion HasNoFloat (with_fault count d l name list m)
fault_plain count d l name list m p = pushed_plain (bytes_eq (faulty_file m) name) (fault_value (range_of d.counting d.text l.from l.to) (fault_words count m.said)) list refl p

faults_at_plain : (shown : Shown) (d : Document) (list : List Data) (l : Link) → AllByRecursion HasNoFloat list → AllByRecursion HasNoFloat (with_faults_at shown d list l)
faults_at_plain shown d list l p =
    let count = length shown.files in
    fold_plain (with_fault count d l (linked_name d.text l)) (fault_plain count d l (linked_name d.text l)) shown.messages list p

pub faults_plain : (shown : Shown) (d : Document) (list : List Data) → AllByRecursion HasNoFloat list → AllByRecursion HasNoFloat (with_faults shown d list)
faults_plain shown d list p =
    either_plain (not (is_tex d.name) || not (any_fault shown.messages) || nat_lt 1073741824 (length d.text)) list (fold (with_faults_at shown d) list (links d.text)) p
    (fold_plain (with_faults_at shown d) (faults_at_plain shown d) (links d.text) list p)
