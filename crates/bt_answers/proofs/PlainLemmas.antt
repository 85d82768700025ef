-- What the desk says has no floats, and its notes are no answers.
use Rattle.std.proofs.Common.{◌≡◌, ℕ, List, [], ◌∷◌, map, length, refl, Bool, false, ◌||◌, Option, Some, None}
use Rattle.std.specs.Prelude.{filter_map, not, nat_lt, is_some}
use Rattle.std.specs.List.{AllByRecursion, cons_option}
use Rattle.serde_json.specs.Written.{has_float}
use Rattle.serde_json.specs.Data.{array}
use Rattle.serde_json.specs.View.{items_of}
use Rattle.bt_bib.specs.BibText.{pieces_of}
use Rattle.bt_bib.specs.declared.placed_pieces.PlacedPiece.{PlacedPiece}
use Rattle.bt_positions.specs.declared.counting.Counting.{Counting}
use Rattle.bt_talk.specs.Handled.{HasNoFloat}
use Rattle.bt_documents.specs.declared.document.Document.{Document}
use Rattle.bt_diagnostics.specs.declared.diagnostic.Diagnostic.{Diagnostic}
use Rattle.bt_remarks.specs.declared.lens.Origin.{Origin}
use Rattle.bt_remarks.specs.declared.lens.FileLine.{FileLine}
use Rattle.bt_answers.specs.Lensing.{line_or_null, origin_value}
use Rattle.bt_places.specs.Shapes.{diagnostic}
use Rattle.bt_answers.specs.Related.{diagnostic_from, place_of_entry, begins_before, related_in, related_value, diagnostics_in}
use Rattle.bt_positions.specs.Positions.{offset_of}
use Rattle.bt_places.specs.Shown.{Shown}
use Rattle.bt_places.specs.Hover.{key_at, trimmed_start, hover_at}
use Rattle.serde_json.specs.Find.{as_null}
use Rattle.bt_positions.specs.declared.indexed_text.Position.{Position}
use Rattle.bt_answers.specs.Uncited.{is_uncited, uncited_hover, uncited_of, uncited_at, hovered_at}
use Rattle.bt_places.specs.Entries.{name_of, symbol_kind, is_database, item_around}
use Rattle.bt_shapes.proofs.PlainLists.{all_mapped}
use Rattle.bt_places.proofs.PlainLists.{items_plain, none_or, some_or_null, either_plain}
use Rattle.bt_places.proofs.CompletingPlain.{one_plain}
use Rattle.bt_answers.specs.Outline.{symbol_at, symbol_of, symbols_in, symbols_of}
use Rattle.bt_shapes.proofs.PlainLists.{more_plain}
use Rattle.bt_places.proofs.PlainLemmas.{diagnostics_plain, hover_lines_plain}

related_in_plain : (d : Document) (f : Diagnostic) (p : Option PlacedPiece) → has_float (related_in d f p) ≡ false
related_in_plain d f None = refl
related_in_plain d f (Some p) = one_plain (begins_before d f p) (diagnostic_from f (place_of_entry d p)) (diagnostic f) refl refl

pub diagnostics_in_plain : (relates : Bool) (d : Document) (fs : List Diagnostic) → AllByRecursion HasNoFloat (diagnostics_in relates d fs)
diagnostics_in_plain relates d [] = tt
diagnostics_in_plain relates d (f ∷ fs) =
    either_plain (not relates || not (is_database d.name) || nat_lt 1073741824 (length d.text)) (map diagnostic (f ∷ fs)) (map (related_value d (pieces_of d.text)) (f ∷ fs))
    (diagnostics_plain (f ∷ fs)) (all_mapped (related_value d (pieces_of d.text)) (λ x. related_in_plain d x (item_around (offset_of d.counting x.from d.text) (pieces_of d.text))) (f ∷ fs))

symbol_plain : (c : Counting) (words : List ℕ) (kind from to : ℕ) (name : List ℕ) → AllByRecursion HasNoFloat (cons_option (symbol_at c words kind from to name) [])
symbol_plain c words kind from to [] = tt
symbol_plain c words kind from to (b ∷ name) = (refl, tt)

symbols_in_plain : (c : Counting) (words : List ℕ) (ps : List PlacedPiece) → AllByRecursion HasNoFloat (filter_map (symbol_of c words) ps)
symbols_in_plain c words [] = tt
symbols_in_plain c words (p ∷ ps) =
    more_plain (symbol_of c words p) _ (symbol_plain c words (symbol_kind p.piece) p.start.place p.end.place (name_of p.piece)) (symbols_in_plain c words ps)

pub symbols_plain : (d : Document) → has_float (symbols_of d) ≡ false
symbols_plain d =
    none_or (not (is_database d.name) || nat_lt 1073741824 (length d.text)) (array (items_of (symbols_in d.counting d.text (pieces_of d.text))))
    (items_plain (symbols_in d.counting d.text (pieces_of d.text)) (symbols_in_plain d.counting d.text (pieces_of d.text)))

line_plain : (at : Option FileLine) → has_float (line_or_null at) ≡ false
line_plain None = refl
line_plain (Some at) = refl

pub origin_plain : (origin : Option Origin) → has_float (origin_value origin) ≡ false
origin_plain None = refl
origin_plain (Some origin) = rw (line_plain origin.field) (rw (line_plain origin.word) refl)

-- ---- hovers

uncited_plain : (files : List (List ℕ × List ℕ)) (plain : Bool) (d : Document) (at : Position) → has_float (uncited_at files plain d at) ≡ false
uncited_plain files plain d at =
    let key = key_at d at in
    none_or (not (is_database d.name) || not d.in_step) (uncited_of files plain key) (some_or_null (is_uncited files key) (uncited_hover plain key) refl)

pub hovered_plain : (shown : Shown) (plain : Bool) (d : Document) (at : Position) → has_float (hovered_at shown plain d at) ≡ false
hovered_plain shown plain d at =
    let lines = hover_at shown.entry_text plain d at in
    one_plain (is_some (as_null lines)) (uncited_at shown.files plain d at) lines (uncited_plain shown.files plain d at)
    (hover_lines_plain plain (trimmed_start (shown.entry_text (key_at d at))))
