-- What the desk says has no floats, and its notes are no answers.
use Rattle.std.proofs.Common.{◌≡◌, ℕ, List, [], ◌∷◌, length, refl, false, ◌||◌, Option, Some, None}
use Rattle.std.specs.Prelude.{not, nat_lt}
use Rattle.serde_json.specs.Written.{has_float}
use Rattle.serde_json.specs.Data.{Data, null, boolean, number, string, array, object}
use Rattle.bt_bib.specs.BibText.{pieces_of}
use Rattle.bt_positions.specs.declared.counting.Counting.{Counting}
use Rattle.bt_positions.specs.declared.indexed_text.Position.{Position}
use Rattle.bt_documents.specs.declared.document.Document.{Document}
use Rattle.bt_places.specs.Shapes.{range_of, location}
use Rattle.bt_places.specs.Editor.{counting_in}
use Rattle.bt_places.specs.Entries.{is_database}
use Rattle.bt_places.specs.Hover.{word_of}
use Rattle.bt_places.proofs.PlainLists.{none_or}
use Rattle.bt_places.proofs.FeaturePlain.{OptionIsPlain}
use Rattle.bt_writing.proofs.FeaturePlain.{type_places_plain}
use Rattle.bt_writing.specs.Finding.{place_in, location_in, or_else, found_in, type_at, typed_or_found}
use Rattle.bt_places.proofs.PlainLemmas.{found_plain}

location_in_plain : (c : Counting) (key uri words : List ℕ) → has_float (location_in c key uri words) ≡ false
location_in_plain c key uri words =
    none_or (not (is_database uri) || nat_lt 1073741824 (length words))
    (elim (place_in key (pieces_of words)) [ None ↦ null | Some place ↦ location uri (range_of c words place place) ])
    (found_plain (place_in key (pieces_of words)) (λ place. location uri (range_of c words place place)) (λ n. refl))

or_else_plain : (d e : Data) → has_float d ≡ false → has_float e ≡ false → has_float (or_else d e) ≡ false
or_else_plain null e p q = q
or_else_plain (boolean b) e p q = p
or_else_plain (number n) e p q = p
or_else_plain (string s) e p q = p
or_else_plain (array ds) e p q = p
or_else_plain (object ms) e p q = p

found_in_plain : (units : List ℕ → Counting) (key : List ℕ) (fs : List (List ℕ × List ℕ)) → has_float (found_in units key fs) ≡ false
found_in_plain units key [] = refl
found_in_plain units key (f ∷ fs) = or_else_plain (location_in (units f.0) key f.0 f.1) _ (location_in_plain (units f.0) key f.0 f.1) (found_in_plain units key fs)

typed_plain : (files : List (List ℕ × List ℕ)) (docs : List Document) (c : Counting) (d : Document) (at : Position) (kind : List ℕ) → has_float (typed_or_found files docs c d at kind) ≡ false
typed_plain files docs c d at [] = found_in_plain (counting_in c docs) (word_of d at) files
typed_plain files docs c d at (b ∷ kind) = type_places_plain files docs c (b ∷ kind)

pub definition_plain : (files : List (List ℕ × List ℕ)) (docs : List Document) (c : Counting) (d : Document) (at : Position) (o : Option Data) → OptionIsPlain o →
    has_float (elim o [ None ↦ typed_or_found files docs c d at (type_at d at) | Some v ↦ v ]) ≡ false
definition_plain files docs c d at None p = typed_plain files docs c d at (type_at d at)
definition_plain files docs c d at (Some v) p = p
