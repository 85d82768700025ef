-- What completions offer has no floats.
use Rattle.std.proofs.Common.{◌≡◌, ℕ, codes, List, [], ◌∷◌, take, length, refl, false, if◌then◌else◌, Option}
use Rattle.std.specs.Prelude.{nat_lt}
use Rattle.std.specs.List.{AllByRecursion}
use Rattle.serde_json.specs.Written.{has_float}
use Rattle.serde_json.specs.Data.{array}
use Rattle.serde_json.specs.View.{items_of}
use Rattle.bt_talk.specs.Handled.{HasNoFloat}
use Rattle.bt_bib.specs.BibText.{pieces_of}
use Rattle.bt_bib.specs.declared.item.Field.{Field}
use Rattle.bt_bib.specs.declared.placed_pieces.PlacedPiece.{PlacedPiece}
use Rattle.bt_positions.specs.Positions.{offset_of}
use Rattle.bt_positions.specs.declared.indexed_text.Position.{Position}
use Rattle.bt_documents.specs.declared.document.Document.{Document}
use Rattle.bt_mentions.specs.Databases.{part}
use Rattle.bt_places.specs.Entries.{key_of, kind_of, field_of, item_around, is_database}
use Rattle.bt_places.specs.Hover.{keys_at_end}
use Rattle.bt_writing.specs.declared.written.Written.{Written}
use Rattle.bt_writing.specs.Written.{written_len, written_at}
use Rattle.bt_writing.specs.Citing.{candidate_if_any, candidates_of, candidates_from, candidates_in, cites, citation_at}
use Rattle.bt_writing.specs.declared.completing.Offer.{Offer}
use Rattle.bt_writing.specs.declared.completing.Offer.TheVariants.{Nothing, Types, Fields, Keys, Macros}
use Rattle.bt_writing.specs.Fields.{field_candidates}
use Rattle.bt_writing.specs.Completing.{macro_candidates, offer_at, start_or, present_in, offers, offers_around, database_at, completion_at}
use Rattle.bt_writing.specs.Types.{type_candidates}
use Rattle.bt_places.proofs.PlainLists.{items_plain, all_both, none_or, some_or_null, if_plain}
use Rattle.bt_writing.proofs.FeaturePlain.{macros_plain, fields_plain, types_plain}
use Rattle.bt_places.proofs.CompletingPlain.{one_plain}

candidate_plain : (w : Written) (key kind author title : List ℕ) → AllByRecursion HasNoFloat (candidate_if_any w key kind author title)
candidate_plain w [] kind author title = tt
candidate_plain w (b ∷ key) kind author title = (refl, tt)

candidates_plain : (w : Written) (ps : List PlacedPiece) → AllByRecursion HasNoFloat (candidates_of w ps)
candidates_plain w [] = tt
candidates_plain w (p ∷ ps) = all_both HasNoFloat _ _ (candidate_plain w (key_of p.piece) (kind_of p.piece) (field_of (codes "author") p.piece) (field_of (codes "title") p.piece)) (candidates_plain w ps)

candidates_in_plain : (w : Written) (fs : List (List ℕ × List ℕ)) → AllByRecursion HasNoFloat (candidates_in w fs)
candidates_in_plain w [] = tt
candidates_in_plain w (f ∷ fs) =
    all_both HasNoFloat (candidates_from w f.0 f.1) _ (if_plain (is_database f.0) _ (candidates_plain w (pieces_of f.1))) (candidates_in_plain w fs)

citation_plain : (fs : List (List ℕ × List ℕ)) (d : Document) (at : Position) → has_float (citation_at fs d at) ≡ false
citation_plain fs d at =
    let place = offset_of d.counting at d.text in
    let front = take place d.text in
    let w = written_at d place (keys_at_end 0 front) in
    some_or_null (cites d.name front) (array (items_of (candidates_in w fs))) (items_plain (candidates_in w fs) (candidates_in_plain w fs))

offers_plain : (fs : List (List ℕ × List ℕ)) (present : List Field) (offer : Offer) (w : Written) → has_float (offers fs present offer w) ≡ false
offers_plain fs present Nothing w = refl
offers_plain fs present Types w = items_plain (type_candidates w fs) (types_plain w fs)
offers_plain fs present Fields w = items_plain (field_candidates fs present w) (fields_plain fs present w)
offers_plain fs present Keys w = items_plain (candidates_in w fs) (candidates_in_plain w fs)
offers_plain fs present Macros w = items_plain (macro_candidates w fs) (macros_plain w fs)

around_plain : (fs : List (List ℕ × List ℕ)) (d : Document) (around : Option PlacedPiece) (place : ℕ) → has_float (offers_around fs d around place) ≡ false
around_plain fs d around place =
    let front = part (start_or place around) place d.text in
    offers_plain fs (present_in around) (offer_at front) (written_at d place (written_len front))

pub completion_plain : (fs : List (List ℕ × List ℕ)) (d : Document) (at : Position) → has_float (completion_at fs d at) ≡ false
completion_plain fs d at =
    let place = offset_of d.counting at d.text in
    none_or (nat_lt 1073741824 (length d.text)) (if is_database d.name then database_at fs d at else citation_at fs d at)
    (one_plain (is_database d.name) (database_at fs d at) (citation_at fs d at) (around_plain fs d (item_around place (pieces_of d.text)) place) (citation_plain fs d at))
