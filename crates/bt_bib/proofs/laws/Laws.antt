-- The crate's laws. No code needs them; `specs/laws` states them.
use Rattle.bt_bib.specs.laws.Laws.{RestIsMoved, BoundaryStays, FaultIsFinal, FaultIsFirst, SpansRise, LinesLieInside, AnyBoundServes}
use Rattle.bt_bib.proofs.laws.LawLemmas
use Rattle.bt_bib.proofs.laws.FirstLemmas
use Rattle.bt_bib.proofs.RiseLemmas
use Rattle.bt_bib.proofs.laws.LineLemmas
use Rattle.bt_bib.specs.laws.SpelledLaws.{EnclosedTextsAreRead, SpelledPartsAreRead, SpelledValuesAreRead, SpelledFieldsAreRead, SpelledItemsAreRead, SpelledDatabasesAreRead, FaultlessItemsAreSpelled, FaultlessDatabasesAreSpelled}
use Rattle.bt_bib.proofs.laws.SpelledTextLemmas
use Rattle.bt_bib.proofs.laws.SpelledValueLemmas
use Rattle.bt_bib.proofs.laws.SpelledFieldLemmas
use Rattle.bt_bib.proofs.laws.SpelledItemLemmas
use Rattle.bt_bib.proofs.laws.SpelledDatabaseLemmas
use Rattle.bt_bib.proofs.laws.FaultlessDatabaseLemmas
use Rattle.bt_bib.specs.laws.Parts.{PartsAreRead, ClosedPartsJoin, PartEditStays}
use Rattle.bt_bib.proofs.laws.PartLemmas
use Rattle.bt_bib.proofs.laws.ClosedPartLemmas

pub rest_is_moved : RestIsMoved
rest_is_moved = LawLemmas.rest_is_moved

pub boundary_stays : BoundaryStays
boundary_stays = LawLemmas.boundary_stays

pub fault_is_final : FaultIsFinal
fault_is_final = LawLemmas.fault_is_final

-- The bytes of a faulty item before its fault's place begin an item without a fault: no byte before that place is
-- wrong.
pub fault_is_first : FaultIsFirst
fault_is_first = FirstLemmas.fault_is_first

pub spans_rise : SpansRise
spans_rise = RiseLemmas.spans_rise

-- The lines of an item's key or name, fields and macros lie between its first line and its last.
pub lines_lie_inside : LinesLieInside
lines_lie_inside = LineLemmas.lines_lie_inside

pub enclosed_texts_are_read : EnclosedTextsAreRead
enclosed_texts_are_read = SpelledTextLemmas.enclosed_texts_are_read

pub spelled_parts_are_read : SpelledPartsAreRead
spelled_parts_are_read = SpelledValueLemmas.spelled_parts_are_read

-- A value that a text spells is read as its parts.
pub spelled_values_are_read : SpelledValuesAreRead
spelled_values_are_read = SpelledValueLemmas.spelled_values_are_read

-- A field that a text spells is read as that field.
pub spelled_fields_are_read : SpelledFieldsAreRead
spelled_fields_are_read = SpelledFieldLemmas.spelled_fields_are_read

pub spelled_items_are_read : SpelledItemsAreRead
spelled_items_are_read = SpelledItemLemmas.spelled_items_are_read

pub spelled_databases_are_read : SpelledDatabasesAreRead
spelled_databases_are_read = SpelledDatabaseLemmas.spelled_databases_are_read

-- The bytes of a text from the beginning of an item without a fault up to its end spell that item.
pub faultless_items_are_spelled : FaultlessItemsAreSpelled
faultless_items_are_spelled = FaultlessDatabaseLemmas.faultless_items_are_spelled

-- A text that is read without a fault spells the items and comments that are read.
pub faultless_databases_are_spelled : FaultlessDatabasesAreSpelled
faultless_databases_are_spelled = FaultlessDatabaseLemmas.faultless_databases_are_spelled

pub any_bound_serves : AnyBoundServes
any_bound_serves = LawLemmas.any_bound_serves

pub parts_are_read : PartsAreRead
parts_are_read = PartLemmas.parts_are_read

pub closed_parts_join : ClosedPartsJoin
closed_parts_join = ClosedPartLemmas.closed_parts_join

-- An edit inside a part that stays closed changes the items of no other part.
pub part_edit_stays : PartEditStays
part_edit_stays = ClosedPartLemmas.part_edit_stays
