-- The laws of the crate, which no code needs. `specs/laws` has what they say.
use Rattle.bt_style.specs.laws.Laws.{BodiesAreSpelled, SpelledBodiesAreRead, FaultIsFirst, FaultIsFirstInItsText, AnyBoundServes, QuoteNamesNothing, FoundByTheirNames, FoundAtTheirPlaces}
use Rattle.bt_style.proofs.laws.SpelledLemmas
use Rattle.bt_style.proofs.laws.ReadBackLemmas
use Rattle.bt_style.specs.laws.Apart.{EachNameIsFound}
use Rattle.bt_style.proofs.laws.MeaningLemmas
use Rattle.bt_style.specs.laws.Uses.{NamesComeFirst}
use Rattle.bt_style.proofs.laws.UsesLemmas
use Rattle.bt_style.specs.laws.Builtins.{StandInTheirPlaces}
use Rattle.bt_style.proofs.PlaceLemmas
use Rattle.bt_style.proofs.laws.BuiltinLemmas
use Rattle.bt_style.proofs.laws.FirstLemmas
use Rattle.bt_style.proofs.laws.TextLemmas
use Rattle.bt_style.proofs.laws.QuoteLemmas

pub bodies_are_spelled : BodiesAreSpelled
bodies_are_spelled = SpelledLemmas.spelled

pub spelled_bodies_are_read : SpelledBodiesAreRead
spelled_bodies_are_read = ReadBackLemmas.read_back

-- Each name of a style that a text spells stands for what was declared by it. So no two fields, variables and
-- functions have one name, none has that of a built-in function, and no two macros have one name.
pub each_name_is_found : EachNameIsFound
each_name_is_found = MeaningLemmas.each_name_is_found

pub names_come_first : NamesComeFirst
names_come_first = UsesLemmas.names_come_first

pub builtins_stand_in_their_places : StandInTheirPlaces
builtins_stand_in_their_places = PlaceLemmas.stands_in_its_place

pub fault_is_first : FaultIsFirst
fault_is_first = FirstLemmas.fault_is_first

-- The same of the text's bytes: no style begins with those up to the end of the token at the fault and the byte after
-- it, and some style begins with those before that token.
pub fault_is_first_in_its_text : FaultIsFirstInItsText
fault_is_first_in_its_text = TextLemmas.fault_is_first_in_its_text

pub any_bound_serves : AnyBoundServes
any_bound_serves = FirstLemmas.any_bound_serves

pub quote_names_nothing : QuoteNamesNothing
quote_names_nothing = QuoteLemmas.quote_names_nothing

pub builtins_are_found_by_name : FoundByTheirNames
builtins_are_found_by_name = BuiltinLemmas.found_by_its_name

pub builtins_are_found_at_their_places : FoundAtTheirPlaces
builtins_are_found_at_their_places = BuiltinLemmas.found_at_its_place
