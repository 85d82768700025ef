-- The crate's laws. No code needs them; `specs/laws` states them.
use Rattle.bt_resolve.specs.laws.Laws.{MessagesForEachMin, ListedAreStored, StoredAreWanted, NothingInherited}
use Rattle.bt_resolve.proofs.BelowLemmas
use Rattle.bt_resolve.proofs.laws.LawLemmas

pub messages_for_each_min : MessagesForEachMin
messages_for_each_min = LawLemmas.same_messages

pub listed_are_stored : ListedAreStored
listed_are_stored = BelowLemmas.listed_stored

pub stored_are_wanted : StoredAreWanted
stored_are_wanted = LawLemmas.stored_wanted

pub nothing_inherited : NothingInherited
nothing_inherited = LawLemmas.values_stay
