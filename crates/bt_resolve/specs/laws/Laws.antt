-- What the definitions promise together.
use Rattle.std.specs.Prelude.{◌≡◌, ℕ, ◌<◌, true, List, [], ◌∷◌, ◌++◌, length, None}
use Rattle.std.specs.List.{AllByRecursion}
use Rattle.bt_bib.specs.Items.{PlacedItem}
use Rattle.bt_resolve.specs.declared.asked.Asked.{Asked}
use Rattle.bt_resolve.specs.declared.declared.Cites.{Cites}
use Rattle.bt_resolve.specs.declared.declared.Declared.{Declared}
use Rattle.bt_resolve.specs.declared.declared.Macro.{Macro}
use Rattle.bt_resolve.specs.declared.stored.Stored.{Stored}
use Rattle.std.specs.Prelude.{slice_get}
use Rattle.bt_resolve.specs.Stored.{is_wanted}
use Rattle.bt_resolve.specs.Listed.{listed}
use Rattle.bt_resolve.specs.Inherited.{values_after}
use Rattle.bt_resolve.specs.inner.Cases.{values_of}
use Rattle.bt_resolve.specs.Resolved.{resolved, stored_entries}

-- the messages don't depend on the least number of references
abbrev pub MessagesForEachMin : Type 0
MessagesForEachMin = (d : Declared) (c : Cites) (databases : List (List PlacedItem)) (m n : ℕ) →
    (resolved d c databases m).messages ≡ (resolved d c databases n).messages

-- each place in the list is the place of a stored entry
abbrev pub ListedAreStored : Type 0
ListedAreStored = (a : Asked) (stored : List Stored) → AllByRecursion (λ p. p < length stored) (listed a stored)

-- each of these is wanted, given those that are stored before it
abbrev pub WantedInTurn : Asked → List Stored → List Stored → Type 0
WantedInTurn a before [] = Unit {0}
WantedInTurn a before (s ∷ ss) = (is_wanted a before s.key ≡ true) × WantedInTurn a (before ++ s ∷ []) ss

-- all entries are cited, or the key of each stored one is, or one that is stored before it refers to it
abbrev pub StoredAreWanted : Type 0
StoredAreWanted = (a : Asked) (macros : List Macro) (databases : List (List PlacedItem)) →
    WantedInTurn a [] (stored_entries a macros databases)

-- if no entry refers to another, each has the values that were read
abbrev pub NothingInherited : Type 0
NothingInherited = (stored : List Stored) → AllByRecursion (λ (s : Stored). s.crossref ≡ None) stored →
    (before : List ℕ) (p : ℕ) → values_after stored before p ≡ values_of (slice_get stored p)
