-- What always holds of the keys of what is resolved, for the code that uses it.
use Rattle.std.specs.Prelude.{IsTrue, map, ◌≡◌, ℕ, true, false, List, [], ◌∷◌}
use Rattle.std.specs.List.{AllByRecursion}
use Rattle.bt_text.specs.CaseFolding.{is_same_folded}
use Rattle.bt_text.specs.NameList.{are_apart}
use Rattle.bt_bib.specs.Items.{PlacedItem}
use Rattle.bt_resolve.specs.declared.asked.Asked.{Asked}
use Rattle.bt_resolve.specs.declared.declared.Cites.{Cites}
use Rattle.bt_resolve.specs.declared.declared.Declared.{Declared}
use Rattle.bt_resolve.specs.declared.declared.Macro.{Macro}
use Rattle.bt_resolve.specs.declared.entry.Entry.{Entry}
use Rattle.bt_resolve.specs.declared.stored.Stored.{Stored}
use Rattle.bt_resolve.specs.Resolved.{resolved, stored_entries}

-- no two keys match
abbrev pub KeysApart : List Stored → Type 0
KeysApart [] = Unit {0}
KeysApart (s ∷ ss) = AllByRecursion (λ (t : Stored). is_same_folded s.key t.key ≡ false) ss × KeysApart ss

abbrev pub StoredKeysApart : Type 0
StoredKeysApart = (a : Asked) (macros : List Macro) (databases : List (List PlacedItem)) →
    KeysApart (stored_entries a macros databases)

-- if no two cited keys match, no two entries of the list have keys that match
abbrev pub EntriesApart : Type 0
EntriesApart = (d : Declared) (c : Cites) (databases : List (List PlacedItem)) (min : ℕ) → IsTrue (are_apart c.keys) →
    are_apart (map (λ (e : Entry). e.key) (resolved d c databases min).entries) ≡ true
