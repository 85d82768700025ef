-- The messages of the list: about cross references, and about cited keys without an entry.
use Rattle.std.specs.Prelude.{ℕ, List, [], ◌∷◌, ◌++◌, slice_get, codes, Option, Some, None, is_some, option_and_then, if◌then◌else◌}
use Rattle.std.specs.List.{flat_map}
use Rattle.bt_resolve.specs.declared.asked.Asked.{Asked}
use Rattle.bt_log.specs.declared.message.Rank.{Rank}
use Rattle.bt_log.specs.declared.message.Rank.TheVariants.{Warning, Error}
use Rattle.bt_log.specs.declared.message.Said.TheVariants.{Words}
use Rattle.bt_log.specs.declared.message.Message.{Message}
use Rattle.bt_resolve.specs.declared.stored.Stored.{Stored}
use Rattle.bt_resolve.specs.Stored.{is_stored}
use Rattle.bt_resolve.specs.Listed.{place_of_key, listed}
use Rattle.bt_resolve.specs.Inherited.{key_spelled}

-- a message about the entry of a key
abbrev pub about : Rank → List ℕ → List ℕ → Option (List ℕ) → Message
about rank key words second = record { rank = rank; said = Words words; entry = Some key; place = None; second = second }

abbrev pub bad_reference : List ℕ → List ℕ → Message
bad_reference key parent =
    about Error key (codes "A bad cross reference---entry \"" ++ key ++ codes "\"")
    (Some (codes "refers to entry \"" ++ parent ++ codes "\", which doesn't exist"))

abbrev pub nested : List ℕ → List ℕ → Message
nested key parent =
    about Warning key (codes "Warning--you've nested cross references--entry \"" ++ key ++ codes "\"")
    (Some (codes "refers to entry \"" ++ parent ++ codes "\", which also refers to something"))

abbrev pub no_entry : List ℕ → Message
no_entry key = about Warning key (codes "Warning--I didn't find a database entry for \"" ++ key ++ codes "\"") None

-- the messages of an entry of the list, given its `crossref` as read
unfoldable pub reference_messages : List (List ℕ) → List Stored → ℕ → List Message
reference_messages keys stored p = elim (slice_get stored p) [
  | None ↦ []
  | Some s ↦ elim s.crossref [
    | None ↦ []
    | Some name ↦
        (let key = key_spelled keys s.key in
        elim (option_and_then (slice_get stored) (place_of_key stored name)) [
          | None ↦ bad_reference key name ∷ []
          | Some parent ↦ if is_some parent.crossref then nested key name ∷ [] else []
        ])
  ]
]

-- the messages of a cited key
unfoldable pub missing_messages : List Stored → List ℕ → List Message
missing_messages stored key = if is_stored stored key then [] else no_entry key ∷ []

-- the messages of the whole list, in its order, then those of the cited keys, in their order
unfoldable pub list_messages : Asked → List Stored → List Message
list_messages a stored =
    flat_map (reference_messages a.keys stored) (listed a stored) ++ flat_map (missing_messages stored) a.keys
