-- What entries inherit, which are left out of the list, and what the style sees of the others.
use Rattle.std.specs.Prelude.{ℕ, Bool, true, false, not, ◌&&◌, ◌==◌, nat_lt, is_none, List, [], ◌∷◌, drop, reverse, filter, filter_map, slice_get, slice_set, count_by, Option, Some, None, option_map, option_and_then, unwrap_or, if◌then◌else◌}
use Rattle.std.specs.List.{slice_index_or}
use Rattle.std.specs.Option.{option_or}
use Rattle.bt_resolve.specs.declared.asked.Asked.{Asked}
use Rattle.bt_resolve.specs.declared.entry.Entry.{Entry}
use Rattle.bt_resolve.specs.declared.stored.Stored.{Stored}
use Rattle.bt_resolve.specs.Names.{crossref, place_of_name}
use Rattle.bt_resolve.specs.Listed.{parent_of, is_cited_at, listed}

-- each missing value taken from the parent
abbrev pub inherited : List (Option (List ℕ)) → List (Option (List ℕ)) → List (Option (List ℕ))
inherited [] theirs = []
inherited (mine ∷ others) theirs = option_or mine (slice_index_or theirs 0 None) ∷ inherited others (drop 1 theirs)

-- The values of an entry once some entries of the list have inherited, each from its parent as it was then. These
-- entries are given from the last one back.
unfoldable pub values_after : List Stored → List ℕ → ℕ → List (Option (List ℕ))
values_after stored [] p = elim (slice_get stored p) [ None ↦ [] | Some s ↦ s.values ]
values_after stored (q ∷ before) p =
    let now = values_after stored before in
    elim (q == p) [
      | false ↦ now p
      | true ↦ elim (option_and_then (parent_of stored) (slice_get stored p)) [
        | None ↦ now p
        | Some parent ↦ inherited (now p) (now parent)
      ]
    ]

-- an entry that isn't cited, and to which fewer than min entries refer, is left out of the list; with `*` none is
unfoldable pub is_left_out : Asked → ℕ → List Stored → ℕ → Bool
is_left_out a min stored p =
    let children = count_by (λ s. elim (parent_of stored s) [ None ↦ false | Some q ↦ q == p ]) stored in
    is_none a.star && not (is_cited_at a.keys stored p) && nat_lt children min

-- the final field `crossref`: missing if no entry has that key, or if that entry was left out
unfoldable pub final_crossref : Asked → ℕ → List Stored → Stored → Option (List ℕ)
final_crossref a min stored s = elim (parent_of stored s) [
  | None ↦ None
  | Some parent ↦ if is_left_out a min stored parent then None else s.crossref
]

-- a key as it is cited, else as in the database
abbrev pub key_spelled : List (List ℕ) → List ℕ → List ℕ
key_spelled keys key = unwrap_or (option_and_then (slice_get keys) (place_of_name keys key)) key

-- an entry with these values, and with `crossref` in its place, if the style has that field
abbrev pub entry_seen : Asked → ℕ → List Stored → List (Option (List ℕ)) → Stored → Entry
entry_seen a min stored values s = record {
  key = key_spelled a.keys s.key;
  kind = s.kind;
  function = s.function;
  fields = elim (place_of_name a.fields crossref) [
    | None ↦ values
    | Some p ↦ slice_set values p (final_crossref a min stored s)
  ];
}

-- the entries that the style sees: those of the list that aren't left out, in its order
unfoldable pub entries_seen : Asked → ℕ → List Stored → List Entry
entries_seen a min stored =
    let values = values_after stored (reverse (listed a stored)) in
    filter_map (λ p. option_map (entry_seen a min stored (values p)) (slice_get stored p))
    (filter (λ p. not (is_left_out a min stored p)) (listed a stored))
