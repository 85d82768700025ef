-- The list of entries. An entry is identified by its place among the stored ones.
use Rattle.std.specs.Prelude.{ℕ, Bool, false, not, ◌==◌, List, [], ◌∷◌, ◌++◌, length, take, filter, filter_map, slice_get, Option, Some, None, option_and_then, if◌then◌else◌}
use Rattle.std.specs.List.{list_any, range_with_len}
use Rattle.bt_text.specs.CaseFolding.{is_same_folded}
use Rattle.bt_resolve.specs.declared.asked.Asked.{Asked}
use Rattle.bt_resolve.specs.declared.stored.Stored.{Stored}
use Rattle.bt_text.specs.ByName.{first_place}
use Rattle.bt_text.specs.NameList.{has_name}

-- the stored entry of a key
abbrev pub place_of_key : List Stored → List ℕ → Option ℕ
place_of_key stored key = first_place (λ (s : Stored). is_same_folded s.key key) stored

-- the stored entry that an entry refers to, given its `crossref` as read
abbrev pub parent_of : List Stored → Stored → Option ℕ
parent_of stored s = option_and_then (place_of_key stored) s.crossref

abbrev pub is_cited_at : List (List ℕ) → List Stored → ℕ → Bool
is_cited_at keys stored p = elim (slice_get stored p) [ None ↦ false | Some s ↦ has_name keys s.key ]

abbrev pub is_among : List ℕ → ℕ → Bool
is_among places p = list_any (λ q. q == p) places

-- each of the places once, at its first occurrence, without those seen before
abbrev pub firsts : List ℕ → List ℕ → List ℕ
firsts seen [] = []
firsts seen (p ∷ ps) = if is_among seen p then firsts seen ps else p ∷ firsts (seen ++ p ∷ []) ps

-- the uncited entries that stored ones refer to, in the order of the first references to them
abbrev pub uncited_parents : List (List ℕ) → List Stored → List ℕ
uncited_parents keys stored =
    firsts [] (filter (λ p. not (is_cited_at keys stored p)) (filter_map (parent_of stored) stored))

-- The cited keys that have an entry, then the uncited entries in the order in which stored ones first refer to them.
-- With `*`: the keys before it, then all others in the order of the databases.
unfoldable pub listed : Asked → List Stored → List ℕ
listed a stored = elim a.star [
  | None ↦ filter_map (place_of_key stored) a.keys ++ uncited_parents a.keys stored
  | Some before ↦
      (let cited = filter_map (place_of_key stored) (take before a.keys) in
      cited ++ filter (λ p. not (is_among cited p)) (range_with_len 0 (length stored)))
]
