-- What depends on skeletons alone.
use Rattle.std.proofs.Common.{◌≡◌, ◌∙◌, ap, sym, refl, ℕ, suc, ◌+◌, Bool, List, [], ◌∷◌, ◌++◌, take, drop, map, get_or, Option, Some, None}
use Rattle.std.specs.Prelude.{◌&&◌, ◌||◌, not, cond, slice_get, filter, filter_map, count_by, nat_lt, is_none, is_some, option_map, option_and_then, if◌then◌else◌}
use Rattle.std.specs.List.{list_any, range_with_len, cons_option, flat_map}
use Rattle.std.proofs.lemmas.List.{length-map}
use Rattle.std.proofs.lemmas.List.Folds.{fold-map}
use Rattle.std.proofs.lemmas.Option.{slice_get-map}
use Rattle.bt_text.specs.CaseFolding.{is_same_folded}
use Rattle.bt_text.specs.ByName.{first_place}
use Rattle.bt_text.specs.NameList.{has_name}
use Rattle.bt_log.specs.declared.message.Message.{Message}
use Rattle.bt_resolve.specs.declared.asked.Asked.{Asked}
use Rattle.bt_resolve.specs.declared.stored.Stored.{Stored}
use Rattle.bt_resolve.specs.Names.{crossref, place_of_name}
use Rattle.bt_resolve.specs.Values.{is_named}
use Rattle.bt_resolve.specs.Stored.{is_wanted, is_stored}
use Rattle.bt_resolve.specs.Listed.{place_of_key, parent_of, is_cited_at, is_among, firsts, uncited_parents, listed}
use Rattle.bt_resolve.specs.inner.Cases.{cited_places, children, is_referred_to, is_cited, parents, others_than, listed_by, parent_at, is_place, with_crossref, entry_at, parent_messages, entry_messages}
use Rattle.bt_resolve.specs.Inherited.{is_left_out, final_crossref, key_spelled, entry_seen}
use Rattle.bt_resolve.specs.References.{no_entry, reference_messages, missing_messages, list_messages}
use Rattle.bt_resolve.specs.Skeletons.{skeleton, AreAlike, ListDependsOnSkeletons}
use Rattle.bt_resolve.specs.inner.Inheritance.{values_read}

-- ---- lists

map_any : {X Y : Type 0} (test : Y → Bool) (f : X → Y) (xs : List X) → list_any test (map f xs) ≡ list_any (λ x. test (f x)) xs
map_any test f [] = refl
map_any test f (x ∷ xs) = ap (λ (b : Bool). test (f x) || b) (map_any test f xs)

first_map : {X Y : Type 0} (test : Y → Bool) (f : X → Y) (xs : List X) → first_place test (map f xs) ≡ first_place (λ x. test (f x)) xs
first_map test f [] = refl
first_map test f (x ∷ xs) = ap (λ (o : Option ℕ). if test (f x) then Some 0 else option_map (λ i. suc i) o) (first_map test f xs)

pub filter_map_map : {X Y Z : Type 0} (g : Y → Option Z) (f : X → Y) (xs : List X) → filter_map g (map f xs) ≡ filter_map (λ x. g (f x)) xs
filter_map_map g f [] = refl
filter_map_map {Z = Z} g f (x ∷ xs) = ap (λ (zs : List Z). cons_option (g (f x)) zs) (filter_map_map g f xs)

-- ---- skeletons and values

abbrev pub first_of : Stored → List Stored → Stored
first_of s [] = s
first_of s (t ∷ ts) = t

pub stored_of_values : (ss ts : List Stored) → AreAlike ss ts → values_read ss ≡ values_read ts → ss ≡ ts
stored_of_values [] [] alike values = refl
stored_of_values [] (t ∷ ts) alike values = absurd cc
stored_of_values (s ∷ ss) [] alike values = absurd cc
stored_of_values (s ∷ ss) (t ∷ ts) alike values =
    let bare : skeleton s ≡ skeleton t = ap (first_of s) alike in
    let own : s.values ≡ t.values = ap (λ l. get_or l 0 []) values in
    let rest : ss ≡ ts = stored_of_values ss ts (ap (drop 1) alike) (ap (drop 1) values) in
    λ j. record { key = (bare j).key; kind = (bare j).kind; function = (bare j).function; crossref = (bare j).crossref; values = own j } ∷ rest j

-- ---- the words of the list, of skeletons

bare_stored : (stored : List Stored) (key : List ℕ) → is_stored (map skeleton stored) key ≡ is_stored stored key
bare_stored stored key = map_any (λ (s : Stored). is_same_folded s.key key) skeleton stored

bare_referred : (stored : List Stored) (key : List ℕ) → is_referred_to (map skeleton stored) key ≡ is_referred_to stored key
bare_referred stored key = map_any (λ (s : Stored). is_named s.crossref key) skeleton stored

bare_wanted : (a : Asked) (stored : List Stored) (key : List ℕ) → is_wanted a (map skeleton stored) key ≡ is_wanted a stored key
bare_wanted a stored key = ap (λ (b : Bool). is_some a.star || has_name a.keys key || b) (bare_referred stored key)

bare_place : (stored : List Stored) (key : List ℕ) → place_of_key (map skeleton stored) key ≡ place_of_key stored key
bare_place stored key = first_map (λ (s : Stored). is_same_folded s.key key) skeleton stored

bare_parent_of : (stored : List Stored) (s : Stored) → parent_of (map skeleton stored) s ≡ parent_of stored s
bare_parent_of stored s = λ j. option_and_then (λ key. bare_place stored key j) s.crossref

bare_parents : (stored : List Stored) → parents (map skeleton stored) ≡ parents stored
bare_parents stored =
    filter_map_map (parent_of (map skeleton stored)) skeleton stored
    ∙ (λ j. filter_map (λ s. bare_parent_of stored s j) stored)

cited_bare : (keys : List (List ℕ)) (o : Option Stored) → is_cited keys (option_map skeleton o) ≡ is_cited keys o
cited_bare keys None = refl
cited_bare keys (Some s) = refl

bare_cited_at : (keys : List (List ℕ)) (stored : List Stored) (p : ℕ) → is_cited_at keys (map skeleton stored) p ≡ is_cited_at keys stored p
bare_cited_at keys stored p = ap (is_cited keys) (slice_get-map skeleton stored p) ∙ cited_bare keys (slice_get stored p)

bare_cited : (keys : List (List ℕ)) (stored : List Stored) → cited_places keys (map skeleton stored) ≡ cited_places keys stored
bare_cited keys stored = λ j. filter_map (λ key. bare_place stored key j) keys

bare_uncited : (keys : List (List ℕ)) (stored : List Stored) → uncited_parents keys (map skeleton stored) ≡ uncited_parents keys stored
bare_uncited keys stored = λ j. firsts [] (filter (λ p. not (bare_cited_at keys stored p j)) (bare_parents stored j))

bare_others : (these : List ℕ) (stored : List Stored) → others_than these (map skeleton stored) ≡ others_than these stored
bare_others these stored = ap (λ (n : ℕ). filter (λ p. not (is_among these p)) (range_with_len 0 n)) (length-map stored skeleton)

bare_listed_by : (keys : List (List ℕ)) (star : Option ℕ) (stored : List Stored) → listed_by keys star (map skeleton stored) ≡ listed_by keys star stored
bare_listed_by keys None stored = λ j. bare_cited keys stored j ++ bare_uncited keys stored j
bare_listed_by keys (Some before) stored =
    (λ j. bare_cited (take before keys) stored j ++ others_than (bare_cited (take before keys) stored j) (map skeleton stored))
    ∙ ap (λ (ps : List ℕ). cited_places (take before keys) stored ++ ps) (bare_others (cited_places (take before keys) stored) stored)

bare_listed : (a : Asked) (stored : List Stored) → listed a (map skeleton stored) ≡ listed a stored
unfolding listed
bare_listed a stored = bare_listed_by a.keys a.star stored

parent_bare : (stored : List Stored) (o : Option Stored) → option_and_then (parent_of stored) (option_map skeleton o) ≡ option_and_then (parent_of stored) o
parent_bare stored None = refl
parent_bare stored (Some s) = refl

bare_parent_at : (stored : List Stored) (p : ℕ) → parent_at (map skeleton stored) p ≡ parent_at stored p
bare_parent_at stored p =
    (λ j. option_and_then (λ s. bare_parent_of stored s j) (slice_get-map skeleton stored p j))
    ∙ parent_bare stored (slice_get stored p)

bare_children : (stored : List Stored) (p : ℕ) → children (map skeleton stored) p ≡ children stored p
bare_children stored p =
    fold-map (λ (n : ℕ) (s : Stored). n + cond (is_place p (parent_of (map skeleton stored) s)) 1 0) skeleton 0 stored
    ∙ (λ j. count_by (λ s. is_place p (bare_parent_of stored s j)) stored)

bare_left_out : (a : Asked) (min : ℕ) (stored : List Stored) (p : ℕ) → is_left_out a min (map skeleton stored) p ≡ is_left_out a min stored p
unfolding is_left_out
bare_left_out a min stored p = λ j. is_none a.star && not (bare_cited_at a.keys stored p j) && nat_lt (bare_children stored p j) min

-- ---- messages

-- of the `crossref` of an entry
abbrev crossref_messages : List Stored → List ℕ → Option (List ℕ) → List Message
crossref_messages stored key name = elim name [
  | None ↦ []
  | Some n ↦ parent_messages key n (option_and_then (slice_get stored) (place_of_key stored n))
]

told_bare : (key name : List ℕ) (o : Option Stored) → parent_messages key name (option_map skeleton o) ≡ parent_messages key name o
told_bare key name None = refl
told_bare key name (Some s) = refl

option_bare : (stored : List Stored) (o : Option ℕ) → option_and_then (slice_get (map skeleton stored)) o ≡ option_map skeleton (option_and_then (slice_get stored) o)
option_bare stored None = refl
option_bare stored (Some p) = slice_get-map skeleton stored p

bare_crossref_messages : (stored : List Stored) (key : List ℕ) (name : Option (List ℕ)) → crossref_messages (map skeleton stored) key name ≡ crossref_messages stored key name
bare_crossref_messages stored key None = refl
bare_crossref_messages stored key (Some name) =
    ap (λ (o : Option ℕ). parent_messages key name (option_and_then (slice_get (map skeleton stored)) o)) (bare_place stored name)
    ∙ ap (parent_messages key name) (option_bare stored (place_of_key stored name))
    ∙ told_bare key name (option_and_then (slice_get stored) (place_of_key stored name))

entry_messages_bare : (keys : List (List ℕ)) (stored : List Stored) (o : Option Stored) → entry_messages keys (map skeleton stored) (option_map skeleton o) ≡ entry_messages keys stored o
entry_messages_bare keys stored None = refl
entry_messages_bare keys stored (Some s) = bare_crossref_messages stored (key_spelled keys s.key) s.crossref

bare_reference : (keys : List (List ℕ)) (stored : List Stored) (p : ℕ) → reference_messages keys (map skeleton stored) p ≡ reference_messages keys stored p
unfolding reference_messages
bare_reference keys stored p =
    ap (entry_messages keys (map skeleton stored)) (slice_get-map skeleton stored p)
    ∙ entry_messages_bare keys stored (slice_get stored p)

bare_missing : (stored : List Stored) (key : List ℕ) → missing_messages (map skeleton stored) key ≡ missing_messages stored key
unfolding missing_messages
bare_missing stored key = λ j. if bare_stored stored key j then [] else no_entry key ∷ []

bare_list_messages : (a : Asked) (stored : List Stored) → list_messages a (map skeleton stored) ≡ list_messages a stored
unfolding list_messages
bare_list_messages a stored = λ j.
    flat_map (λ p. bare_reference a.keys stored p j) (bare_listed a stored j) ++ flat_map (λ key. bare_missing stored key j) a.keys

-- ---- what is seen

-- a `crossref` in the end, by the parent's place
abbrev kept_crossref : Asked → ℕ → List Stored → Option ℕ → Option (List ℕ) → Option (List ℕ)
kept_crossref a min stored parent name = elim parent [ None ↦ None | Some p ↦ if is_left_out a min stored p then None else name ]

kept_bare : (a : Asked) (min : ℕ) (stored : List Stored) (o : Option ℕ) (name : Option (List ℕ)) → kept_crossref a min (map skeleton stored) o name ≡ kept_crossref a min stored o name
kept_bare a min stored None name = refl
kept_bare a min stored (Some p) name = ap (λ (b : Bool). if b then None else name) (bare_left_out a min stored p)

bare_final : (a : Asked) (min : ℕ) (stored : List Stored) (s : Stored) → final_crossref a min (map skeleton stored) s ≡ final_crossref a min stored s
unfolding final_crossref
bare_final a min stored s =
    ap (λ (o : Option ℕ). kept_crossref a min (map skeleton stored) o s.crossref) (bare_parent_of stored s)
    ∙ kept_bare a min stored (parent_of stored s) s.crossref

final_bare : (a : Asked) (min : ℕ) (stored : List Stored) (s : Stored) → final_crossref a min stored (skeleton s) ≡ final_crossref a min stored s
unfolding final_crossref
final_bare a min stored s = refl

seen_bare : (a : Asked) (min : ℕ) (stored : List Stored) (values : List (Option (List ℕ))) (o : Option Stored) → option_map (entry_seen a min stored values) (option_map skeleton o) ≡ option_map (entry_seen a min stored values) o
seen_bare a min stored values None = refl
seen_bare a min stored values (Some s) = λ j. Some (record {
  key = key_spelled a.keys s.key;
  kind = s.kind;
  function = s.function;
  fields = with_crossref (place_of_name a.fields crossref) (final_bare a min stored s j) values;
})

bare_seen : (a : Asked) (min : ℕ) (stored : List Stored) (values : List (Option (List ℕ))) (p : ℕ) → entry_at a min (map skeleton stored) (λ q. values) p ≡ entry_at a min stored (λ q. values) p
bare_seen a min stored values p =
    (λ j. option_map (λ (s : Stored). record {
      key = key_spelled a.keys s.key;
      kind = s.kind;
      function = s.function;
      fields = with_crossref (place_of_name a.fields crossref) (bare_final a min stored s j) values;
    }) (slice_get-map skeleton stored p j))
    ∙ seen_bare a min stored values (slice_get stored p)

-- ---- the law

over : {A : Type 0} (f : List Stored → A) → ((stored : List Stored) → f (map skeleton stored) ≡ f stored) → (stored others : List Stored) → AreAlike stored others → f stored ≡ f others
over f same stored others alike = sym (same stored) ∙ ap f alike ∙ same others

pub same_wanted : (a : Asked) (stored others : List Stored) → AreAlike stored others → (key : List ℕ) → is_wanted a stored key ≡ is_wanted a others key
same_wanted a stored others alike key = over (λ ss. is_wanted a ss key) (λ ss. bare_wanted a ss key) stored others alike

pub same_stored : (stored others : List Stored) → AreAlike stored others → (key : List ℕ) → is_stored stored key ≡ is_stored others key
same_stored stored others alike key = over (λ ss. is_stored ss key) (λ ss. bare_stored ss key) stored others alike

pub same_parent : (stored others : List Stored) → AreAlike stored others → (p : ℕ) → parent_at stored p ≡ parent_at others p
same_parent stored others alike p = over (λ ss. parent_at ss p) (λ ss. bare_parent_at ss p) stored others alike

pub one_list : ListDependsOnSkeletons
one_list a min stored others alike = record {
  wanted = same_wanted a stored others alike;
  known = same_stored stored others alike;
  list = over (listed a) (bare_listed a) stored others alike;
  parent = same_parent stored others alike;
  child_count = λ p. over (λ ss. children ss p) (λ ss. bare_children ss p) stored others alike;
  left_out = λ p. over (λ ss. is_left_out a min ss p) (λ ss. bare_left_out a min ss p) stored others alike;
  told = over (list_messages a) (bare_list_messages a) stored others alike;
  seen = λ values p. over (λ ss. entry_at a min ss (λ q. values) p) (λ ss. bare_seen a min ss values p) stored others alike;
}
