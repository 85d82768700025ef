-- Each listed entry is stored.
use Rattle.std.proofs.Common.{ℕ, zero, suc, ◌+◌, ◌<◌, ◌≤◌, Bool, true, false, List, [], ◌∷◌, ◌++◌, length, take, Option, Some, None, arith}
use Rattle.std.specs.Prelude.{not, cond, filter, filter_map, option_map, option_and_then, if◌then◌else◌}
use Rattle.std.specs.List.{AllByRecursion, range_with_len, cons_option}
use Rattle.bt_text.specs.CaseFolding.{is_same_folded}
use Rattle.bt_resolve.specs.declared.asked.Asked.{Asked}
use Rattle.bt_resolve.specs.declared.stored.Stored.{Stored}
use Rattle.bt_text.specs.ByName.{first_place}
use Rattle.bt_resolve.specs.Listed.{place_of_key, parent_of, is_cited_at, is_among, firsts, uncited_parents, listed}
use Rattle.bt_resolve.specs.inner.Cases.{cited_places, parents, listed_by}

abbrev Below : ℕ → List ℕ → Type 0
Below n ps = AllByRecursion (λ p. p < n) ps

abbrev SomeBelow : ℕ → Option ℕ → Type 0
SomeBelow n None = Unit {0}
SomeBelow n (Some p) = p < n

place_step : (n : ℕ) (b : Bool) (o : Option ℕ) → SomeBelow n o → SomeBelow (suc n) (if b then Some 0 else option_map (λ i. suc i) o)
place_step n true o h = omega arith
place_step n false None h = tt
place_step n false (Some p) h = omega (arith, h)

place_below : {X : Type 0} (test : X → Bool) (xs : List X) → SomeBelow (length xs) (first_place test xs)
place_below test [] = tt
place_below test (x ∷ xs) = place_step (length xs) (test x) (first_place test xs) (place_below test xs)

below_cons : (n : ℕ) (o : Option ℕ) (ps : List ℕ) → SomeBelow n o → Below n ps → Below n (cons_option o ps)
below_cons n None ps h hs = hs
below_cons n (Some p) ps h hs = (h, hs)

below_filter_map : {X : Type 0} (n : ℕ) (f : X → Option ℕ) → ((x : X) → SomeBelow n (f x)) → (xs : List X) → Below n (filter_map f xs)
below_filter_map n f h [] = tt
below_filter_map n f h (x ∷ xs) = below_cons n (f x) (filter_map f xs) (h x) (below_filter_map n f h xs)

below_append : (n : ℕ) (ps qs : List ℕ) → Below n ps → Below n qs → Below n (ps ++ qs)
below_append n [] qs h k = k
below_append n (p ∷ ps) qs h k = (h.0, below_append n ps qs h.1 k)

below_cond : (n : ℕ) (b : Bool) (p : ℕ) (ps : List ℕ) → p < n → Below n ps → Below n (cond b (p ∷ ps) ps)
below_cond n true p ps h hs = (h, hs)
below_cond n false p ps h hs = hs

below_filter : (n : ℕ) (test : ℕ → Bool) (ps : List ℕ) → Below n ps → Below n (filter test ps)
below_filter n test [] h = tt
below_filter n test (p ∷ ps) h = below_cond n (test p) p (filter test ps) h.0 (below_filter n test ps h.1)

below_unless : (n : ℕ) (b : Bool) (p : ℕ) (these those : List ℕ) → p < n → Below n these → Below n those → Below n (if b then these else p ∷ those)
below_unless n true p these those h k l = k
below_unless n false p these those h k l = (h, l)

below_firsts : (n : ℕ) (seen ps : List ℕ) → Below n ps → Below n (firsts seen ps)
below_firsts n seen [] h = tt
below_firsts n seen (p ∷ ps) h = below_unless n (is_among seen p) p (firsts seen ps) (firsts (seen ++ p ∷ []) ps) h.0 (below_firsts n seen ps h.1) (below_firsts n (seen ++ p ∷ []) ps h.1)

below_range : (n a m : ℕ) → a + m ≤ n → Below n (range_with_len a m)
below_range n a zero h = tt
below_range n a (suc m) h = (omega arith, below_range n (a + 1) m (omega arith))

parent_below : (stored : List Stored) (name : Option (List ℕ)) → SomeBelow (length stored) (option_and_then (place_of_key stored) name)
parent_below stored None = tt
parent_below stored (Some name) = place_below (λ (s : Stored). is_same_folded s.key name) stored

cited_below : (keys : List (List ℕ)) (stored : List Stored) → Below (length stored) (cited_places keys stored)
cited_below keys stored = below_filter_map (length stored) (place_of_key stored) (λ key. place_below (λ (s : Stored). is_same_folded s.key key) stored) keys

listed_below : (keys : List (List ℕ)) (star : Option ℕ) (stored : List Stored) → Below (length stored) (listed_by keys star stored)
listed_below keys None stored =
    below_append (length stored) (cited_places keys stored) (uncited_parents keys stored) (cited_below keys stored)
    (below_firsts (length stored) [] (filter (λ p. not (is_cited_at keys stored p)) (parents stored))
    (below_filter (length stored) (λ p. not (is_cited_at keys stored p)) (parents stored) (below_filter_map (length stored) (parent_of stored) (λ (s : Stored). parent_below stored s.crossref) stored)))
listed_below keys (Some before) stored =
    below_append (length stored) (cited_places (take before keys) stored) (filter (λ p. not (is_among (cited_places (take before keys) stored) p)) (range_with_len 0 (length stored))) (cited_below (take before keys) stored)
    (below_filter (length stored) (λ p. not (is_among (cited_places (take before keys) stored) p)) (range_with_len 0 (length stored)) (below_range (length stored) 0 (length stored) (omega arith)))

-- each listed entry is stored
pub listed_stored : (a : Asked) (stored : List Stored) → Below (length stored) (listed a stored)
unfolding listed
listed_stored a stored = listed_below a.keys a.star stored
