-- Inheriting one after another yields the values that the definitions give by place in the list.
use Rattle.std.proofs.Common.{◌≡◌, ◌≢◌, ◌∙◌, ap, sym, refl, ℕ, zero, suc, ◌<◌, ◌≤◌, Bool, true, false, List, [], ◌∷◌, ◌++◌, length, reverse, get_or, set, Option, Some, None, append_assoc, append-nil, inl, inr, ◌⊎◌}
use Rattle.std.specs.Prelude.{◌==◌, slice_get}
use Rattle.std.proofs.Math.Path.{fun_ext}
use Rattle.std.proofs.lemmas.Grind.{reverse_onto}
use Rattle.std.proofs.lemmas.List.{get_or-set_same, get_or-set_other, get_or_past, set_past}
use Rattle.std.proofs.lemmas.Bool.Decides.{Decides-eqb}
use Rattle.std.proofs.lemmas.Bool.{cases_lt}
use Rattle.bt_resolve.specs.declared.asked.Asked.{Asked}
use Rattle.bt_resolve.specs.declared.stored.Stored.{Stored}
use Rattle.bt_resolve.specs.Listed.{listed}
use Rattle.bt_resolve.specs.Inherited.{inherited, values_after, entries_seen}
use Rattle.bt_resolve.specs.inner.Cases.{values_of, parent_at, inherits, entries_by}
use Rattle.bt_resolve.specs.inner.Inheritance.{inherits_from, inherits_at, all_inherit, values_read}

abbrev Values : Type 0
Values = List (Option (List ℕ))

pub behind_place : (p : ℕ) (rest before : List ℕ) → reverse (p ∷ rest) ++ before ≡ reverse rest ++ p ∷ before
behind_place p rest before = ap (λ (is : List ℕ). is ++ before) (reverse_onto rest p []) ∙ append_assoc (reverse rest) (p ∷ []) before

set_at_length : (vs : List Values) (k : ℕ) (theirs : Values) → (k < length vs) ⊎ (length vs ≤ k) → get_or (set vs k (inherited (get_or vs k []) theirs)) k [] ≡ inherited (get_or vs k []) theirs
set_at_length vs k theirs (inl less) = get_or-set_same vs k (inherited (get_or vs k []) theirs) [] less
set_at_length vs k theirs (inr past) =
    ap (λ (ws : List Values). get_or ws k []) (set_past vs k (inherited (get_or vs k []) theirs) past)
    ∙ get_or_past vs k [] past
    ∙ sym (ap (λ (v : Values). inherited v theirs) (get_or_past vs k [] past))

same_place : (vs : List Values) (k : ℕ) (parent : Option ℕ) → get_or (inherits_from parent k vs) k [] ≡ inherits true parent (λ j. get_or vs j []) k
same_place vs k None = refl
same_place vs k (Some parent) = set_at_length vs k (get_or vs parent []) (cases_lt k (length vs))

pub other_place : (vs : List Values) (q k : ℕ) (parent : Option ℕ) → k ≢ q → get_or (inherits_from parent q vs) k [] ≡ get_or vs k []
other_place vs q k None other = refl
other_place vs q k (Some parent) other = get_or-set_other vs q k (inherited (get_or vs q []) (get_or vs parent [])) [] other

pub at_test : (stored : List Stored) (vs : List Values) (q k : ℕ) (b : Bool) → (q == k) ≡ b → get_or (inherits_at stored vs q) k [] ≡ inherits b (parent_at stored k) (λ j. get_or vs j []) k
at_test stored vs q k true is =
    let same : q ≡ k = (Decides-eqb q k).0 is in
    ap (λ (p : ℕ). get_or (inherits_at stored vs p) k []) same ∙ same_place vs k (parent_at stored k)
at_test stored vs q k false is =
    other_place vs q k (parent_at stored q) (λ (same : k ≡ q). let yes_is : (q == k) ≡ true = (Decides-eqb q k).1 (sym same) in let wrong : true ≡ false = sym yes_is ∙ is in cc)

values_next : (stored : List Stored) (vs : List Values) (before : List ℕ) (q : ℕ) → ((k : ℕ) → get_or vs k [] ≡ values_after stored before k) → (k : ℕ) → get_or (inherits_at stored vs q) k [] ≡ values_after stored (q ∷ before) k
unfolding values_after
values_next stored vs before q h k =
    at_test stored vs q k (q == k) refl ∙ ap (λ (now : ℕ → Values). inherits (q == k) (parent_at stored k) now k) (fun_ext h)

pub values_then : (stored : List Stored) (places before : List ℕ) (vs : List Values) → ((k : ℕ) → get_or vs k [] ≡ values_after stored before k) → (k : ℕ) → get_or (all_inherit stored vs places) k [] ≡ values_after stored (reverse places ++ before) k
values_then stored [] before vs h k = h k
values_then stored (p ∷ ps) before vs h k =
    values_then stored ps (p ∷ before) (inherits_at stored vs p) (values_next stored vs before p h) k
    ∙ ap (λ (behind : List ℕ). values_after stored behind k) (sym (behind_place p ps before))

values_first : (stored : List Stored) (k : ℕ) → get_or (values_read stored) k [] ≡ values_of (slice_get stored k)
values_first [] k = refl
values_first (s ∷ ss) zero = refl
values_first (s ∷ ss) (suc k) = values_first ss k

pub values_are : (stored : List Stored) (places : List ℕ) → (λ k. get_or (all_inherit stored (values_read stored) places) k []) ≡ values_after stored (reverse places)
unfolding values_after
values_are stored places = fun_ext (λ k. values_then stored places [] (values_read stored) (values_first stored) k ∙ ap (λ (behind : List ℕ). values_after stored behind k) (append-nil (reverse places)))

pub entries_are : (a : Asked) (min : ℕ) (stored : List Stored) (places : List ℕ) (values : List Values) → places ≡ listed a stored → values ≡ all_inherit stored (values_read stored) places →
    entries_by a min stored (λ k. get_or values k []) places ≡ entries_seen a min stored
unfolding entries_seen
entries_are a min stored places values listed_is values_is =
    ap (λ (vs : List Values). entries_by a min stored (λ k. get_or vs k []) places) values_is
    ∙ ap (λ (now : ℕ → Values). entries_by a min stored now places) (values_are stored places)
    ∙ ap (λ (ps : List ℕ). entries_by a min stored (values_after stored (reverse ps)) ps) listed_is
