-- Entries inherit the same if only those inherit that are needed.
use Rattle.std.proofs.Common.{◌≡◌, ◌≢◌, ◌∙◌, ap, sym, refl, subst, ℕ, ◌+◌, ◌<◌, ◌≤◌, Bool, true, false, List, [], ◌∷◌, length, map, drop, replicate, get_or, Option, Some, None}
use Rattle.std.specs.Prelude.{◌==◌}
use Rattle.std.proofs.lemmas.Bool.Decides.{Decides-eqb}
use Rattle.std.proofs.lemmas.List.{drop_all, drop_more}
use Rattle.bt_resolve.specs.declared.entry.Entry.{Entry}
use Rattle.bt_resolve.specs.declared.stored.Stored.{Stored}
use Rattle.bt_resolve.specs.Inherited.{inherited}
use Rattle.bt_resolve.specs.inner.Cases.{inherits, parent_at}
use Rattle.bt_resolve.specs.inner.Heirs.{AreSameAt, IsClosed, IsClosedAt, inherits_if, is_marked, made_if, some_inherit}
use Rattle.bt_resolve.specs.inner.Inheritance.{all_inherit, inherits_at}
use Rattle.bt_resolve.proofs.InheritingLemmas.{at_test, other_place}

abbrev Values : Type 0
Values = List (Option (List ℕ))

-- ---- marks

-- a mark for each entry
pub none_marked : (stored : List Stored) → replicate (length stored) false ≡ map (λ (s : Stored). false) stored
none_marked [] = refl
none_marked (s ∷ ss) = ap (λ (ms : List Bool). false ∷ ms) (none_marked ss)

-- ---- parents

pub closed_at : (stored : List Stored) (marks : List Bool) (k : ℕ) (ps : List ℕ) (p : ℕ) → k < length ps → p ≡ get_or ps k 0 → IsClosedAt stored marks p → IsClosed stored marks (drop (k + 1) ps) → IsClosed stored marks (drop k ps)
closed_at stored marks k ps p less is here rest =
    let parts : drop k ps ≡ p ∷ drop (k + 1) ps = drop_more ps k 0 less ∙ ap (λ (x : ℕ). x ∷ drop (k + 1) ps) (sym is) in
    subst (IsClosed stored marks) (sym parts) (here, rest)

pub closed_end : (stored : List Stored) (marks : List Bool) (k : ℕ) (ps : List ℕ) → length ps ≤ k → IsClosed stored marks (drop k ps)
closed_end stored marks k ps all = subst (IsClosed stored marks) (sym (drop_all k ps all)) tt

-- ---- values

inherits_same : (b : Bool) (o : Option ℕ) (now others : ℕ → Values) (p : ℕ) → now p ≡ others p → (b ≡ true → (q : ℕ) → o ≡ Some q → now q ≡ others q) → inherits b o now p ≡ inherits b o others p
inherits_same false o now others p same parent = same
inherits_same true None now others p same parent = same
inherits_same true (Some q) now others p same parent = λ j. inherited (same j) (parent refl q refl j)

-- one entry inherits, if it is marked
same_next : (stored : List Stored) (marks : List Bool) (p : ℕ) (b : Bool) (vs ws : List Values) → is_marked marks p ≡ b → IsClosedAt stored marks p → AreSameAt marks vs ws → AreSameAt marks (inherits_if b stored vs p) (inherits_at stored ws p)
same_next stored marks p true vs ws is closed same k marked =
    at_test stored vs p k (p == k) refl
    ∙ inherits_same (p == k) (parent_at stored k) (λ j. get_or vs j []) (λ j. get_or ws j []) k (same k marked) (λ here q parent.
    let one : p ≡ k = (Decides-eqb p k).0 here in
    same q (closed is q (ap (parent_at stored) one ∙ parent)))
    ∙ sym (at_test stored ws p k (p == k) refl)
same_next stored marks p false vs ws is closed same k marked =
    let other : k ≢ p = λ (one : k ≡ p). (let wrong : true ≡ false = sym marked ∙ ap (is_marked marks) one ∙ is in cc) in
    same k marked ∙ sym (other_place ws p k (parent_at stored p) other)

same_all : (stored : List Stored) (marks : List Bool) (ps : List ℕ) (vs ws : List Values) → IsClosed stored marks ps → AreSameAt marks vs ws → AreSameAt marks (some_inherit stored marks vs ps) (all_inherit stored ws ps)
same_all stored marks [] vs ws closed same = same
same_all stored marks (p ∷ ps) vs ws closed same =
    same_all stored marks ps (inherits_if (is_marked marks p) stored vs p) (inherits_at stored ws p) closed.1 (same_next stored marks p (is_marked marks p) vs ws refl closed.0 same)

-- what marked entries inherit is the same if only they inherit
pub needed_same : (stored : List Stored) (marks : List Bool) (ps : List ℕ) (before after : List Values) → IsClosed stored marks ps → after ≡ some_inherit stored marks before ps → AreSameAt marks after (all_inherit stored before ps)
needed_same stored marks ps before after closed is k marked =
    ap (λ (vs : List Values). get_or vs k []) is ∙ same_all stored marks ps before before closed (λ j any. refl) k marked

-- ---- entries

made_same : (b : Bool) (made others old : Option Entry) → (b ≡ true → made ≡ others) → made_if b made old ≡ made_if b others old
made_same true made others old same = same refl
made_same false made others old same = refl
