-- Hashed tables of names, and lists of names that are kept in one.
use Rattle.std.proofs.Common.{◌≡◌, refl, sym, ap, ◌∙◌, ℕ, suc, ◌+◌, ◌||◌, arith, Bool, true, false, cond, List, [], ◌∷◌, ◌++◌, map, Option, Some, None}
use Rattle.std.specs.Prelude.{bytes_eq, is_some, position, option_map, if◌then◌else◌, Result, Ok, Err, IsOk, IfOk, OnOk, OnErr, Vec}
use Rattle.std.specs.List.{list_any, position_from}
use Rattle.std.specs.Map.{lookup}
use Rattle.std.specs.declared.alloc.Global.{Global}
use Rattle.std.specs.Cmp.Lexicographic.{bytes_decides, nat_list_eq_equiv}
use Rattle.std.proofs.lemmas.Bool.{cond-false}
use Rattle.std.proofs.lemmas.List.{map-append}
use Rattle.std.proofs.lemmas.Iterator.Adapters.{position_from-zero}
use Rattle.indexmap.specs.IndexMap.{insert_entry}
use Rattle.bt_text.specs.CaseFolding.{folded, is_same_folded}
use Rattle.bt_text.specs.NameList.{same_name}
use Rattle.bt_text.specs.ByName.{by_small, first_place}

pub if_ok : {A E : Type 0} (P Q : A → Type 0) (r : Result A E) → ((x : A) → P x → Q x) → IfOk r P → IfOk r Q
if_ok P Q (Ok x) f h = f x h
if_ok P Q (Err e) f h = h

pub on_ok : {A E : Type 0} (P : Type 0) (r : Result A E) → IsOk r → OnOk r P → P
on_ok P (Ok x) ok h = h
on_ok P (Err e) ok h = let wrong : false ≡ true = ok in cc

pub either_way : {A E : Type 0} (P Q R : Type 0) (r : Result A E) → (P → R) → (Q → R) → OnOk r P → OnErr r Q → R
either_way P Q R (Ok x) f g h k = f h
either_way P Q R (Err e) f g h k = g k

-- the place of the first element that passes a test, as the library finds it
abbrev from_place : ℕ → Option ℕ → Option ℕ
from_place i found = option_map (λ k. i + k) found

step : (b : Bool) (i : ℕ) (o : Option ℕ) → cond b (Some i) (from_place (i + 1) o) ≡ from_place i (if b then Some 0 else option_map (λ k. suc k) o)
step true i o = let n : i ≡ i + 0 = omega arith in ap (λ (k : ℕ). Some k) n
step false i None = refl
step false i (Some k) = let n : (i + 1) + k ≡ i + suc k = omega arith in ap (λ (j : ℕ). Some j) n

whole : (o : Option ℕ) → from_place 0 o ≡ o
whole None = refl
whole (Some k) = let n : 0 + k ≡ k = omega arith in ap (λ (j : ℕ). Some j) n

from : {K : Type 0} (test : K → Bool) (i : ℕ) (ks : List K) → position_from test i ks ≡ from_place i (first_place test ks)
from test i [] = refl
from test i (k ∷ ks) = ap (λ (o : Option ℕ). cond (test k) (Some i) o) (from test (i + 1) ks) ∙ step (test k) i (first_place test ks)

position_is_place : {K : Type 0} (test : K → Bool) (ks : List K) → position test ks ≡ first_place test ks
position_is_place test ks = position_from-zero test ks ∙ from test 0 ks ∙ whole (first_place test ks)

abbrev Stored : Type 0 → Type 0
Stored X = List (Vec ℕ Global × X)

abbrev Entries : Type 0 → Type 0
Entries X = List (List ℕ × X)

abbrev entries_of : {X : Type 0} → Stored X → Entries X
entries_of stored = map (λ e. (e.0.items, e.1)) stored

module _ {X : Type 0} where
  -- a map's words, on the entries with the bytes of their keys

  pub lookup_entries : (small : List ℕ) (stored : Stored X) → lookup (λ k. bytes_eq small k.items) stored ≡ lookup (bytes_eq small) (entries_of stored)
  lookup_entries small [] = refl
  lookup_entries small (e ∷ es) = ap (λ (o : Option X). cond (bytes_eq small e.0.items) (Some e.1) o) (lookup_entries small es)

  pub values_entries : (stored : Stored X) → map (λ e. e.1) stored ≡ map (λ e. e.1) (entries_of stored)
  values_entries [] = refl
  values_entries (e ∷ es) = ap (λ (xs : List X). e.1 ∷ xs) (values_entries es)

  place_keys : (small : List ℕ) (stored : Stored X) → first_place (λ k. bytes_eq small k.items) (map (λ e. e.0) stored) ≡ first_place (λ e. bytes_eq small e.0) (entries_of stored)
  place_keys small [] = refl
  place_keys small (e ∷ es) = ap (λ (o : Option ℕ). if bytes_eq small e.0.items then Some 0 else option_map (λ i. suc i) o) (place_keys small es)

  pub place_entries : (small : List ℕ) (stored : Stored X) → position (λ k. bytes_eq small k.items) (map (λ e. e.0) stored) ≡ first_place (λ e. bytes_eq small e.0) (entries_of stored)
  place_entries small stored = position_is_place (λ k. bytes_eq small k.items) (map (λ e. e.0) stored) ∙ place_keys small stored

  mapped : (b : Bool) (xs ys : Stored X) → entries_of (cond b xs ys) ≡ cond b (entries_of xs) (entries_of ys)
  mapped true xs ys = refl
  mapped false xs ys = refl

  pub insert_entries : (key : Vec ℕ Global) (x : X) (stored : Stored X) → entries_of (insert_entry (λ k m. bytes_eq k.items m.items) stored key x) ≡ insert_entry bytes_eq (entries_of stored) key.items x
  insert_entries key x [] = refl
  insert_entries key x (e ∷ es) =
      mapped (bytes_eq key.items e.0.items) ((e.0, x) ∷ es) (e ∷ insert_entry (λ k m. bytes_eq k.items m.items) es key x)
      ∙ ap (λ (more : Entries X). cond (bytes_eq key.items e.0.items) ((e.0.items, x) ∷ entries_of es) ((e.0.items, e.1) ∷ more)) (insert_entries key x es)

  -- what is found after an insertion

  replaced : (a b : Bool) (x y : X) (o : Option X) → a ≡ b → cond a (Some x) o ≡ cond b (Some x) (cond a (Some y) o)
  replaced true true x y o h = refl
  replaced false false x y o h = refl
  replaced true false x y o h = let wrong : true ≡ false = h in cc
  replaced false true x y o h = let wrong : false ≡ true = h in cc

  swapped : (a b : Bool) (x y : X) (o : Option X) → (b ≡ true → a ≡ false) → cond a (Some y) (cond b (Some x) o) ≡ cond b (Some x) (cond a (Some y) o)
  swapped true true x y o h = let wrong : true ≡ false = h refl in cc
  swapped true false x y o h = refl
  swapped false b x y o h = refl

  found_more : (small other : List ℕ) (x : X) (e : List ℕ × X) (es : Entries X) → lookup (bytes_eq other) (insert_entry bytes_eq es small x) ≡ cond (bytes_eq small other) (Some x) (lookup (bytes_eq other) es) →
      (b : Bool) → bytes_eq small e.0 ≡ b → lookup (bytes_eq other) (cond b ((e.0, x) ∷ es) (e ∷ insert_entry bytes_eq es small x)) ≡ cond (bytes_eq small other) (Some x) (lookup (bytes_eq other) (e ∷ es))
  found_more small other x e es rest true y =
      replaced (bytes_eq other e.0) (bytes_eq small other) x e.1 (lookup (bytes_eq other) es)
      (ap (λ (s : List ℕ). bytes_eq other s) (sym ((bytes_decides small e.0).0 y)) ∙ nat_list_eq_equiv.symm other small)
  found_more small other x e es rest false n =
      ap (λ (o : Option X). cond (bytes_eq other e.0) (Some e.1) o) rest
      ∙ swapped (bytes_eq other e.0) (bytes_eq small other) x e.1 (lookup (bytes_eq other) es)
      (λ y. ap (λ (s : List ℕ). bytes_eq s e.0) (sym ((bytes_decides small other).0 y)) ∙ n)

  pub lookup_insert : (small other : List ℕ) (x : X) (es : Entries X) → lookup (bytes_eq other) (insert_entry bytes_eq es small x) ≡ cond (bytes_eq small other) (Some x) (lookup (bytes_eq other) es)
  lookup_insert small other x [] = ap (λ (b : Bool). cond b (Some x) None) (nat_list_eq_equiv.symm other small)
  lookup_insert small other x (e ∷ es) = found_more small other x e es (lookup_insert small other x es) (bytes_eq small e.0) refl

  none_first : (b : Bool) (x : X) (o : Option X) → cond b (Some x) o ≡ None → (b ≡ false) × (o ≡ None)
  none_first true x o h = cc
  none_first false x o h = (refl, h)

  -- a new name goes last
  insert_last : (small : List ℕ) (x : X) (es : Entries X) → lookup (bytes_eq small) es ≡ None → insert_entry bytes_eq es small x ≡ es ++ (small, x) ∷ []
  insert_last small x [] none = refl
  insert_last small x (e ∷ es) none =
      let both : (bytes_eq small e.0 ≡ false) × (lookup (bytes_eq small) es ≡ None) = none_first (bytes_eq small e.0) e.1 (lookup (bytes_eq small) es) none in
      cond-false (bytes_eq small e.0) ((e.0, x) ∷ es) (e ∷ insert_entry bytes_eq es small x) both.0 ∙ ap (λ (more : Entries X). e ∷ more) (insert_last small x es both.1)

  -- values that have their names

  module _ (name : X → List ℕ) where
    pub place_by_small : (small : List ℕ) (xs : List X) → first_place (λ e. bytes_eq small e.0) (by_small name xs) ≡ first_place (λ x. bytes_eq (folded (name x)) small) xs
    place_by_small small [] = refl
    place_by_small small (x ∷ xs) =
        ap (λ (b : Bool). if b then Some 0 else option_map (λ i. suc i) (first_place (λ e. bytes_eq small e.0) (by_small name xs))) (nat_list_eq_equiv.symm small (folded (name x)))
        ∙ ap (λ (o : Option ℕ). if bytes_eq (folded (name x)) small then Some 0 else option_map (λ i. suc i) o) (place_by_small small xs)

    pub has_by_small : (small : List ℕ) (xs : List X) → is_some (lookup (bytes_eq small) (by_small name xs)) ≡ list_any (λ x. bytes_eq (folded (name x)) small) xs
    has_by_small small [] = refl
    has_by_small small (x ∷ xs) = there (bytes_eq small (folded (name x))) (bytes_eq (folded (name x)) small) (nat_list_eq_equiv.symm small (folded (name x))) ∙ ap (λ (b : Bool). bytes_eq (folded (name x)) small || b) (has_by_small small xs)
      where
        there : (a b : Bool) → a ≡ b → is_some (cond a (Some x) (lookup (bytes_eq small) (by_small name xs))) ≡ (b || is_some (lookup (bytes_eq small) (by_small name xs)))
        there true true h = refl
        there false false h = refl
        there true false h = let wrong : true ≡ false = h in cc
        there false true h = let wrong : false ≡ true = h in cc

    push_by_small : (x : X) (xs : List X) → lookup (bytes_eq (folded (name x))) (by_small name xs) ≡ None → insert_entry bytes_eq (by_small name xs) (folded (name x)) x ≡ by_small name (xs ++ x ∷ [])
    push_by_small x xs none = insert_last (folded (name x)) x (by_small name xs) none ∙ sym (map-append (λ y. (folded (name y), y)) xs (x ∷ []))

    -- a name that none has isn't found
    absent : (o : Option X) → is_some o ≡ false → o ≡ None
    absent None h = refl
    absent (Some x) h = let wrong : true ≡ false = h in cc

    pub absent_by_small : (small : List ℕ) (xs : List X) → list_any (λ x. bytes_eq (folded (name x)) small) xs ≡ false → lookup (bytes_eq small) (by_small name xs) ≡ None
    absent_by_small small xs h = absent (lookup (bytes_eq small) (by_small name xs)) (has_by_small small xs ∙ h)

    pub values_by_small : (xs : List X) → map (λ e. e.1) (by_small name xs) ≡ xs
    values_by_small [] = refl
    values_by_small (x ∷ xs) = ap (λ (ys : List X). x ∷ ys) (values_by_small xs)

    -- one value more, whose name none has
    pub more_by_small : (x : X) (xs : List X) (old new : Entries X) → old ≡ by_small name xs → lookup (bytes_eq (folded (name x))) (by_small name xs) ≡ None →
        new ≡ insert_entry bytes_eq old (folded (name x)) x → new ≡ by_small name (xs ++ x ∷ [])
    more_by_small x xs old new is none more = more ∙ ap (λ (es : Entries X). insert_entry bytes_eq es (folded (name x)) x) is ∙ push_by_small x xs none

    -- a list of entries by the values among them
    pub by_small_again : (xs : List X) (es : Entries X) → es ≡ by_small name xs → es ≡ by_small name (map (λ e. e.1) es)
    by_small_again xs es is = is ∙ ap (λ (ys : List X). by_small name ys) (sym (ap (λ (fs : Entries X). map (λ e. e.1) fs) is ∙ values_by_small xs))

-- the first of some names that matches a name
pub same_by_small : (name : List ℕ) (names : List (List ℕ)) → lookup (bytes_eq (folded name)) (by_small (λ n. n) names) ≡ same_name name names
same_by_small name [] = refl
same_by_small name (n ∷ ns) =
    ap (λ (b : Bool). cond b (Some n) (lookup (bytes_eq (folded name)) (by_small (λ m. m) ns))) (nat_list_eq_equiv.symm (folded name) (folded n))
    ∙ ap (λ (o : Option (List ℕ)). cond (is_same_folded n name) (Some n) o) (same_by_small name ns)
