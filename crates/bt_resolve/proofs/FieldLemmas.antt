-- One more field, in its slot.
use Rattle.std.proofs.Common.{◌≡◌, ◌∙◌, ap, sym, refl, ℕ, suc, ◌+◌, ◌<◌, Bool, true, false, IsTrue, List, [], ◌∷◌, ◌++◌, length, map, take, drop, get_or, Option, Some, None, append_assoc, inl, inr}
use Rattle.std.specs.Prelude.{cond, find, not, ◌&&◌, ◌||◌, is_some, option_map, slice_get, slice_set, if◌then◌else◌}
use Rattle.std.specs.Cmp.Lexicographic.{nat_list_eq_equiv}
use Rattle.std.proofs.Math.Path.{fun_ext}
use Rattle.std.proofs.lemmas.Bool.{cases_Bool, cond-true, cond-false}
use Rattle.std.proofs.lemmas.List.{drop_more, take_more}
use Rattle.bt_text.specs.CaseFolding.{folded, is_same_folded}
use Rattle.bt_bib.specs.declared.item.Field.{Field}
use Rattle.bt_log.specs.declared.message.Message.{Message}
use Rattle.bt_resolve.specs.declared.fields.Slot.{Slot}
use Rattle.bt_resolve.specs.declared.fields.Slot.TheVariants.{Crossref, Value}
use Rattle.bt_resolve.specs.declared.fields.Given.{Given}
use Rattle.bt_text.specs.ByName.{no_value}
use Rattle.bt_text.specs.NameList.{has_name, are_apart}
use Rattle.bt_resolve.specs.Names.{crossref, place_of_name}
use Rattle.bt_resolve.specs.Values.{MacroTexts, field_value, value_warnings}
use Rattle.bt_resolve.specs.declared.place.Origin.{Origin}
use Rattle.bt_resolve.specs.Fields.{given_value, field_messages, fields_messages}
use Rattle.bt_resolve.specs.inner.Cases.{own_value, is_declared, has_field, declared_messages}
use Rattle.bt_resolve.specs.inner.Slots.{slot_of, given_by, is_filled, is_filled_at, fill, with_field, extra_messages, slot_messages}

-- names that match have the same result
pub same_at : (n m other : List ℕ) → is_same_folded n m ≡ true → is_same_folded n other ≡ is_same_folded m other
same_at n m other same = nat_list_eq_equiv.congr (folded n) (folded m) (folded other) same

pub same_back : (n m : List ℕ) → is_same_folded n m ≡ is_same_folded m n
same_back n m = nat_list_eq_equiv.symm (folded n) (folded m)

pub same_in : (n m other : List ℕ) → is_same_folded n m ≡ true → is_same_folded other n ≡ is_same_folded other m
same_in n m other same = same_back other n ∙ same_at n m other same ∙ same_back m other

given_alike : (macros : MacroTexts) (fields : List Field) (n m : List ℕ) → is_same_folded n m ≡ true → given_value macros fields n ≡ given_value macros fields m
unfolding given_value
given_alike macros fields n m same =
    let tests : (λ (f : Field). is_same_folded f.name n) ≡ (λ (f : Field). is_same_folded f.name m) = fun_ext (λ (f : Field). same_in n m f.name same) in
    ap (λ (test : Field → Bool). option_map (λ (f : Field). field_value macros f.value) (find test fields)) tests

-- if there is a value for a name, there is a field of that name
found_is : (b : Bool) (macros : MacroTexts) (f : Field) (o : Option Field) (c : Bool) → is_some (option_map (λ (g : Field). field_value macros g.value) o) ≡ c → is_some (option_map (λ (g : Field). field_value macros g.value) (cond b (Some f) o)) ≡ (b || c)
found_is true macros f o c h = refl
found_is false macros f o c h = h

given_is : (macros : MacroTexts) (fields : List Field) (name : List ℕ) → is_some (given_value macros fields name) ≡ has_field fields name
unfolding given_value
given_is macros [] name = refl
given_is macros (f ∷ fs) name = found_is (is_same_folded f.name name) macros f (find (λ (g : Field). is_same_folded g.name name) fs) (has_field fs name) (given_is macros fs name)

-- the first of two
abbrev or_then : Option (List ℕ) → Option (List ℕ) → Option (List ℕ)
or_then (Some t) u = Some t
or_then None u = u

abbrev only_at : Bool → List ℕ → Option (List ℕ)
only_at b t = if b then Some t else None

last_found : (b : Bool) (macros : MacroTexts) (f : Field) → option_map (λ (g : Field). field_value macros g.value) (cond b (Some f) None) ≡ only_at b (field_value macros f.value)
last_found true macros f = refl
last_found false macros f = refl

found_first : (b : Bool) (macros : MacroTexts) (g : Field) (later before : Option Field) (u : Option (List ℕ)) →
    option_map (λ (h : Field). field_value macros h.value) later ≡ or_then (option_map (λ (h : Field). field_value macros h.value) before) u →
    option_map (λ (h : Field). field_value macros h.value) (cond b (Some g) later) ≡ or_then (option_map (λ (h : Field). field_value macros h.value) (cond b (Some g) before)) u
found_first true macros g later before u h = refl
found_first false macros g later before u h = h

pub given_more : (macros : MacroTexts) (before : List Field) (f : Field) (name : List ℕ) → given_value macros (before ++ f ∷ []) name ≡ or_then (given_value macros before name) (only_at (is_same_folded f.name name) (field_value macros f.value))
unfolding given_value
given_more macros [] f name = last_found (is_same_folded f.name name) macros f
given_more macros (g ∷ gs) f name = found_first (is_same_folded g.name name) macros g (find (λ (h : Field). is_same_folded h.name name) (gs ++ f ∷ [])) (find (λ (h : Field). is_same_folded h.name name) gs) (only_at (is_same_folded f.name name) (field_value macros f.value)) (given_more macros gs f name)

or_nothing : (o : Option (List ℕ)) → or_then o None ≡ o
or_nothing None = refl
or_nothing (Some t) = refl

-- a field of another name changes nothing
given_other : (macros : MacroTexts) (before : List Field) (f : Field) (name : List ℕ) → is_same_folded f.name name ≡ false → given_value macros (before ++ f ∷ []) name ≡ given_value macros before name
given_other macros before f name other = given_more macros before f name ∙ ap (λ (b : Bool). or_then (given_value macros before name) (only_at b (field_value macros f.value))) other ∙ or_nothing (given_value macros before name)

or_there : (o u : Option (List ℕ)) → is_some o ≡ true → or_then o u ≡ o
or_there None u h = let wrong : false ≡ true = h in cc
or_there (Some t) u h = refl

or_missing : (o u : Option (List ℕ)) → is_some o ≡ false → or_then o u ≡ u
or_missing None u h = refl
or_missing (Some t) u h = let wrong : true ≡ false = h in cc

-- a second field of the name changes nothing, either
given_again : (macros : MacroTexts) (before : List Field) (f : Field) (name : List ℕ) → is_some (given_value macros before name) ≡ true → given_value macros (before ++ f ∷ []) name ≡ given_value macros before name
given_again macros before f name there = given_more macros before f name ∙ or_there (given_value macros before name) (only_at (is_same_folded f.name name) (field_value macros f.value)) there

given_now : (macros : MacroTexts) (before : List Field) (f : Field) (name : List ℕ) → is_some (given_value macros before name) ≡ false → is_same_folded f.name name ≡ true → given_value macros (before ++ f ∷ []) name ≡ Some (field_value macros f.value)
given_now macros before f name missing same =
    given_more macros before f name
    ∙ or_missing (given_value macros before name) (only_at (is_same_folded f.name name) (field_value macros f.value)) missing
    ∙ ap (λ (b : Bool). only_at b (field_value macros f.value)) same

-- ---- lists of values by names

abbrev Values : Type 0
Values = List (Option (List ℕ))

pub or_false : (a b : Bool) → (a || b) ≡ false → (a ≡ false) × (b ≡ false)
or_false true b h = let wrong : true ≡ false = h in cc
or_false false b h = (refl, h)

pub and_true : (a b : Bool) → IsTrue (not a && b) → (a ≡ false) × IsTrue b
and_true true b h = let wrong : false ≡ true = h in cc
and_true false b h = (refl, h)

both_cons : (v w : Option (List ℕ)) (vs ws : Values) → v ≡ w → vs ≡ ws → v ∷ vs ≡ w ∷ ws
both_cons v w vs ws h hs = ap (λ (x : Option (List ℕ)). x ∷ vs) h ∙ ap (λ (xs : Values). w ∷ xs) hs

map_off : (f g : List ℕ → Option (List ℕ)) (name : List ℕ) → ((n : List ℕ) → is_same_folded n name ≡ false → g n ≡ f n) → (ns : List (List ℕ)) → has_name ns name ≡ false → map g ns ≡ map f ns
map_off f g name off [] none = refl
map_off f g name off (n ∷ ns) none =
    let both : (is_same_folded n name ≡ false) × (has_name ns name ≡ false) = or_false (is_same_folded n name) (has_name ns name) none in
    both_cons (g n) (f n) (map g ns) (map f ns) (off n both.0) (map_off f g name off ns both.1)

pub has_alike : (ns : List (List ℕ)) (n m : List ℕ) → is_same_folded n m ≡ true → has_name ns n ≡ has_name ns m
has_alike [] n m same = refl
has_alike (k ∷ ks) n m same = ap (λ (b : Bool). b || has_name ks n) (same_in n m k same) ∙ ap (λ (b : Bool). is_same_folded k m || b) (has_alike ks n m same)

pub some_zero : (b : Bool) (o : Option ℕ) (p : ℕ) → b ≡ true → (if b then Some 0 else option_map (λ i. suc i) o) ≡ Some p → Some 0 ≡ Some p
some_zero true o p is h = h
some_zero false o p is h = let wrong : false ≡ true = is in cc

pub some_suc : (b : Bool) (o : Option ℕ) (p : ℕ) → b ≡ false → (if b then Some 0 else option_map (λ i. suc i) o) ≡ Some p → option_map (λ i. suc i) o ≡ Some p
some_suc true o p is h = let wrong : true ≡ false = is in cc
some_suc false o p is h = h

abbrev pub value_or : Option ℕ → ℕ → ℕ
value_or None d = d
value_or (Some p) d = p

pub before_suc : (o : Option ℕ) (p : ℕ) → option_map (λ i. suc i) o ≡ Some p → (q : ℕ) × ((p ≡ suc q) × (o ≡ Some q))
before_suc None p h = let wrong : let none : Option ℕ = None in none ≡ Some p = h in cc
before_suc (Some q) p h = (q, (sym (ap (λ (o : Option ℕ). value_or o 0) h), refl))

-- another value at the place of a name, and the same values elsewhere
map_at : (f g : List ℕ → Option (List ℕ)) (name : List ℕ) (w : Option (List ℕ)) → ((n : List ℕ) → is_same_folded n name ≡ false → g n ≡ f n) → ((n : List ℕ) → is_same_folded n name ≡ true → g n ≡ w) →
    (ns : List (List ℕ)) → IsTrue (are_apart ns) → (p : ℕ) → place_of_name ns name ≡ Some p → map g ns ≡ slice_set (map f ns) p w
map_at f g name w off on [] apart p at = let wrong : let none : Option ℕ = None in none ≡ Some p = at in cc
map_at f g name w off on (n ∷ ns) apart p at =
    let both : (has_name ns n ≡ false) × IsTrue (are_apart ns) = and_true (has_name ns n) (are_apart ns) apart in
    elim (cases_Bool (is_same_folded n name)) [
      | inl same ↦
          let zero_is : 0 ≡ p = ap (λ (o : Option ℕ). value_or o 0) (some_zero (is_same_folded n name) (place_of_name ns name) p same at) in
          both_cons (g n) w (map g ns) (map f ns) (on n same) (map_off f g name off ns (sym (has_alike ns n name same) ∙ both.0))
          ∙ ap (λ (i : ℕ). slice_set (f n ∷ map f ns) i w) zero_is
      | inr other ↦
          let q = before_suc (place_of_name ns name) p (some_suc (is_same_folded n name) (place_of_name ns name) p other at) in
          both_cons (g n) (f n) (map g ns) (slice_set (map f ns) q.0 w) (off n other) (map_at f g name w off on ns both.1 q.0 q.1.1)
          ∙ ap (λ (i : ℕ). slice_set (f n ∷ map f ns) i w) (sym q.1.0)
    ]

-- the value at the place of a name, if names that match have the same value
map_get : (f : List ℕ → Option (List ℕ)) (name : List ℕ) → ((n : List ℕ) → is_same_folded n name ≡ true → f n ≡ f name) → (ns : List (List ℕ)) (p : ℕ) → place_of_name ns name ≡ Some p → slice_get (map f ns) p ≡ Some (f name)
map_get f name alike [] p at = let wrong : let none : Option ℕ = None in none ≡ Some p = at in cc
map_get f name alike (n ∷ ns) p at =
    elim (cases_Bool (is_same_folded n name)) [
      | inl same ↦
          let zero_is : 0 ≡ p = ap (λ (o : Option ℕ). value_or o 0) (some_zero (is_same_folded n name) (place_of_name ns name) p same at) in
          ap (λ (i : ℕ). slice_get (f n ∷ map f ns) i) (sym zero_is) ∙ ap (λ (v : Option (List ℕ)). Some v) (alike n same)
      | inr other ↦
          let q = before_suc (place_of_name ns name) p (some_suc (is_same_folded n name) (place_of_name ns name) p other at) in
          ap (λ (i : ℕ). slice_get (f n ∷ map f ns) i) q.1.0 ∙ map_get f name alike ns q.0 q.1.1
    ]

none_has : (b c : Bool) (o : Option ℕ) → (o ≡ None → c ≡ false) → (if b then Some 0 else option_map (λ i. suc i) o) ≡ None → (b || c) ≡ false
none_has true c o h is = let wrong : let none : Option ℕ = None in Some 0 ≡ none = is in cc
none_has false c None h is = h refl
none_has false c (Some p) h is = let wrong : let none : Option ℕ = None in Some (suc p) ≡ none = is in cc

no_place : (ns : List (List ℕ)) (name : List ℕ) → place_of_name ns name ≡ None → has_name ns name ≡ false
no_place [] name h = refl
no_place (n ∷ ns) name h = none_has (is_same_folded n name) (has_name ns name) (place_of_name ns name) (no_place ns name) h

some_has : (b c : Bool) (o : Option ℕ) (p : ℕ) → ((q : ℕ) → o ≡ Some q → c ≡ true) → (if b then Some 0 else option_map (λ i. suc i) o) ≡ Some p → (b || c) ≡ true
some_has true c o p h is = refl
some_has false c None p h is = let wrong : let none : Option ℕ = None in none ≡ Some p = is in cc
some_has false c (Some q) p h is = h q refl

pub a_place : (ns : List (List ℕ)) (name : List ℕ) (p : ℕ) → place_of_name ns name ≡ Some p → has_name ns name ≡ true
a_place [] name p h = let wrong : let none : Option ℕ = None in none ≡ Some p = h in cc
a_place (n ∷ ns) name p h = some_has (is_same_folded n name) (has_name ns name) (place_of_name ns name) p (λ q is. a_place ns name q is) h

-- ---- one field more

unless : (b : Bool) (v w : Option (List ℕ)) → (b ≡ false → v ≡ w) → (if b then None else v) ≡ (if b then None else w)
unless true v w h = refl
unless false v w h = h refl

-- the value of a name stays the same if the field has another name or isn't the first with this name
own_stays : (macros : MacroTexts) (before : List Field) (f : Field) (n : List ℕ) → (is_same_folded n crossref ≡ false → given_value macros (before ++ f ∷ []) n ≡ given_value macros before n) → own_value macros (before ++ f ∷ []) n ≡ own_value macros before n
own_stays macros before f n h = unless (is_same_folded n crossref) (given_value macros (before ++ f ∷ []) n) (given_value macros before n) h

not_crossref : (b : Bool) (v : Option (List ℕ)) → b ≡ false → (if b then None else v) ≡ v
not_crossref true v h = let wrong : true ≡ false = h in cc
not_crossref false v h = refl

own_alike : (macros : MacroTexts) (before : List Field) (n m : List ℕ) → is_same_folded n m ≡ true → own_value macros before n ≡ own_value macros before m
own_alike macros before n m same =
    ap (λ (b : Bool). if b then None else given_value macros before n) (same_at n m crossref same)
    ∙ ap (λ (v : Option (List ℕ)). if is_same_folded m crossref then None else v) (given_alike macros before n m same)

made : (vs ws : Values) (c d : Option (List ℕ)) → vs ≡ ws → c ≡ d → let g : Given = record { values = vs; crossref = c } in let h : Given = record { values = ws; crossref = d } in g ≡ h
made vs ws c d h k = ap (λ (xs : Values). let g : Given = record { values = xs; crossref = c } in g) h ∙ ap (λ (x : Option (List ℕ)). let g : Given = record { values = ws; crossref = x } in g) k

by_filled : (b : Bool) (g h k : Given) → (b ≡ true → k ≡ g) → (b ≡ false → k ≡ h) → k ≡ (if b then g else h)
by_filled true g h k there missing = there refl
by_filled false g h k there missing = missing refl

unless_none : (b : Bool) → (if b then None else (let none : Option (List ℕ) = None in none)) ≡ None
unless_none true = refl
unless_none false = refl

abbrev Step : List (List ℕ) → MacroTexts → List Field → Field → Option Slot → Type 0
Step ns macros before f slot = given_by ns macros (before ++ f ∷ []) ≡ with_field slot (field_value macros f.value) (given_by ns macros before)

step_crossref : (ns : List (List ℕ)) (macros : MacroTexts) (before : List Field) (f : Field) → is_same_folded f.name crossref ≡ true → Step ns macros before f (Some Crossref)
step_crossref ns macros before f same =
    let own = own_value macros before in
    let own' = own_value macros (before ++ f ∷ []) in
    let stays : own' ≡ own = fun_ext (λ n. own_stays macros before f n (λ apart. given_other macros before f n (same_at f.name crossref n same ∙ same_back crossref n ∙ apart))) in
    let values : map own' ns ≡ map own ns = ap (λ (g : List ℕ → Option (List ℕ)). map g ns) stays in
    by_filled (is_some (given_value macros before crossref)) (given_by ns macros before) (fill Crossref (field_value macros f.value) (given_by ns macros before)) (given_by ns macros (before ++ f ∷ []))
    (λ there. made (map own' ns) (map own ns) (given_value macros (before ++ f ∷ []) crossref) (given_value macros before crossref) values (given_again macros before f crossref there))
    (λ missing. made (map own' ns) (map own ns) (given_value macros (before ++ f ∷ []) crossref) (Some (field_value macros f.value)) values (given_now macros before f crossref missing same))

step_none : (ns : List (List ℕ)) (macros : MacroTexts) (before : List Field) (f : Field) → is_same_folded f.name crossref ≡ false → place_of_name ns f.name ≡ None → Step ns macros before f None
step_none ns macros before f apart none =
    let own = own_value macros before in
    let own' = own_value macros (before ++ f ∷ []) in
    made (map own' ns) (map own ns) (given_value macros (before ++ f ∷ []) crossref) (given_value macros before crossref)
    (map_off own own' f.name (λ n other. own_stays macros before f n (λ _. given_other macros before f n (same_back f.name n ∙ other))) ns (no_place ns f.name none))
    (given_other macros before f crossref apart)

-- the slot of a name is filled if there is an earlier field of the name
filled_is : (ns : List (List ℕ)) (macros : MacroTexts) (before : List Field) (name : List ℕ) (p : ℕ) → is_same_folded name crossref ≡ false → place_of_name ns name ≡ Some p →
    is_filled_at (slice_get (map (own_value macros before) ns) p) ≡ is_some (given_value macros before name)
filled_is ns macros before name p apart at =
    ap is_filled_at (map_get (own_value macros before) name (λ n same. own_alike macros before n name same) ns p at)
    ∙ ap (λ (v : Option (List ℕ)). is_some v) (not_crossref (is_same_folded name crossref) (given_value macros before name) apart)

step_value : (ns : List (List ℕ)) (macros : MacroTexts) (before : List Field) (f : Field) (p : ℕ) → IsTrue (are_apart ns) → is_same_folded f.name crossref ≡ false → place_of_name ns f.name ≡ Some p → Step ns macros before f (Some (Value p))
step_value ns macros before f p all_apart apart at =
    let own = own_value macros before in
    let own' = own_value macros (before ++ f ∷ []) in
    let filled = filled_is ns macros before f.name p apart at in
    let other = λ (n : List ℕ) (off : is_same_folded n f.name ≡ false). own_stays macros before f n (λ _. given_other macros before f n (same_back f.name n ∙ off)) in
    let v = field_value macros f.value in
    let same_crossref = given_other macros before f crossref apart in
    by_filled (is_filled_at (slice_get (map own ns) p)) (given_by ns macros before) (fill (Value p) v (given_by ns macros before)) (given_by ns macros (before ++ f ∷ []))
    (λ there.
    let stays : own' ≡ own = fun_ext (λ n. elim (cases_Bool (is_same_folded n f.name)) [
      | inl same ↦ own_stays macros before f n (λ _. given_again macros before f n (ap (λ (w : Option (List ℕ)). is_some w) (given_alike macros before n f.name same) ∙ sym filled ∙ there))
      | inr off ↦ other n off
    ]) in
    made (map own' ns) (map own ns) (given_value macros (before ++ f ∷ []) crossref) (given_value macros before crossref) (ap (λ (g : List ℕ → Option (List ℕ)). map g ns) stays) same_crossref)
    (λ missing.
    made (map own' ns) (slice_set (map own ns) p (Some v)) (given_value macros (before ++ f ∷ []) crossref) (given_value macros before crossref)
    (map_at own own' f.name (Some v) other
    (λ n same.
    not_crossref (is_same_folded n crossref) (given_value macros (before ++ f ∷ []) n) (same_at n f.name crossref same ∙ apart)
    ∙ given_now macros before f n (ap (λ (w : Option (List ℕ)). is_some w) (given_alike macros before n f.name same) ∙ sym filled ∙ missing) (same_back f.name n ∙ same))
    ns all_apart p at)
    same_crossref)

step_by : (ns : List (List ℕ)) (macros : MacroTexts) (before : List Field) (f : Field) (b : Bool) (o : Option ℕ) → IsTrue (are_apart ns) → is_same_folded f.name crossref ≡ b → place_of_name ns f.name ≡ o → Step ns macros before f (if b then Some Crossref else option_map (λ p. Value p) o)
step_by ns macros before f true o all_apart is at = step_crossref ns macros before f is
step_by ns macros before f false None all_apart is at = step_none ns macros before f is at
step_by ns macros before f false (Some p) all_apart is at = step_value ns macros before f p all_apart is at

pub field_step : (ns : List (List ℕ)) (macros : MacroTexts) (before : List Field) (f : Field) → IsTrue (are_apart ns) → given_by ns macros (before ++ f ∷ []) ≡ with_field (slot_of ns f.name) (field_value macros f.value) (given_by ns macros before)
field_step ns macros before f all_apart = step_by ns macros before f (is_same_folded f.name crossref) (place_of_name ns f.name) all_apart refl refl

-- ---- and its messages

abbrev Tells : List (List ℕ) → MacroTexts → Origin → List ℕ → List Field → Field → Option Slot → Type 0
Tells ns macros origin key before f slot = slot_messages slot (given_by ns macros before) macros origin key f ≡ declared_messages ns macros origin key before f

-- of a declared field, whose slot is filled if there is an earlier field of its name
tells_slot : (ns : List (List ℕ)) (macros : MacroTexts) (origin : Origin) (key : List ℕ) (before : List Field) (f : Field) (slot : Slot) → is_declared ns f.name ≡ true → is_filled slot (given_by ns macros before) ≡ has_field before f.name → Tells ns macros origin key before f (Some slot)
tells_slot ns macros origin key before f slot declared filled =
    ap (λ (b : Bool). value_warnings None macros origin f.line f.name f.value ++ extra_messages b origin key f) filled
    ∙ sym (cond-true (is_declared ns f.name) (field_messages macros origin key before f) [] declared)

tells_by : (ns : List (List ℕ)) (macros : MacroTexts) (origin : Origin) (key : List ℕ) (before : List Field) (f : Field) (b : Bool) (o : Option ℕ) → is_same_folded f.name crossref ≡ b → place_of_name ns f.name ≡ o → Tells ns macros origin key before f (if b then Some Crossref else option_map (λ p. Value p) o)
tells_by ns macros origin key before f true o is at =
    tells_slot ns macros origin key before f Crossref (ap (λ (b : Bool). b || has_name ns f.name) is)
    (sym (ap (λ (v : Option (List ℕ)). is_some v) (given_alike macros before f.name crossref is)) ∙ given_is macros before f.name)
tells_by ns macros origin key before f false None is at =
    sym (cond-false (is_declared ns f.name) (field_messages macros origin key before f) [] (ap (λ (b : Bool). b || has_name ns f.name) is ∙ no_place ns f.name at))
tells_by ns macros origin key before f false (Some p) is at =
    tells_slot ns macros origin key before f (Value p) (ap (λ (b : Bool). b || has_name ns f.name) is ∙ a_place ns f.name p at)
    (filled_is ns macros before f.name p is at ∙ given_is macros before f.name)

field_told : (ns : List (List ℕ)) (macros : MacroTexts) (origin : Origin) (key : List ℕ) (before : List Field) (f : Field) → slot_messages (slot_of ns f.name) (given_by ns macros before) macros origin key f ≡ declared_messages ns macros origin key before f
field_told ns macros origin key before f = tells_by ns macros origin key before f (is_same_folded f.name crossref) (place_of_name ns f.name) refl refl

-- ---- in a loop over the fields

pub fields_next : (ns : List (List ℕ)) (macros : MacroTexts) (fields : List Field) (i : ℕ) (f : Field) (g : Given) → IsTrue (are_apart ns) → i < length fields → f ≡ get_or fields i f →
    g ≡ given_by ns macros (take i fields) → with_field (slot_of ns f.name) (field_value macros f.value) g ≡ given_by ns macros (take (i + 1) fields)
fields_next ns macros fields i f g apart less is so_far =
    ap (with_field (slot_of ns f.name) (field_value macros f.value)) so_far
    ∙ sym (field_step ns macros (take i fields) f apart)
    ∙ ap (λ (x : Field). given_by ns macros (take i fields ++ x ∷ [])) is
    ∙ ap (given_by ns macros) (sym (take_more fields i f less))

pub told_next : (ns : List (List ℕ)) (macros : MacroTexts) (origin : Origin) (key : List ℕ) (m : List Message) (fields : List Field) (i : ℕ) (f : Field) (g : Given) → i < length fields → f ≡ get_or fields i f →
    g ≡ given_by ns macros (take i fields) →
    (m ++ slot_messages (slot_of ns f.name) g macros origin key f) ++ fields_messages ns macros origin key (take (i + 1) fields) (drop (i + 1) fields)
    ≡ m ++ fields_messages ns macros origin key (take i fields) (drop i fields)
told_next ns macros origin key m fields i f g less is so_far =
    let t : take (i + 1) fields ≡ take i fields ++ f ∷ [] = take_more fields i f less ∙ ap (λ (x : Field). take i fields ++ x ∷ []) (sym is) in
    let d : drop i fields ≡ f ∷ drop (i + 1) fields = drop_more fields i f less ∙ ap (λ (x : Field). x ∷ drop (i + 1) fields) (sym is) in
    let rest = fields_messages ns macros origin key (take (i + 1) fields) (drop (i + 1) fields) in
    ap (λ (h : Given). (m ++ slot_messages (slot_of ns f.name) h macros origin key f) ++ rest) so_far
    ∙ ap (λ (told : List Message). (m ++ told) ++ rest) (field_told ns macros origin key (take i fields) f)
    ∙ append_assoc m (declared_messages ns macros origin key (take i fields) f) rest
    ∙ ap (λ (t : List Field). m ++ (declared_messages ns macros origin key (take i fields) f ++ fields_messages ns macros origin key t (drop (i + 1) fields))) t
    ∙ ap (λ (d : List Field). m ++ fields_messages ns macros origin key (take i fields) d) (sym d)

-- before the first field
pub nothing_given : (ns : List (List ℕ)) (macros : MacroTexts) (values : Values) → values ≡ map no_value ns → let g : Given = record { values = values; crossref = None } in g ≡ given_by ns macros []
unfolding given_value
nothing_given ns macros values none =
    let same : no_value ≡ own_value macros [] = fun_ext (λ n. sym (unless (is_same_folded n crossref) (given_value macros [] n) None (λ _. refl) ∙ unless_none (is_same_folded n crossref))) in
    made values (map (own_value macros []) ns) None None (none ∙ ap (λ (g : List ℕ → Option (List ℕ)). map g ns) same) refl
