-- Places of names.
use Rattle.std.proofs.Common.{◌≡◌, ◌∙◌, ap, sym, refl, subst, ℕ, suc, ◌+◌, ◌<◌, ◌≤◌, Bool, true, false, List, [], ◌∷◌, length, drop, get_or, Option, Some, None, arith}
use Rattle.std.specs.Prelude.{option_map, option_and_then, unwrap_or, slice_get, if◌then◌else◌}
use Rattle.std.proofs.lemmas.List.{drop_all, drop_more}
use Rattle.std.proofs.lemmas.Option.{slice_get-map}
use Rattle.std.proofs.Math.Path.{fun_ext}
use Rattle.bt_text.specs.CaseFolding.{is_same_folded}
use Rattle.bt_text.specs.ByName.{with_value, no_value}
use Rattle.bt_text.specs.NameList.{same_name}
use Rattle.bt_resolve.specs.Inherited.{key_spelled}
use Rattle.bt_resolve.specs.Names.{place_of_name}
use Rattle.bt_resolve.specs.declared.index.Known.{Known}
use Rattle.bt_resolve.specs.inner.Names.{from_place, places_from, AreKnown}

abbrev Place : Type 0
Place = Option ℕ

-- after the last name no place is found
pub none_behind : (names : List (List ℕ)) (n : ℕ) → drop n names ≡ [] → no_value ≡ places_from names n
none_behind names n empty = fun_ext (λ name. ap (λ (ns : List (List ℕ)). from_place n (place_of_name ns name)) (sym empty))

place_step : (b : Bool) (i : ℕ) (o : Place) → (if b then Some i else from_place (i + 1) o) ≡ from_place i (if b then Some 0 else option_map (λ k. suc k) o)
place_step true i o = let n : i ≡ i + 0 = omega arith in ap (λ (k : ℕ). Some k) n
place_step false i None = refl
place_step false i (Some k) = let n : (i + 1) + k ≡ i + suc k = omega arith in ap (λ (j : ℕ). Some j) n

-- a name, and those behind it
pub place_next : (b : Bool) (names : List (List ℕ)) (place : ℕ) (x d name : List ℕ) → b ≡ is_same_folded x name → place < length names → x ≡ get_or names place d →
    (if b then Some place else places_from names (place + 1) name) ≡ places_from names place name
place_next b names place x d name same less is =
    place_step b place (place_of_name (drop (place + 1) names) name)
    ∙ ap (λ (c : Bool). from_place place (if c then Some 0 else option_map (λ k. suc k) (place_of_name (drop (place + 1) names) name))) same
    ∙ ap (λ (y : List ℕ). from_place place (place_of_name (y ∷ drop (place + 1) names) name)) is
    ∙ ap (λ (ns : List (List ℕ)). from_place place (place_of_name ns name)) (sym (drop_more names place d less))

whole : (o : Place) → from_place 0 o ≡ o
whole None = refl
whole (Some k) = let n : 0 + k ≡ k = omega arith in ap (λ (j : ℕ). Some j) n

pub places_all : (names : List (List ℕ)) (name : List ℕ) → places_from names 0 name ≡ place_of_name names name
places_all names name = whole (place_of_name names name)

pub no_place : (names : List (List ℕ)) (n : ℕ) (name : List ℕ) → length names ≤ n → None ≡ places_from names n name
no_place names n name all = ap (λ (ns : List (List ℕ)). from_place n (place_of_name ns name)) (sym (drop_all n names all))

-- one more name, before those whose places are known
pub place_more : (t : List ℕ → Place) (names : List (List ℕ)) (place next now : ℕ) (x : List ℕ) → next ≡ place + 1 → now ≡ place → place < length names → x ≡ get_or names place x →
    t ≡ places_from names next → with_value x place t ≡ places_from names now
place_more t names place next now x next_is now_is less is known = fun_ext (λ name.
    ap (λ (u : List ℕ → Place). with_value x place u name) known
    ∙ ap (λ (n : ℕ). with_value x place (places_from names n) name) next_is
    ∙ place_next (is_same_folded x name) names place x x name refl less is
    ∙ ap (λ (n : ℕ). places_from names n name) (sym now_is))

-- all names
pub place_all : (t : List ℕ → Place) (names : List (List ℕ)) (n : ℕ) → n ≡ 0 → t ≡ places_from names n → t ≡ place_of_name names
place_all t names n zero_is known = fun_ext (λ name.
    ap (λ (u : List ℕ → Place). u name) known
    ∙ ap (λ (k : ℕ). places_from names k name) zero_is
    ∙ whole (place_of_name names name))

found_step : (ns : List (List ℕ)) (n : List ℕ) (b : Bool) (o : Place) (found : Option (List ℕ)) → found ≡ option_and_then (slice_get ns) o →
    (if b then Some n else found) ≡ option_and_then (slice_get (n ∷ ns)) (if b then Some 0 else option_map (λ i. suc i) o)
found_step ns n true o found h = refl
found_step ns n false None found h = h
found_step ns n false (Some i) found h = h

-- the name at the place found for a name matches it
same_at_place : (names : List (List ℕ)) (name : List ℕ) → same_name name names ≡ option_and_then (slice_get names) (place_of_name names name)
same_at_place [] name = refl
same_at_place (n ∷ ns) name = found_step ns n (is_same_folded n name) (place_of_name ns name) (same_name name ns) (same_at_place ns name)

-- a key as it is cited, else as in the database
spelled_by : (keys : List (List ℕ)) (key asked : List ℕ) (found : Option (List ℕ)) → asked ≡ key → found ≡ same_name asked keys → unwrap_or found key ≡ key_spelled keys key
spelled_by keys key asked found same is = ap (λ (o : Option (List ℕ)). unwrap_or o key) (is ∙ ap (λ (k : List ℕ). same_name k keys) same ∙ same_at_place keys key)

pub spelled_uncited : (keys : List (List ℕ)) (key asked text : List ℕ) (found : Option (List ℕ)) → asked ≡ key → found ≡ same_name asked keys → found ≡ None → text ≡ key → text ≡ key_spelled keys key
spelled_uncited keys key asked text found same is none here = here ∙ sym (ap (λ (o : Option (List ℕ)). unwrap_or o key) none) ∙ spelled_by keys key asked found same is

pub spelled_cited : (keys : List (List ℕ)) (key asked text cited : List ℕ) (found : Option (List ℕ)) → asked ≡ key → found ≡ same_name asked keys → found ≡ Some cited → text ≡ cited → text ≡ key_spelled keys key
spelled_cited keys key asked text cited found same is some here = here ∙ sym (ap (λ (o : Option (List ℕ)). unwrap_or o key) some) ∙ spelled_by keys key asked found same is

-- a name that is at hand
known_here : (places : List ℕ → Place) (slots : List Known) (n : ℕ) (k : Known) → slice_get slots n ≡ Some k → AreKnown places slots → places k.name.now ≡ k.place
known_here places slots n k is all =
    let f : Known → Place = λ x. places x.name.now in
    let g : Known → Place = λ x. x.place in
    let both : option_map f (slice_get slots n) ≡ option_map g (slice_get slots n) = sym (slice_get-map f slots n) ∙ ap (λ (found : List Place). slice_get found n) all ∙ slice_get-map g slots n in
    ap (λ (o : Option Place). unwrap_or o None) (subst (λ (o : Option Known). option_map f o ≡ option_map g o) is both)

pub known_found : (places : List ℕ → Place) (slots : List Known) (n : ℕ) (k : Known) (name : List ℕ) → AreKnown places slots → slice_get slots n ≡ Some k → k.name.now ≡ name → k.place ≡ places name
known_found places slots n k name all is same = sym (known_here places slots n k is all) ∙ ap places same
