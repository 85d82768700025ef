-- No two entries of the list have keys that match.
use Rattle.std.proofs.Common.{◌≡◌, ◌≢◌, ◌∙◌, ap, sym, refl, subst, ℕ, zero, suc, ◌+◌, ◌<◌, Bool, true, false, IsTrue, List, [], ◌∷◌, ◌++◌, length, map, take, reverse, Option, Some, None, arith, inl, inr}
use Rattle.std.specs.Prelude.{◌==◌, ◌||◌, ◌&&◌, not, cond, is_none, nat_lt, slice_get, filter, filter_map, option_map, option_and_then, unwrap_or, if◌then◌else◌}
use Rattle.std.specs.List.{AllByRecursion, range_with_len, cons_option}
use Rattle.std.specs.Cmp.Lexicographic.{nat_list_eq_equiv}
use Rattle.std.proofs.lemmas.Bool.{cases_Bool}
use Rattle.std.proofs.lemmas.Bool.Decides.{Decides-eqb}
use Rattle.std.proofs.lemmas.List.Folds.{list_any-append}
use Rattle.bt_text.specs.CaseFolding.{folded, is_same_folded}
use Rattle.bt_bib.specs.Items.{PlacedItem}
use Rattle.bt_bib.specs.declared.item.Content.{Content}
use Rattle.bt_bib.specs.declared.item.Content.TheVariants as contents
use Rattle.bt_bib.specs.declared.item.Entry.{Entry as ItemEntry}
use Rattle.bt_resolve.specs.declared.asked.Asked.{Asked}
use Rattle.bt_resolve.specs.declared.declared.Macro.{Macro}
use Rattle.bt_resolve.specs.Macros.{macro_before}
use Rattle.bt_resolve.specs.Values.{MacroTexts}
use Rattle.bt_resolve.specs.Stored.{stored_of, is_wanted, is_stored, stored_among}
use Rattle.bt_resolve.specs.declared.entry.Entry.{Entry}
use Rattle.bt_resolve.specs.declared.stored.Stored.{Stored}
use Rattle.bt_text.specs.NameList.{has_name, are_apart}
use Rattle.bt_resolve.specs.Names.{place_of_name}
use Rattle.bt_resolve.specs.Listed.{place_of_key, is_cited_at, is_among, firsts, uncited_parents, listed}
use Rattle.bt_resolve.specs.inner.Cases.{children, cited_places, entry_at, parents, is_cited, others_than, listed_by, asked, with_entry, with_item}
use Rattle.bt_resolve.specs.Inherited.{key_spelled, entry_seen, entries_seen, is_left_out, values_after}
use Rattle.bt_resolve.specs.Apart.{KeysApart, StoredKeysApart, EntriesApart}
use Rattle.bt_resolve.specs.Resolved.{resolved, stored_entries, all_items}
use Rattle.bt_resolve.proofs.FieldLemmas.{same_at, same_back, has_alike, some_zero, some_suc, before_suc, value_or, or_false, and_true}
use Rattle.bt_resolve.proofs.ListLemmas.{any_at, same_some}

-- ---- no two stored keys match

apart_last : (s t : Stored) (ss : List Stored) → is_same_folded s.key t.key ≡ false → AllByRecursion (λ (u : Stored). is_same_folded s.key u.key ≡ false) ss → AllByRecursion (λ (u : Stored). is_same_folded s.key u.key ≡ false) (ss ++ t ∷ [])
apart_last s t [] h hs = (h, tt)
apart_last s t (u ∷ us) h hs = (hs.0, apart_last s t us h hs.1)

apart_push : (ss : List Stored) (t : Stored) → KeysApart ss → is_stored ss t.key ≡ false → KeysApart (ss ++ t ∷ [])
apart_push [] t h new = (tt, tt)
apart_push (s ∷ ss) t h new =
    let both : (is_same_folded s.key t.key ≡ false) × (is_stored ss t.key ≡ false) = or_false (is_same_folded s.key t.key) (is_stored ss t.key) new in
    (apart_last s t ss both.0 h.0, apart_push ss t h.1 both.1)

apart_test : (wanted : Bool) (again : Bool) (ss : List Stored) (t : Stored) → KeysApart ss → is_stored ss t.key ≡ again → KeysApart (if wanted && not again then ss ++ t ∷ [] else ss)
apart_test true true ss t h is = h
apart_test true false ss t h is = apart_push ss t h is
apart_test false again ss t h is = h

apart_entry : (a : Asked) (macros : MacroTexts) (e : ItemEntry) (key : Option (List ℕ)) (ss : List Stored) → KeysApart ss → KeysApart (with_entry a macros e key ss)
unfolding stored_of
apart_entry a macros e None ss h = h
apart_entry a macros e (Some key) ss h = apart_test (is_wanted a ss key) (is_stored ss key) ss (stored_of a macros e key) h refl

apart_item : (a : Asked) (macros : MacroTexts) (content : Content) (ss : List Stored) → KeysApart ss → KeysApart (with_item a macros content ss)
apart_item a macros (contents.Entry e) ss h = apart_entry a macros e e.key ss h
apart_item a macros (contents.Define s) ss h = h
apart_item a macros (contents.Preamble p) ss h = h

apart_among : (a : Asked) (ms : List Macro) (before : List PlacedItem) → KeysApart (stored_among a ms before)
unfolding stored_among
apart_among a ms [] = tt
apart_among a ms (placed ∷ before) = apart_item a (macro_before ms before) placed.item.content (stored_among a ms before) (apart_among a ms before)

pub stored_apart : StoredKeysApart
unfolding stored_entries
stored_apart a ms databases = apart_among a ms (reverse (all_items databases))

-- ---- keys of stored entries at two places

front_apart : (s : Stored) (ss : List Stored) → AllByRecursion (λ (t : Stored). is_same_folded s.key t.key ≡ false) ss → (q : ℕ) (t : Stored) → slice_get ss q ≡ Some t → is_same_folded s.key t.key ≡ false
front_apart s [] h q t at = let wrong : let none : Option Stored = None in none ≡ Some t = at in cc
front_apart s (u ∷ us) h zero t at = ap (λ (x : Stored). is_same_folded s.key x.key) (sym (same_some u t at)) ∙ h.0
front_apart s (u ∷ us) h (suc q) t at = front_apart s us h.1 q t at

pair_apart : (ss : List Stored) → KeysApart ss → (p q : ℕ) → p ≢ q → (s t : Stored) → slice_get ss p ≡ Some s → slice_get ss q ≡ Some t → is_same_folded s.key t.key ≡ false
pair_apart [] h p q ne s t sp tq = let wrong : let none : Option Stored = None in none ≡ Some s = sp in cc
pair_apart (u ∷ us) h zero zero ne s t sp tq = absurd (ne refl)
pair_apart (u ∷ us) h zero (suc q) ne s t sp tq = ap (λ (x : Stored). is_same_folded x.key t.key) (sym (same_some u s sp)) ∙ front_apart u us h.0 q t tq
pair_apart (u ∷ us) h (suc p) zero ne s t sp tq = same_back s.key t.key ∙ ap (λ (x : Stored). is_same_folded x.key s.key) (sym (same_some u t tq)) ∙ front_apart u us h.0 p s sp
pair_apart (u ∷ us) h (suc p) (suc q) ne s t sp tq = pair_apart us h.1 p q (λ e. ne (ap (λ (n : ℕ). suc n) e)) s t sp tq

-- ---- a key as it is spelled

same_self : (n : List ℕ) → is_same_folded n n ≡ true
same_self n = nat_list_eq_equiv.refl (folded n)

spelled_step : (b : Bool) (o : Option ℕ) (k key : List ℕ) (ks : List (List ℕ)) → (b ≡ true → is_same_folded k key ≡ true) → is_same_folded (unwrap_or (option_and_then (slice_get ks) o) key) key ≡ true →
    is_same_folded (unwrap_or (option_and_then (slice_get (k ∷ ks)) (if b then Some 0 else option_map (λ i. suc i) o)) key) key ≡ true
spelled_step true o k key ks f h = f refl
spelled_step false None k key ks f h = h
spelled_step false (Some i) k key ks f h = h

spelled_same : (ks : List (List ℕ)) (key : List ℕ) → is_same_folded (key_spelled ks key) key ≡ true
spelled_same [] key = same_self key
spelled_same (k ∷ ks) key = spelled_step (is_same_folded k key) (place_of_name ks key) k key ks (λ e. e) (spelled_same ks key)

spelled_apart : (ks : List (List ℕ)) (k m : List ℕ) → is_same_folded k m ≡ false → is_same_folded (key_spelled ks k) (key_spelled ks m) ≡ false
spelled_apart ks k m h =
    same_at (key_spelled ks k) k (key_spelled ks m) (spelled_same ks k)
    ∙ same_back k (key_spelled ks m) ∙ same_at (key_spelled ks m) m k (spelled_same ks m) ∙ same_back m k ∙ h

-- ---- lists of places

abbrev Distinct : List ℕ → Type 0
Distinct [] = Unit {0}
Distinct (p ∷ ps) = (is_among ps p ≡ false) × Distinct ps

eq_false : (q p : ℕ) → q ≢ p → (q == p) ≡ false
eq_false q p ne = elim (cases_Bool (q == p)) [ inl y ↦ absurd (ne ((Decides-eqb q p).0 y)) | inr n ↦ n ]

ne_of : (q p : ℕ) → (q == p) ≡ false → q ≢ p
ne_of q p h e = let y : (q == p) ≡ true = (Decides-eqb q p).1 e in let wrong : true ≡ false = sym y ∙ h in cc

or_both : (a b : Bool) → a ≡ false → b ≡ false → (a || b) ≡ false
or_both true b h k = let wrong : true ≡ false = h in cc
or_both false b h k = k

kept_not_among : (b : Bool) (q : ℕ) (rest : List ℕ) (p : ℕ) → (q == p) ≡ false → is_among rest p ≡ false → is_among (cond b (q ∷ rest) rest) p ≡ false
kept_not_among true q rest p h k = or_both (q == p) (is_among rest p) h k
kept_not_among false q rest p h k = k

not_among_filter : (test : ℕ → Bool) (ps : List ℕ) (p : ℕ) → is_among ps p ≡ false → is_among (filter test ps) p ≡ false
not_among_filter test [] p h = refl
not_among_filter test (q ∷ qs) p h =
    let both = or_false (q == p) (is_among qs p) h in
    kept_not_among (test q) q (filter test qs) p both.0 (not_among_filter test qs p both.1)

kept_distinct : (b : Bool) (q : ℕ) (rest : List ℕ) → is_among rest q ≡ false → Distinct rest → Distinct (cond b (q ∷ rest) rest)
kept_distinct true q rest h hs = (h, hs)
kept_distinct false q rest h hs = hs

distinct_filter : (test : ℕ → Bool) (ps : List ℕ) → Distinct ps → Distinct (filter test ps)
distinct_filter test [] h = tt
distinct_filter test (p ∷ ps) h = kept_distinct (test p) p (filter test ps) (not_among_filter test ps p h.0) (distinct_filter test ps h.1)

abbrev Each : (ℕ → Bool) → List ℕ → Type 0
Each test ps = AllByRecursion (λ p. test p ≡ true) ps

kept_each : (test : ℕ → Bool) (b : Bool) (q : ℕ) (rest : List ℕ) → (b ≡ true → test q ≡ true) → Each test rest → Each test (cond b (q ∷ rest) rest)
kept_each test true q rest h hs = (h refl, hs)
kept_each test false q rest h hs = hs

each_filter : (test : ℕ → Bool) (ps : List ℕ) → Each test (filter test ps)
each_filter test [] = tt
each_filter test (p ∷ ps) = kept_each test (test p) p (filter test ps) (λ e. e) (each_filter test ps)

each_firsts_by : (test : ℕ → Bool) (b : Bool) (p : ℕ) (these those : List ℕ) → test p ≡ true → Each test these → Each test those → Each test (if b then these else p ∷ those)
each_firsts_by test true p these those h k l = k
each_firsts_by test false p these those h k l = (h, l)

each_firsts : (test : ℕ → Bool) (seen ps : List ℕ) → Each test ps → Each test (firsts seen ps)
each_firsts test seen [] h = tt
each_firsts test seen (p ∷ ps) h = each_firsts_by test (is_among seen p) p (firsts seen ps) (firsts (seen ++ p ∷ []) ps) h.0 (each_firsts test seen ps h.1) (each_firsts test (seen ++ p ∷ []) ps h.1)

-- what passes a test isn't among those that don't
not_among : (test : ℕ → Bool) (ys : List ℕ) (p : ℕ) → test p ≡ true → Each (λ q. not (test q)) ys → is_among ys p ≡ false
not_among test [] p h k = refl
not_among test (y ∷ ys) p h k =
    or_both (y == p) (is_among ys p)
    (eq_false y p (λ e. let passes : test y ≡ true = ap test e ∙ h in let wrong : false ≡ true = sym (ap not passes) ∙ k.0 in cc))
    (not_among test ys p h k.1)

distinct_append : (test : ℕ → Bool) (xs ys : List ℕ) → Each test xs → Each (λ q. not (test q)) ys → Distinct xs → Distinct ys → Distinct (xs ++ ys)
distinct_append test [] ys h k dx dy = dy
distinct_append test (x ∷ xs) ys h k dx dy =
    (list_any-append (λ n. n == x) xs ys ∙ or_both (is_among xs x) (is_among ys x) dx.0 (not_among test ys x h.0 k), distinct_append test xs ys h.1 k dx.1 dy)

or_right : (a b : Bool) → b ≡ true → (a || b) ≡ true
or_right true b h = refl
or_right false b h = h

among_last : (seen : List ℕ) (p : ℕ) → is_among (seen ++ p ∷ []) p ≡ true
among_last seen p = list_any-append (λ n. n == p) seen (p ∷ []) ∙ or_right (is_among seen p) (is_among (p ∷ []) p) (ap (λ (b : Bool). b || false) ((Decides-eqb p p).1 refl))

among_more : (seen : List ℕ) (p q : ℕ) → is_among seen q ≡ true → is_among (seen ++ p ∷ []) q ≡ true
among_more seen p q h = list_any-append (λ n. n == q) seen (p ∷ []) ∙ ap (λ (b : Bool). b || is_among (p ∷ []) q) h

abbrev New : List ℕ → List ℕ → Type 0
New seen ps = Distinct ps × ((q : ℕ) → is_among seen q ≡ true → is_among ps q ≡ false)

new_by : (b : Bool) (seen these those : List ℕ) (p : ℕ) → is_among seen p ≡ b → New seen these → New (seen ++ p ∷ []) those → New seen (if b then these else p ∷ those)
new_by true seen these those p is h k = h
new_by false seen these those p is h k = (
  (k.1 p (among_last seen p), k.0),
  λ q among. or_both (p == q) (is_among those q)
      (eq_false p q (λ e. let wrong : false ≡ true = sym is ∙ ap (λ (n : ℕ). is_among seen n) e ∙ among in cc))
      (k.1 q (among_more seen p q among)),
)

firsts_new : (seen ps : List ℕ) → New seen (firsts seen ps)
firsts_new seen [] = (tt, λ q among. refl)
firsts_new seen (p ∷ ps) = new_by (is_among seen p) seen (firsts seen ps) (firsts (seen ++ p ∷ []) ps) p refl (firsts_new seen ps) (firsts_new (seen ++ p ∷ []) ps)

range_above : (a m p : ℕ) → p < a → is_among (range_with_len a m) p ≡ false
range_above a zero p h = refl
range_above a (suc m) p h = or_both (a == p) (is_among (range_with_len (a + 1) m) p) (eq_false a p (λ e. let wrong : a ≡ p = e in omega (arith, h, wrong))) (range_above (a + 1) m p (omega (arith, h)))

distinct_range : (a m : ℕ) → Distinct (range_with_len a m)
distinct_range a zero = tt
distinct_range a (suc m) = (range_above (a + 1) m a (omega arith), distinct_range (a + 1) m)

-- ---- the places of cited keys

found_at : (ss : List Stored) (key : List ℕ) (p : ℕ) → place_of_key ss key ≡ Some p → (s : Stored) × ((slice_get ss p ≡ Some s) × (is_same_folded s.key key ≡ true))
found_at [] key p at = let wrong : let none : Option ℕ = None in none ≡ Some p = at in cc
found_at (u ∷ us) key p at =
    elim (cases_Bool (is_same_folded u.key key)) [
      | inl same ↦
          let zero_is : 0 ≡ p = ap (λ (o : Option ℕ). value_or o 0) (some_zero (is_same_folded u.key key) (place_of_key us key) p same at) in
          (u, (ap (λ (i : ℕ). slice_get (u ∷ us) i) (sym zero_is), same))
      | inr other ↦
          let q = before_suc (place_of_key us key) p (some_suc (is_same_folded u.key key) (place_of_key us key) p other at) in
          let r = found_at us key q.0 q.1.1 in
          (r.0, (ap (λ (i : ℕ). slice_get (u ∷ us) i) q.1.0 ∙ r.1.0, r.1.1))
    ]

each_cons : (test : ℕ → Bool) (o : Option ℕ) (ps : List ℕ) → ((p : ℕ) → o ≡ Some p → test p ≡ true) → Each test ps → Each test (cons_option o ps)
each_cons test None ps h hs = hs
each_cons test (Some p) ps h hs = (h p refl, hs)

each_cited : (keys : List (List ℕ)) (ss : List Stored) (ks : List (List ℕ)) → ((n : List ℕ) → has_name ks n ≡ true → has_name keys n ≡ true) → Each (is_cited_at keys ss) (cited_places ks ss)
each_cited keys ss [] sub = tt
each_cited keys ss (k ∷ ks) sub =
    each_cons (is_cited_at keys ss) (place_of_key ss k) (cited_places ks ss)
    (λ p at.
    let r = found_at ss k p at in
    ap (λ (o : Option Stored). is_cited keys o) r.1.0 ∙ has_alike keys r.0.key k r.1.1
    ∙ sub k (ap (λ (b : Bool). b || has_name ks k) (same_self k)))
    (each_cited keys ss ks (λ n h. sub n (or_right (is_same_folded k n) (has_name ks n) h)))

not_among_cons : (o : Option ℕ) (ps : List ℕ) (p : ℕ) → ((q : ℕ) → o ≡ Some q → q ≢ p) → is_among ps p ≡ false → is_among (cons_option o ps) p ≡ false
not_among_cons None ps p h k = k
not_among_cons (Some q) ps p h k = or_both (q == p) (is_among ps p) (eq_false q p (h q refl)) k

one_place : (ss : List Stored) (k m : List ℕ) (p : ℕ) → place_of_key ss k ≡ Some p → place_of_key ss m ≡ Some p → is_same_folded m k ≡ true
one_place ss k m p at_k at_m =
    let s = found_at ss k p at_k in
    let t = found_at ss m p at_m in
    let same : s.0 ≡ t.0 = same_some s.0 t.0 (sym s.1.0 ∙ t.1.0) in
    let sm : is_same_folded s.0.key m ≡ true = ap (λ (x : Stored). is_same_folded x.key m) same ∙ t.1.1 in
    sym (same_at s.0.key m k sm) ∙ s.1.1

not_again : (ss : List Stored) (ks : List (List ℕ)) (k : List ℕ) (p : ℕ) → has_name ks k ≡ false → place_of_key ss k ≡ Some p → is_among (cited_places ks ss) p ≡ false
not_again ss [] k p h at = refl
not_again ss (m ∷ ms) k p h at =
    let both = or_false (is_same_folded m k) (has_name ms k) h in
    not_among_cons (place_of_key ss m) (cited_places ms ss) p
    (λ q at_m e. let wrong : false ≡ true = sym both.0 ∙ one_place ss k m p at (at_m ∙ ap (λ (n : ℕ). Some n) e) in cc)
    (not_again ss ms k p both.1 at)

distinct_cons : (o : Option ℕ) (ps : List ℕ) → ((p : ℕ) → o ≡ Some p → is_among ps p ≡ false) → Distinct ps → Distinct (cons_option o ps)
distinct_cons None ps h hs = hs
distinct_cons (Some p) ps h hs = (h p refl, hs)

distinct_cited : (ss : List Stored) (ks : List (List ℕ)) → IsTrue (are_apart ks) → Distinct (cited_places ks ss)
distinct_cited ss [] apart = tt
distinct_cited ss (k ∷ ks) apart =
    let both = and_true (has_name ks k) (are_apart ks) apart in
    distinct_cons (place_of_key ss k) (cited_places ks ss) (λ p at. not_again ss ks k p both.0 at) (distinct_cited ss ks both.1)

no_name_taken : (b : ℕ) (ns : List (List ℕ)) (n : List ℕ) → has_name ns n ≡ false → has_name (take b ns) n ≡ false
no_name_taken zero ns n h = refl
no_name_taken (suc b) [] n h = refl
no_name_taken (suc b) (m ∷ ms) n h = let both = or_false (is_same_folded m n) (has_name ms n) h in or_both (is_same_folded m n) (has_name (take b ms) n) both.0 (no_name_taken b ms n both.1)

not_and : (a b : Bool) → a ≡ false → b ≡ true → (not a && b) ≡ true
not_and true b h k = let wrong : true ≡ false = h in cc
not_and false b h k = k

take_apart : (b : ℕ) (ns : List (List ℕ)) → IsTrue (are_apart ns) → IsTrue (are_apart (take b ns))
take_apart zero ns h = refl
take_apart (suc b) [] h = refl
take_apart (suc b) (n ∷ ns) h = let both = and_true (has_name ns n) (are_apart ns) h in not_and (has_name (take b ns) n) (are_apart (take b ns)) (no_name_taken b ns n both.0) (take_apart b ns both.1)

each_in : (all xs : List ℕ) → ((q : ℕ) → is_among xs q ≡ true → is_among all q ≡ true) → Each (is_among all) xs
each_in all [] sub = tt
each_in all (x ∷ xs) sub = (sub x (ap (λ (b : Bool). b || is_among xs x) ((Decides-eqb x x).1 refl)), each_in all xs (λ q h. sub q (or_right (x == q) (is_among xs q) h)))

-- no place is twice in the list
distinct_listed : (keys : List (List ℕ)) (star : Option ℕ) (ss : List Stored) → IsTrue (are_apart keys) → Distinct (listed_by keys star ss)
distinct_listed keys None ss apart =
    let uncited = filter (λ p. not (is_cited_at keys ss p)) (parents ss) in
    distinct_append (is_cited_at keys ss) (cited_places keys ss) (uncited_parents keys ss)
    (each_cited keys ss keys (λ n h. h))
    (each_firsts (λ p. not (is_cited_at keys ss p)) [] uncited (each_filter (λ p. not (is_cited_at keys ss p)) (parents ss)))
    (distinct_cited ss keys apart)
    (firsts_new [] uncited).0
distinct_listed keys (Some before) ss apart =
    let these = cited_places (take before keys) ss in
    distinct_append (is_among these) these (others_than these ss)
    (each_in these these (λ q h. h))
    (each_filter (λ p. not (is_among these p)) (range_with_len 0 (length ss)))
    (distinct_cited ss (take before keys) (take_apart before keys apart))
    (distinct_filter (λ p. not (is_among these p)) (range_with_len 0 (length ss)) (distinct_range 0 (length ss)))

-- ---- the keys of the entries

abbrev Keys : Type 0
Keys = List (List ℕ)

abbrev key_of : Keys → Option Stored → Option (List ℕ)
key_of keys o = option_map (λ (s : Stored). key_spelled keys s.key) o

abbrev keys_at : Keys → List Stored → List ℕ → Keys
keys_at keys ss ps = filter_map (λ p. key_of keys (slice_get ss p)) ps

key_cons : (a : Asked) (min : ℕ) (ss : List Stored) (vs : List (Option (List ℕ))) (o : Option Stored) (es : List Entry) → map (λ (e : Entry). e.key) (cons_option (option_map (entry_seen a min ss vs) o) es) ≡ cons_option (key_of a.keys o) (map (λ (e : Entry). e.key) es)
key_cons a min ss vs None es = refl
key_cons a min ss vs (Some s) es = refl

keys_of : (a : Asked) (min : ℕ) (ss : List Stored) (values : ℕ → List (Option (List ℕ))) (ps : List ℕ) → map (λ (e : Entry). e.key) (filter_map (entry_at a min ss values) ps) ≡ keys_at a.keys ss ps
keys_of a min ss values [] = refl
keys_of a min ss values (p ∷ ps) =
    key_cons a min ss (values p) (slice_get ss p) (filter_map (entry_at a min ss values) ps)
    ∙ ap (λ (ks : Keys). cons_option (key_of a.keys (slice_get ss p)) ks) (keys_of a min ss values ps)

none_alike_by : (keys : Keys) (ss : List Stored) → KeysApart ss → (p q : ℕ) (s : Stored) (o : Option Stored) (rest : Keys) → slice_get ss p ≡ Some s → slice_get ss q ≡ o → q ≢ p → has_name rest (key_spelled keys s.key) ≡ false → has_name (cons_option (key_of keys o) rest) (key_spelled keys s.key) ≡ false
none_alike_by keys ss apart p q s None rest sp sq ne h = h
none_alike_by keys ss apart p q s (Some t) rest sp sq ne h =
    or_both (is_same_folded (key_spelled keys t.key) (key_spelled keys s.key)) (has_name rest (key_spelled keys s.key)) (spelled_apart keys t.key s.key (pair_apart ss apart q p ne t s sq sp)) h

none_alike : (keys : Keys) (ss : List Stored) → KeysApart ss → (p : ℕ) (s : Stored) → slice_get ss p ≡ Some s → (ps : List ℕ) → is_among ps p ≡ false → has_name (keys_at keys ss ps) (key_spelled keys s.key) ≡ false
none_alike keys ss apart p s sp [] h = refl
none_alike keys ss apart p s sp (q ∷ qs) h =
    let both = or_false (q == p) (is_among qs p) h in
    none_alike_by keys ss apart p q s (slice_get ss q) (keys_at keys ss qs) sp refl (ne_of q p both.0) (none_alike keys ss apart p s sp qs both.1)

apart_by : (keys : Keys) (ss : List Stored) → KeysApart ss → (p : ℕ) (o : Option Stored) (ps : List ℕ) → slice_get ss p ≡ o → is_among ps p ≡ false → are_apart (keys_at keys ss ps) ≡ true → are_apart (cons_option (key_of keys o) (keys_at keys ss ps)) ≡ true
apart_by keys ss apart p None ps sp new h = h
apart_by keys ss apart p (Some s) ps sp new h = not_and (has_name (keys_at keys ss ps) (key_spelled keys s.key)) (are_apart (keys_at keys ss ps)) (none_alike keys ss apart p s sp ps new) h

keys_apart : (keys : Keys) (ss : List Stored) → KeysApart ss → (ps : List ℕ) → Distinct ps → are_apart (keys_at keys ss ps) ≡ true
keys_apart keys ss apart [] h = refl
keys_apart keys ss apart (p ∷ ps) h = apart_by keys ss apart p (slice_get ss p) ps refl h.0 (keys_apart keys ss apart ps h.1)

seen_apart : (a : Asked) (min : ℕ) (ss : List Stored) → KeysApart ss → IsTrue (are_apart a.keys) → are_apart (map (λ (e : Entry). e.key) (entries_seen a min ss)) ≡ true
unfolding entries_seen listed
seen_apart a min ss stored cited =
    let places = listed_by a.keys a.star ss in
    let kept = filter (λ p. not (is_left_out a min ss p)) places in
    ap (λ (ks : Keys). are_apart ks) (keys_of a min ss (values_after ss (reverse places)) kept)
    ∙ keys_apart a.keys ss stored kept (distinct_filter (λ p. not (is_left_out a min ss p)) places (distinct_listed a.keys a.star ss cited))

pub entries_apart : EntriesApart
unfolding resolved
entries_apart d c databases min cited = seen_apart (asked d c) min (stored_entries (asked d c) d.macros databases) (stored_apart (asked d c) d.macros databases) cited

-- ---- a key that an entry has, byte for byte

abbrev key_at : List Stored → ℕ → Option (List ℕ)
key_at stored p = option_map (λ (s : Stored). s.key) (slice_get stored p)

by_key : (P : Option Stored → Type 0) (o : Option Stored) (key : List ℕ) → option_map (λ (s : Stored). s.key) o ≡ Some key → ((s : Stored) → o ≡ Some s → s.key ≡ key → P (Some s)) → P o
by_key P None key is gives = absurd cc
by_key P (Some s) key is gives = gives s refl (same_some s.key key is)

pub stored_at : (stored : List Stored) (p : ℕ) (key : List ℕ) → key_at stored p ≡ Some key → is_stored stored key ≡ true
stored_at stored p key is =
    by_key (λ o. is_stored stored key ≡ true) (slice_get stored p) key is (λ s here same.
    any_at (λ (t : Stored). is_same_folded t.key key) stored p s here (subst (λ (k : List ℕ). is_same_folded s.key k ≡ true) same (same_self s.key)))

never_out : (b c : Bool) → not (b && not true && c) ≡ true
never_out true c = refl
never_out false c = refl

pub cited_at : (keys : List (List ℕ)) (stored : List Stored) (p i : ℕ) (key : List ℕ) → slice_get keys i ≡ Some key → key_at stored p ≡ Some key → is_cited_at keys stored p ≡ true
cited_at keys stored p i key there is =
    by_key (λ (o : Option Stored). elim o [ None ↦ false | Some s ↦ has_name keys s.key ] ≡ true) (slice_get stored p) key is (λ s here same.
    any_at (λ (n : List ℕ). is_same_folded n s.key) keys i key there (subst (λ (k : List ℕ). is_same_folded k s.key ≡ true) same (same_self s.key)))

-- a cited entry isn't left out
pub shown_cited : (a : Asked) (min : ℕ) (stored : List Stored) (p : ℕ) → is_cited_at a.keys stored p ≡ true → true ≡ not (is_left_out a min stored p)
unfolding is_left_out
shown_cited a min stored p cited =
    sym (ap (λ (b : Bool). not (is_none a.star && not b && nat_lt (children stored p) min)) cited ∙ never_out (is_none a.star) (nat_lt (children stored p) min))
