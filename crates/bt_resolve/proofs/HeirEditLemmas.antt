-- What is seen with new values of one stored entry.
use Rattle.std.proofs.Common.{◌≡◌, ◌≢◌, ◌∙◌, ap, sym, refl, subst, append_assoc, append-nil, ℕ, zero, suc, ◌+◌, ◌<◌, ◌≤◌, Bool, true, false, List, [], ◌∷◌, ◌++◌, length, length-append, map, reverse, get_or, Option, Some, None, arith, inl, inr, ◌⊎◌}
use Rattle.std.specs.Prelude.{◌==◌, ◌||◌, ◌&&◌, if◌then◌else◌, not, nat_le, nat_lt, drop, filter_map, is_some, option_and_then, option_map, slice_get, slice_set}
use Rattle.std.specs.List.{AllByRecursion, cons_option}
use Rattle.std.proofs.lemmas.Bool.{leb-true, ltb-true}
use Rattle.std.proofs.lemmas.Bool.Decides.{Decides-eqb}
use Rattle.std.proofs.lemmas.List.{get_or-set_same, get_or-set_other, get_or_past, set_past, drop_more, drop-drop}
use Rattle.std.proofs.lemmas.Bool.{cases_lt}
use Rattle.std.proofs.lemmas.Option.{slice_get-map}
use Rattle.bt_resolve.specs.declared.asked.Asked.{Asked}
use Rattle.bt_resolve.specs.declared.entry.Entry.{Entry}
use Rattle.bt_resolve.specs.declared.stored.Stored.{Stored}
use Rattle.bt_resolve.specs.Inherited.{values_after, entries_seen}
use Rattle.bt_resolve.specs.Listed.{listed}
use Rattle.bt_resolve.specs.inner.Cases.{parent_at, entry_at}
use Rattle.bt_resolve.specs.inner.Heirs.{all_heirs, entries_made, heirs_at, heirs_from, is_marked, made_at, made_if, marked_at, stays_among}
use Rattle.bt_resolve.specs.inner.Inheritance.{all_inherit, inherits_at, inherits_from, values_read}
use Rattle.bt_resolve.specs.Skeletons.{skeleton, AreAlike, AreInPlace, DifferAt, heir_if, is_heir, is_within, shown, seen_at}
use Rattle.bt_resolve.specs.Resolved.{stored_entries}
use Rattle.bt_resolve.specs.declared.declared.Macro.{Macro}
use Rattle.bt_resolve.specs.Edited.{Edit, databases_before, databases_after, items_before, stored_by, stored_first, stored_last}
use Rattle.bt_resolve.proofs.EditedLemmas.{edit_is_patched}
use Rattle.bt_resolve.proofs.HeirLemmas.{first_some, heirs_alone, seen_as_shown, shown_seen, span_differs}
use Rattle.bt_resolve.proofs.InheritingLemmas.{behind_place, values_are}
use Rattle.bt_resolve.proofs.SkeletonLemmas.{one_list, same_parent}
use Rattle.bt_resolve.proofs.ListLemmas.{same_some}

abbrev Values : Type 0
Values = List (Option (List ℕ))

-- ---- marks

-- what isn't marked is no heir
abbrev Spares : List Stored → (ℕ → Bool) → List ℕ → List Bool → Type 0
Spares stored changed before marks = (k : ℕ) → is_marked marks k ≡ false → is_heir stored changed before k ≡ false

marked_by : (marks : List Bool) (p : ℕ) → (p < length marks) ⊎ (length marks ≤ p) → is_marked (slice_set marks p true) p ≡ true
marked_by marks p (inl less) = get_or-set_same marks p true true less
marked_by marks p (inr past) = ap (λ (ms : List Bool). get_or ms p true) (set_past marks p true past) ∙ get_or_past marks p true past

pub is_set : (marks : List Bool) (p : ℕ) → is_marked (slice_set marks p true) p ≡ true
is_set marks p = marked_by marks p (cases_lt p (length marks))

neither : (b c : Bool) → b ≡ false → c ≡ false → (b || c) ≡ false
neither true c is more = is
neither false c is more = more

-- the mark of the entry itself
own_free : (marks : List Bool) (now : ℕ → Bool) (q r : ℕ) (m : Bool) → is_marked marks r ≡ m → ((k : ℕ) → is_marked marks k ≡ false → now k ≡ false) →
    is_marked (if m then slice_set marks q true else marks) q ≡ false → (now q || now r) ≡ false
own_free marks now q r true is spares free = let wrong : true ≡ false = sym (is_set marks q) ∙ free in cc
own_free marks now q r false is spares free = neither (now q) (now r) (spares q free) (spares r is)

-- that of another one
other_free : (marks : List Bool) (q k : ℕ) (m : Bool) → k ≢ q → is_marked (if m then slice_set marks q true else marks) k ≡ false → is_marked marks k ≡ false
other_free marks q k true other free = sym (get_or-set_other marks q k true true other) ∙ free
other_free marks q k false other free = free

free_from : (marks : List Bool) (q k : ℕ) (o : Option ℕ) → k ≢ q → is_marked (heirs_from o q marks) k ≡ false → is_marked marks k ≡ false
free_from marks q k None other free = free
free_from marks q k (Some r) other free = other_free marks q k (is_marked marks r) other free

heir_free : (marks : List Bool) (now : ℕ → Bool) (q : ℕ) (o : Option ℕ) → ((k : ℕ) → is_marked marks k ≡ false → now k ≡ false) → is_marked (heirs_from o q marks) q ≡ false → heir_if true o now q ≡ false
heir_free marks now q None spares free = spares q free
heir_free marks now q (Some r) spares free = own_free marks now q r (is_marked marks r) refl spares free

spared_if : (stored : List Stored) (changed : ℕ → Bool) (before : List ℕ) (marks : List Bool) (q k : ℕ) (b : Bool) → (q == k) ≡ b → Spares stored changed before marks → is_marked (heirs_at stored marks q) k ≡ false →
    heir_if b (parent_at stored k) (is_heir stored changed before) k ≡ false
spared_if stored changed before marks q k true is spares free =
    let same : q ≡ k = (Decides-eqb q k).0 is in
    heir_free marks (is_heir stored changed before) k (parent_at stored k) spares (ap (λ (p : ℕ). is_marked (heirs_at stored marks p) k) (sym same) ∙ free)
spared_if stored changed before marks q k false is spares free =
    let other : k ≢ q = λ (same : k ≡ q). (let yes_is : (q == k) ≡ true = (Decides-eqb q k).1 (sym same) in let wrong : true ≡ false = sym yes_is ∙ is in cc) in
    spares k (free_from marks q k (parent_at stored q) other free)

spared_all : (stored : List Stored) (changed : ℕ → Bool) (places before : List ℕ) (marks : List Bool) → Spares stored changed before marks → Spares stored changed (reverse places ++ before) (all_heirs stored marks places)
spared_all stored changed [] before marks spares = spares
spared_all stored changed (p ∷ ps) before marks spares = λ k free.
    ap (λ (behind : List ℕ). is_heir stored changed behind k) (behind_place p ps before)
    ∙ spared_all stored changed ps (p ∷ before) (heirs_at stored marks p) (λ j is. spared_if stored changed before marks p j (p == j) refl spares is) k free

-- entries that aren't marked in the end are no heirs of those that are marked at first
spared : (stored : List Stored) (places : List ℕ) (marks : List Bool) (k : ℕ) → is_marked (all_heirs stored marks places) k ≡ false → is_heir stored (is_marked marks) (reverse places) k ≡ false
spared stored places marks k free =
    ap (λ (behind : List ℕ). is_heir stored (is_marked marks) behind k) (sym (append-nil (reverse places)))
    ∙ spared_all stored (is_marked marks) places [] marks (λ j is. is) k free

-- ---- parents depend on skeletons

heirs_alike : (stored others : List Stored) → AreAlike stored others → (places : List ℕ) (marks : List Bool) → all_heirs stored marks places ≡ all_heirs others marks places
heirs_alike stored others alike [] marks = refl
heirs_alike stored others alike (p ∷ ps) marks =
    ap (λ (o : Option ℕ). all_heirs stored (heirs_from o p marks) ps) (same_parent stored others alike p)
    ∙ heirs_alike stored others alike ps (heirs_at others marks p)

inherit_alike : (stored others : List Stored) → AreAlike stored others → (places : List ℕ) (values : List Values) → all_inherit stored values places ≡ all_inherit others values places
inherit_alike stored others alike [] values = refl
inherit_alike stored others alike (p ∷ ps) values =
    ap (λ (o : Option ℕ). all_inherit stored (inherits_from o p values) ps) (same_parent stored others alike p)
    ∙ inherit_alike stored others alike ps (inherits_at others values p)

-- ---- entries, made anew or the old ones

made_is : (marked : Bool) (made was is old : Option Entry) → made ≡ is → (marked ≡ false → was ≡ is) → old ≡ was → made_if marked made old ≡ is
made_is true made was is old new same old_is = new
made_is false made was is old new same old_is = old_is ∙ same refl

entries_are : (made was is : ℕ → Option Entry) (marked : ℕ → Bool) (places : List ℕ) → ((p : ℕ) → made p ≡ is p) → ((p : ℕ) → marked p ≡ false → was p ≡ is p) → AllByRecursion (λ p. is_some (was p) ≡ true) places →
    entries_made made marked places (filter_map was places) ≡ filter_map is places
entries_are made was is marked [] new same some = refl
entries_are made was is marked (p ∷ ps) new same some =
    let first = first_some (was p) (filter_map was ps) some.0 in
    λ j. cons_option
    (made_is (marked p) (made p) (was p) (is p) (slice_get (filter_map was (p ∷ ps)) 0) (new p) (same p) first.0 j)
    ((ap (entries_made made marked ps) first.1 ∙ entries_are made was is marked ps new same some.1) j)

-- ---- the values

set_middle : (front rest : List Stored) (s t : Stored) → slice_set (values_read (front ++ s ∷ rest)) (length front) t.values ≡ values_read (front ++ t ∷ rest)
set_middle [] rest s t = refl
set_middle (x ∷ front) rest s t = ap (λ (vs : List Values). x.values ∷ vs) (set_middle front rest s t)

-- ---- one stored entry in the place of another

pub record OnePatched (place : ℕ) (own : Values) (stored others : List Stored) : Type 0 where
  pub inside : place < length stored
  pub alike : AreAlike stored others
  pub differ : DifferAt (is_within place 1) stored others
  pub values : slice_set (values_read stored) place own ≡ values_read others

one_patched : (front rest : List Stored) (s t : Stored) → AreAlike (s ∷ []) (t ∷ []) → OnePatched (length front) t.values (front ++ (s ∷ []) ++ rest) (front ++ (t ∷ []) ++ rest)
one_patched front rest s t alike =
    let differ = span_differs front (s ∷ []) (t ∷ []) rest alike in
    let was = append_assoc front (s ∷ []) rest in
    record {
      inside = omega (arith, ap (λ (ss : List Stored). length ss) was, length-append front (s ∷ rest));
      alike = differ.0;
      differ = differ.1;
      values =
          ap (λ (ss : List Stored). slice_set (values_read ss) (length front) t.values) was
          ∙ set_middle front rest s t
          ∙ ap values_read (sym (append_assoc front (t ∷ []) rest));
    }

abbrev list_or : List Stored → Stored → Stored
list_or [] s = s
list_or (x ∷ xs) s = x

-- what is alike one stored entry is one
one_alike : (xs : List Stored) (t : Stored) → AreAlike xs (t ∷ []) → (s : Stored) × (xs ≡ s ∷ []) × (skeleton s ≡ skeleton t)
one_alike [] t alike = let none : List Stored = [] in let wrong : none ≡ skeleton t ∷ [] = alike in cc
one_alike (x ∷ []) t alike = (x, refl, ap (λ (ys : List Stored). list_or ys t) alike)
one_alike (x ∷ y ∷ ys) t alike =
    let wrong : suc (suc (length (map skeleton ys))) ≡ suc 0 = ap length alike in
    absurd (omega (arith, wrong))

-- Where an edit brings one entry that is stored, it replaces one.
pub entry_patched : (a : Asked) (ms : List Macro) (e : Edit) (t : Stored) → AreInPlace ms (items_before e) e.old e.new → stored_by a ms e e.new ≡ t ∷ [] →
    OnePatched (length (stored_first a ms e)) t.values (stored_entries a ms (databases_before e)) (stored_entries a ms (databases_after e))
entry_patched a ms e t in_place one =
    let whole = edit_is_patched a ms 0 e in_place in
    let front = stored_first a ms e in
    let rest = stored_last a ms e in
    let found = one_alike (stored_by a ms e e.old) t (subst (λ (ts : List Stored). AreAlike (stored_by a ms e e.old) ts) one whole.alike) in
    let was = whole.stored_before ∙ ap (λ (ss : List Stored). front ++ ss ++ rest) found.1 in
    let is = whole.stored_after ∙ ap (λ (ss : List Stored). front ++ ss ++ rest) one in
    subst (λ (ss : List Stored). OnePatched (length front) t.values ss (stored_entries a ms (databases_after e))) (sym was)
    (subst (λ (ts : List Stored). OnePatched (length front) t.values (front ++ (found.0 ∷ []) ++ rest) ts) (sym is) (one_patched front rest found.0 t (ap (λ (x : Stored). x ∷ []) found.2)))

-- Where it brings none that is stored, nothing that is stored changes.
pub nothing_patched : (a : Asked) (ms : List Macro) (e : Edit) → AreInPlace ms (items_before e) e.old e.new → stored_by a ms e e.new ≡ [] → stored_entries a ms (databases_after e) ≡ stored_entries a ms (databases_before e)
nothing_patched a ms e in_place none =
    let whole = edit_is_patched a ms 0 e in_place in
    let was : stored_by a ms e e.old ≡ [] = nil_alike (stored_by a ms e e.old) (whole.alike ∙ ap (map skeleton) none) in
    whole.stored_after ∙ (λ j. stored_first a ms e ++ (none ∙ sym was) j ++ stored_last a ms e) ∙ sym whole.stored_before
  where
    nil_alike : (xs : List Stored) → AreAlike xs [] → xs ≡ []
    nil_alike [] alike = refl
    nil_alike (x ∷ xs) alike = let none : List Stored = [] in let wrong : skeleton x ∷ map skeleton xs ≡ none = alike in cc

-- ---- what is seen

one_within : (p r : ℕ) → is_within p 1 r ≡ true → r ≡ p
one_within p r is =
    let both = both_of (nat_le p r) (nat_lt r (p + 1)) is in
    omega (arith, leb-true p r both.0, ltb-true r (p + 1) both.1)
  where
    both_of : (b c : Bool) → (b && c) ≡ true → (b ≡ true) × (c ≡ true)
    both_of true c h = (refl, h)
    both_of false c h = let wrong : false ≡ true = h in cc

unmarked : (marks : List Bool) (place p : ℕ) (b : Bool) → is_within place 1 p ≡ b → is_marked (slice_set marks place true) p ≡ false → is_within place 1 p ≡ false
unmarked marks place p true is free =
    let same : p ≡ place = one_within place p is in
    let wrong : true ≡ false = sym (is_set marks place) ∙ ap (is_marked (slice_set marks place true)) (sym same) ∙ free in
    cc
unmarked marks place p false is free = is

seen_list : (a : Asked) (min : ℕ) (stored : List Stored) → entries_seen a min stored ≡ filter_map (seen_at a min stored) (shown a min stored)
unfolding entries_seen
seen_list a min stored = refl

unmarked_of : (b : Bool) → not b ≡ true → b ≡ false
unmarked_of true is = let wrong : false ≡ true = is in cc
unmarked_of false is = refl

-- the place of an entry that stays isn't marked
stays_at : (marks : List Bool) (places : List ℕ) (k : ℕ) (o : Option ℕ) → slice_get places k ≡ o → slice_get (stays_among marks places) k ≡ Some true → (p : ℕ) × (o ≡ Some p) × (is_marked marks p ≡ false)
stays_at marks places k None at stays =
    let none : Option Bool = None in
    let wrong : none ≡ Some true = sym (ap (option_map (λ (p : ℕ). not (is_marked marks p))) at) ∙ sym (slice_get-map (λ (p : ℕ). not (is_marked marks p)) places k) ∙ stays in
    cc
stays_at marks places k (Some p) at stays =
    let same : Some (not (is_marked marks p)) ≡ Some true = sym (ap (option_map (λ (p : ℕ). not (is_marked marks p))) at) ∙ sym (slice_get-map (λ (p : ℕ). not (is_marked marks p)) places k) ∙ stays in
    (p, refl, unmarked_of (is_marked marks p) (same_some (not (is_marked marks p)) true same))

module _ (a : Asked) (min place : ℕ) (own : Values) (store stored others : List Stored) (values : List Values) (list places : List ℕ) (entries : List Entry) (like : AreAlike store stored) (one : OnePatched place own stored others)
    (values_is : values ≡ values_read stored) (list_is : list ≡ listed a stored) (places_is : places ≡ shown a min stored) (entries_is : entries ≡ entries_seen a min stored) where
  abbrev first_marks : List Bool
  first_marks = marked_at store place

  abbrev pub marks : List Bool
  marks = all_heirs store first_marks list

  abbrev pub inherited_values : List Values
  inherited_values = all_inherit store (slice_set values place own) list

  differ : DifferAt (is_marked first_marks) stored others
  differ p free = one.differ p (unmarked (map (λ (s : Stored). false) store) place p (is_within place 1 p) refl free)

  free_at : (p : ℕ) → is_marked marks p ≡ false → is_heir stored (is_marked first_marks) (reverse (listed a stored)) p ≡ false
  free_at p free =
      spared stored (listed a stored) first_marks p
      (sym (ap (λ (ms : List Bool). is_marked ms p) (heirs_alike store stored like list first_marks ∙ ap (all_heirs stored first_marks) list_is)) ∙ free)

  same_at : (p : ℕ) → is_marked marks p ≡ false → seen_at a min stored p ≡ seen_at a min others p
  same_at p free = (heirs_alone a min (is_marked first_marks) stored others one.alike differ).unchanged p (free_at p free)

  new_list : list ≡ listed a others
  new_list = list_is ∙ (one_list a min stored others one.alike).list

  values_now : (p : ℕ) → get_or inherited_values p [] ≡ values_after others (reverse (listed a others)) p
  values_now p =
      ap (λ (vs : List Values). get_or vs p [])
      (inherit_alike store others (like ∙ one.alike) list (slice_set values place own)
      ∙ ap (λ (vs : List Values). all_inherit others vs list) (ap (λ (vs : List Values). slice_set vs place own) values_is ∙ one.values)
      ∙ ap (all_inherit others (values_read others)) new_list)
      ∙ (λ j. values_are others (listed a others) j p)

  made_now : (p : ℕ) → made_at a min store inherited_values p ≡ seen_at a min others p
  made_now p =
      (one_list a min store others (like ∙ one.alike)).seen (get_or inherited_values p []) p
      ∙ ap (λ (v : Values). entry_at a min others (λ q. v) p) (values_now p)

  pub entries_now : entries_made (made_at a min store inherited_values) (is_marked marks) places entries ≡ entries_seen a min others
  entries_now =
      (λ j. entries_made (made_at a min store inherited_values) (is_marked marks) (places_is j) ((entries_is ∙ seen_list a min stored) j))
      ∙ entries_are (made_at a min store inherited_values) (seen_at a min stored) (seen_at a min others) (is_marked marks) (shown a min stored) made_now same_at (shown_seen a min stored)
      ∙ ap (filter_map (seen_at a min others)) (heirs_alone a min (is_marked first_marks) stored others one.alike differ).places
      ∙ sym (seen_list a min others)

  pub stays_now : (k : ℕ) → slice_get (stays_among marks places) k ≡ Some true → slice_get entries k ≡ slice_get (entries_seen a min others) k
  stays_now k stays =
      let at = stays_at marks places k (slice_get places k) refl stays in
      let there : slice_get (shown a min stored) k ≡ Some at.0 = ap (λ (ps : List ℕ). slice_get ps k) (sym places_is) ∙ at.1 in
      let still : slice_get (shown a min others) k ≡ Some at.0 = ap (λ (ps : List ℕ). slice_get ps k) (sym (heirs_alone a min (is_marked first_marks) stored others one.alike differ).places) ∙ there in
      ap (λ (es : List Entry). slice_get es k) entries_is
      ∙ seen_as_shown a min stored k
      ∙ ap (option_and_then (seen_at a min stored)) there
      ∙ same_at at.0 at.2
      ∙ sym (ap (option_and_then (seen_at a min others)) still)
      ∙ sym (seen_as_shown a min others k)
