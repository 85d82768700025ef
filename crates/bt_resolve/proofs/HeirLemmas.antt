-- What an edit of values may change of what is seen.
use Rattle.std.proofs.Common.{◌≡◌, ◌∙◌, ap, sym, refl, append_assoc, ℕ, zero, suc, ◌+◌, ◌-◌, ◌<◌, ◌≤◌, Bool, true, false, List, [], ◌∷◌, ◌++◌, length, drop, reverse, Option, Some, None, arith, inl, inr, ◌⊎◌}
use Rattle.std.specs.Prelude.{◌==◌, ◌||◌, not, cond, slice_get, filter, filter_map, is_some, option_map, option_and_then}
use Rattle.std.specs.List.{AllByRecursion, cons_option}
use Rattle.std.proofs.lemmas.Bool.Decides.{Decides-eqb, nat_tests}
use Rattle.std.proofs.lemmas.List.{length-map}
use Rattle.std.proofs.lemmas.Bool.{cases_lt}
use Rattle.bt_resolve.specs.declared.asked.Asked.{Asked}
use Rattle.bt_resolve.specs.declared.stored.Stored.{Stored}
use Rattle.bt_resolve.specs.declared.entry.Entry.{Entry}
use Rattle.bt_resolve.specs.Listed.{listed}
use Rattle.bt_resolve.specs.Inherited.{inherited, values_after, is_left_out, entry_seen, entries_seen}
use Rattle.bt_resolve.specs.inner.Cases.{values_of, parent_at, inherits, entry_at}
use Rattle.bt_resolve.specs.Skeletons.{skeleton, AreAlike, heir_if, is_heir, DifferAt, Heir, Changed, Inherits, HeirsInherit, shown, seen_at, SeenAsShown, HeirsAloneChange, is_within, SpanDiffers, has_parent, OthersInheritNothing}
use Rattle.bt_resolve.proofs.FieldLemmas.{or_false}
use Rattle.bt_resolve.proofs.BelowLemmas.{listed_stored}
use Rattle.bt_resolve.proofs.SkeletonLemmas.{one_list, same_parent}
use Rattle.bt_resolve.proofs.SpanLemmas.{alike_append}

abbrev Values : Type 0
Values = List (Option (List ℕ))

-- ---- values

heir_step : (b : Bool) (o : Option ℕ) (test : ℕ → Bool) (now others : ℕ → Values) (p : ℕ) → ((k : ℕ) → test k ≡ false → now k ≡ others k) → heir_if b o test p ≡ false → inherits b o now p ≡ inherits b o others p
heir_step false o test now others p same none = same p none
heir_step true None test now others p same none = same p none
heir_step true (Some q) test now others p same none =
    let both : (test p ≡ false) × (test q ≡ false) = or_false (test p) (test q) none in
    λ j. inherited (same p both.0 j) (same q both.1 j)

values_kept : (changed : ℕ → Bool) (stored others : List Stored) → AreAlike stored others → DifferAt changed stored others → (places : List ℕ) (p : ℕ) → is_heir stored changed places p ≡ false → values_after stored places p ≡ values_after others places p
unfolding values_after
values_kept changed stored others alike differ [] p none = differ p none
values_kept changed stored others alike differ (q ∷ before) p none =
    heir_step (q == p) (parent_at stored p) (is_heir stored changed before) (values_after stored before) (values_after others before) p (values_kept changed stored others alike differ before) none
    ∙ ap (λ (o : Option ℕ). inherits (q == p) o (values_after others before) p) (same_parent stored others alike p)

pub heirs_alone : HeirsAloneChange
heirs_alone a min changed stored others alike differ =
    let one = one_list a min stored others alike in
    record {
      places = λ j. filter (λ p. not (one.left_out p j)) (one.list j);
      unchanged = λ p none.
          ap (λ (v : Values). entry_at a min stored (λ q. v) p) (values_kept changed stored others alike differ (reverse (listed a stored)) p none)
          ∙ one.seen (values_after others (reverse (listed a stored)) p) p
          ∙ ap (λ (ps : List ℕ). entry_at a min others (values_after others (reverse ps)) p) one.list;
    }

-- ---- heirs

or_true : (a b : Bool) → (a || b) ≡ true → (a ≡ true) ⊎ (b ≡ true)
or_true true b h = inl refl
or_true false b h = inr h

heir_by : (stored : List Stored) (changed : ℕ → Bool) (b : Bool) (o : Option ℕ) (now : ℕ → Bool) (p : ℕ) → parent_at stored p ≡ o → ((k : ℕ) → now k ≡ true → Heir stored changed k) → heir_if b o now p ≡ true → Heir stored changed p
heir_by stored changed false o now p is heirs h = heirs p h
heir_by stored changed true None now p is heirs h = heirs p h
heir_by stored changed true (Some q) now p is heirs h =
    elim (or_true (now p) (now q) h) [ inl own ↦ heirs p own | inr theirs ↦ Inherits p q is (heirs q theirs) ]

pub heirs_inherit : HeirsInherit
heirs_inherit stored changed [] p h = Changed p h
heirs_inherit stored changed (q ∷ before) p h =
    heir_by stored changed (q == p) (parent_at stored p) (is_heir stored changed before) p refl (heirs_inherit stored changed before) h

-- ---- places

some_at : (stored : List Stored) (p : ℕ) → p < length stored → is_some (slice_get stored p) ≡ true
some_at [] p h = absurd (omega (arith, h))
some_at (s ∷ ss) zero h = refl
some_at (s ∷ ss) (suc p) h = some_at ss p (omega (arith, h))

some_mapped : (f : Stored → Entry) (o : Option Stored) → is_some o ≡ true → is_some (option_map f o) ≡ true
some_mapped f None h = h
some_mapped f (Some s) h = refl

all_kept : (P : ℕ → Type 0) (b : Bool) (p : ℕ) (ps : List ℕ) → P p → AllByRecursion P ps → AllByRecursion P (cond b (p ∷ ps) ps)
all_kept P true p ps h hs = (h, hs)
all_kept P false p ps h hs = hs

some_shown : (f : ℕ → Option Entry) (n : ℕ) (test : ℕ → Bool) (ps : List ℕ) → ((p : ℕ) → p < n → is_some (f p) ≡ true) → AllByRecursion (λ p. p < n) ps → AllByRecursion (λ p. is_some (f p) ≡ true) (filter test ps)
some_shown f n test [] is h = tt
some_shown f n test (p ∷ ps) is h = all_kept (λ q. is_some (f q) ≡ true) (test p) p (filter test ps) (is p h.0) (some_shown f n test ps is h.1)

pub first_some : (o : Option Entry) (es : List Entry) → is_some o ≡ true → (slice_get (cons_option o es) 0 ≡ o) × (drop 1 (cons_option o es) ≡ es)
first_some None es h = absurd cc
first_some (Some e) es h = (refl, refl)

next_some : (o : Option Entry) (es : List Entry) (k : ℕ) → is_some o ≡ true → slice_get (cons_option o es) (suc k) ≡ slice_get es k
next_some None es k h = absurd cc
next_some (Some e) es k h = refl

get_shown : (f : ℕ → Option Entry) (ps : List ℕ) → AllByRecursion (λ p. is_some (f p) ≡ true) ps → (k : ℕ) → slice_get (filter_map f ps) k ≡ option_and_then f (slice_get ps k)
get_shown f [] h k = refl
get_shown f (p ∷ ps) h zero = (first_some (f p) (filter_map f ps) h.0).0
get_shown f (p ∷ ps) h (suc k) = next_some (f p) (filter_map f ps) k h.0 ∙ get_shown f ps h.1 k

pub shown_seen : (a : Asked) (min : ℕ) (stored : List Stored) → AllByRecursion (λ p. is_some (seen_at a min stored p) ≡ true) (shown a min stored)
shown_seen a min stored =
    let values = values_after stored (reverse (listed a stored)) in
    some_shown (entry_at a min stored values) (length stored) (λ p. not (is_left_out a min stored p)) (listed a stored)
    (λ p below. some_mapped (entry_seen a min stored (values p)) (slice_get stored p) (some_at stored p below)) (listed_stored a stored)

pub seen_as_shown : SeenAsShown
unfolding entries_seen
seen_as_shown a min stored k = get_shown (seen_at a min stored) (shown a min stored) (shown_seen a min stored) k

-- ---- spans

get_front : (xs ys : List Stored) (p : ℕ) → p < length xs → slice_get (xs ++ ys) p ≡ slice_get xs p
get_front [] ys p h = absurd (omega (arith, h))
get_front (x ∷ xs) ys zero h = refl
get_front (x ∷ xs) ys (suc p) h = get_front xs ys p (omega (arith, h))

get_behind : (xs ys : List Stored) (p k : ℕ) → p ≡ length xs + k → slice_get (xs ++ ys) p ≡ slice_get ys k
get_behind [] ys p k is = ap (slice_get ys) (omega (arith, is))
get_behind (x ∷ xs) ys zero k is = absurd (omega (arith, is))
get_behind (x ∷ xs) ys (suc p) k is = get_behind xs ys p k (omega (arith, is))

within_is : (begin count p : ℕ) → begin ≤ p → p < begin + count → is_within begin count p ≡ true
within_is begin count p h k = grind (arith, nat_tests)

pub alike_length : (mine theirs : List Stored) → AreAlike mine theirs → length mine ≡ length theirs
alike_length mine theirs alike = sym (length-map mine skeleton) ∙ ap length alike ∙ length-map theirs skeleton

outside_span : (front mine theirs rest : List Stored) → length mine ≡ length theirs → (p : ℕ) → is_within (length front) (length mine) p ≡ false → slice_get (front ++ (mine ++ rest)) p ≡ slice_get (front ++ (theirs ++ rest)) p
outside_span front mine theirs rest same p out =
    elim (cases_lt p (length front)) [
      | inl before ↦ get_front front (mine ++ rest) p before ∙ sym (get_front front (theirs ++ rest) p before)
      | inr past ↦
          elim (cases_lt p (length front + length mine)) [
            | inl inside ↦ (let wrong : true ≡ false = sym (within_is (length front) (length mine) p past inside) ∙ out in absurd cc)
            | inr behind ↦
                get_behind front (mine ++ rest) p (p - length front) (omega arith)
                ∙ get_behind mine rest (p - length front) (p - length front - length mine) (omega arith)
                ∙ sym (get_behind theirs rest (p - length front) (p - length front - length mine) (omega arith))
                ∙ sym (get_behind front (theirs ++ rest) p (p - length front) (omega arith))
          ]
    ]

pub span_differs : SpanDiffers
span_differs front mine theirs rest alike = (
  alike_append (front ++ mine) (front ++ theirs) rest rest (alike_append front front mine theirs refl alike) refl,
  λ p out.
      ap (λ (ss : List Stored). values_of (slice_get ss p)) (append_assoc front mine rest)
      ∙ ap values_of (outside_span front mine theirs rest (alike_length mine theirs alike) p out)
      ∙ sym (ap (λ (ss : List Stored). values_of (slice_get ss p)) (append_assoc front theirs rest)),
)

-- ---- those who inherit

nothing_inherited_at : (stored : List Stored) (q p : ℕ) (b : Bool) (o : Option ℕ) (now : ℕ → Values) → (q == p) ≡ b → parent_at stored p ≡ o → is_some (parent_at stored q) ≡ false → now p ≡ inherits b o now p
nothing_inherited_at stored q p false o now is parent none = refl
nothing_inherited_at stored q p true None now is parent none = refl
nothing_inherited_at stored q p true (Some r) now is parent none =
    absurd (let same : q ≡ p = (Decides-eqb q p).0 is in let wrong : true ≡ false = ap (λ (o : Option ℕ). is_some o) (sym parent) ∙ ap (λ (k : ℕ). is_some (parent_at stored k)) (sym same) ∙ none in cc)

no_heir_at : (stored : List Stored) (q p : ℕ) (b : Bool) (o : Option ℕ) (now : ℕ → Bool) → (q == p) ≡ b → parent_at stored p ≡ o → is_some (parent_at stored q) ≡ false → now p ≡ heir_if b o now p
no_heir_at stored q p false o now is parent none = refl
no_heir_at stored q p true None now is parent none = refl
no_heir_at stored q p true (Some r) now is parent none =
    absurd (let same : q ≡ p = (Decides-eqb q p).0 is in let wrong : true ≡ false = ap (λ (o : Option ℕ). is_some o) (sym parent) ∙ ap (λ (k : ℕ). is_some (parent_at stored k)) (sym same) ∙ none in cc)

abbrev SameAt : List Stored → (ℕ → Bool) → List ℕ → List ℕ → ℕ → Type 0
SameAt stored changed these those p =
    (values_after stored these p ≡ values_after stored those p) × (is_heir stored changed these p ≡ is_heir stored changed those p)

passed_over : (stored : List Stored) (changed : ℕ → Bool) (q : ℕ) (b : Bool) (these before : List ℕ) → has_parent stored q ≡ b → ((p : ℕ) → SameAt stored changed these before p) → (p : ℕ) → SameAt stored changed (cond b (q ∷ these) these) (q ∷ before) p
unfolding values_after
passed_over stored changed q true these before is same p =
    let values : values_after stored these ≡ values_after stored before = λ j k. (same k).0 j in
    let heirs : is_heir stored changed these ≡ is_heir stored changed before = λ j k. (same k).1 j in
    (ap (λ (now : ℕ → Values). inherits (q == p) (parent_at stored p) now p) values, ap (λ (now : ℕ → Bool). heir_if (q == p) (parent_at stored p) now p) heirs)
passed_over stored changed q false these before is same p = (
  (same p).0 ∙ nothing_inherited_at stored q p (q == p) (parent_at stored p) (values_after stored before) refl refl is,
  (same p).1 ∙ no_heir_at stored q p (q == p) (parent_at stored p) (is_heir stored changed before) refl refl is,
)

pub others_inherit_nothing : OthersInheritNothing
others_inherit_nothing stored changed [] p = (refl, refl)
others_inherit_nothing stored changed (q ∷ before) p =
    passed_over stored changed q (has_parent stored q) (filter (has_parent stored) before) before refl (others_inherit_nothing stored changed before) p
