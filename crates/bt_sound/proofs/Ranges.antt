-- What is known of numbers and texts holds of what the functions make of them.
use Rattle.std.proofs.Common.{◌≡◌, ℕ, ◌≤◌, ℤ, pos, ◌≤ℤ◌, ◌+ℤ◌, ◌-ℤ◌, int_lt, Bool, true, false, ◌&&◌, ◌||◌, List, [], ◌∷◌, ◌++◌, length, Option, None, Some, refl, sym, subst, ◌∙◌, arith, true≢false}
use Rattle.std.specs.Prelude.{if◌then◌else◌, is_none}
use Rattle.std.specs.List.{list_all}
use Rattle.std.proofs.lemmas.Int.{ints}
use Rattle.bt_text.specs.ByteTests.{is_white}
use Rattle.bt_names.specs.Names.{names_of, texts_between, places_of_and}
use Rattle.bt_actions.specs.Given.{fits_number, truth}
use Rattle.bt_actions.specs.Comparison.{is_blank}
use Rattle.bt_sound.specs.Known.{Range, May, Number, any_text, joined_may, exactly, at_least, bit, bound_by, sum_range, difference_range, is_under, is_upto, less_range, missing_range, empty_range, names_range}
use Rattle.bt_sound.specs.Fits.{IsAtLeast, IsAtMost, IsIn, allows, TextFits, FieldFits, Fits}

-- sums and differences

least_if : (t : Bool) (a n : ℤ) → a ≤ℤ n → IsAtLeast (if t then Some a else None) n
least_if true a n h = h
least_if false a n h = tt

most_if : (t : Bool) (a n : ℤ) → n ≤ℤ a → IsAtMost (if t then Some a else None) n
most_if true a n h = h
most_if false a n h = tt

least_sum : (a b : Option ℤ) (n m : ℤ) → IsAtLeast a n → IsAtLeast b m → IsAtLeast (bound_by (λ x y. x +ℤ y) a b) (n +ℤ m)
least_sum None b n m h i = tt
least_sum (Some a) None n m h i = tt
least_sum (Some a) (Some b) n m h i = least_if (fits_number (a +ℤ b)) (a +ℤ b) (n +ℤ m) (omega (arith, ints))

most_sum : (a b : Option ℤ) (n m : ℤ) → IsAtMost a n → IsAtMost b m → IsAtMost (bound_by (λ x y. x +ℤ y) a b) (n +ℤ m)
most_sum None b n m h i = tt
most_sum (Some a) None n m h i = tt
most_sum (Some a) (Some b) n m h i = most_if (fits_number (a +ℤ b)) (a +ℤ b) (n +ℤ m) (omega (arith, ints))

pub sum_in : (r q : Range) (n m : ℤ) → IsIn r n → IsIn q m → IsIn (sum_range r q) (n +ℤ m)
sum_in r q n m h i = (least_sum r.low q.low n m h.0 i.0, most_sum r.high q.high n m h.1 i.1)

least_difference : (a b : Option ℤ) (n m : ℤ) → IsAtLeast a n → IsAtMost b m → IsAtLeast (bound_by (λ x y. x -ℤ y) a b) (n -ℤ m)
least_difference None b n m h i = tt
least_difference (Some a) None n m h i = tt
least_difference (Some a) (Some b) n m h i = least_if (fits_number (a -ℤ b)) (a -ℤ b) (n -ℤ m) (omega (arith, ints))

most_difference : (a b : Option ℤ) (n m : ℤ) → IsAtMost a n → IsAtLeast b m → IsAtMost (bound_by (λ x y. x -ℤ y) a b) (n -ℤ m)
most_difference None b n m h i = tt
most_difference (Some a) None n m h i = tt
most_difference (Some a) (Some b) n m h i = most_if (fits_number (a -ℤ b)) (a -ℤ b) (n -ℤ m) (omega (arith, ints))

pub difference_in : (r q : Range) (n m : ℤ) → IsIn r n → IsIn q m → IsIn (difference_range r q) (n -ℤ m)
difference_in r q n m h i =
    (least_difference r.low q.high n m h.0 i.1, most_difference r.high q.low n m h.1 i.0)

-- tests

one_in : IsIn (exactly (pos 1)) (pos 1)
one_in = (omega (arith, ints), omega (arith, ints))

zero_in : IsIn (exactly (pos 0)) (pos 0)
zero_in = (omega (arith, ints), omega (arith, ints))

one_bit : IsIn bit (pos 1)
one_bit = (omega (arith, ints), omega (arith, ints))

zero_bit : IsIn bit (pos 0)
zero_bit = (omega (arith, ints), omega (arith, ints))

pub bit_in : (t : Bool) → Fits (Number bit) (truth t)
bit_in true = one_bit
bit_in false = zero_bit

under_less : (a b : Option ℤ) (n m : ℤ) → is_under a b ≡ true → IsAtMost a n → IsAtLeast b m → int_lt n m ≡ true
under_less None b n m e h i = cc
under_less (Some a) None n m e h i = cc
under_less (Some a) (Some b) n m e h i = grind (arith, ints)

upto_less : (a b : Option ℤ) (n m : ℤ) → is_upto a b ≡ true → IsAtMost a m → IsAtLeast b n → int_lt n m ≡ false
upto_less None b n m e h i = cc
upto_less (Some a) None n m e h i = cc
upto_less (Some a) (Some b) n m e h i = grind (arith, ints)

pub less_in : (r q : Range) (n m : ℤ) → IsIn r n → IsIn q m → Fits (Number (less_range r q)) (truth (int_lt n m))
less_in r q n m h i = by (is_under r.high q.low) (is_upto q.high r.low) refl refl
  where
    by : (a b : Bool) → is_under r.high q.low ≡ a → is_upto q.high r.low ≡ b → Fits (Number (if a then exactly (pos 1) else (if b then exactly (pos 0) else bit))) (truth (int_lt n m))
    by true b e f =
        subst (λ t. Fits (Number (exactly (pos 1))) (truth t)) (sym (under_less r.high q.low n m e h.1 i.0)) one_in
    by false true e f =
        subst (λ t. Fits (Number (exactly (pos 0))) (truth t)) (sym (upto_less q.high r.low n m f i.1 h.0)) zero_in
    by false false e f = bit_in (int_lt n m)

-- fields

abbrev may : Bool → Bool → Bool → May
may x y z = record { missing = x; blank = y; inked = z }

empty_one : (x y z : Bool) → (x || y) ≡ true → IsIn (empty_range (may x y z)) (pos 1)
empty_one x y false e = one_in
empty_one true y true e = one_bit
empty_one false true true e = one_bit
empty_one false false true e = cc

empty_zero : (x y z : Bool) → z ≡ true → IsIn (empty_range (may x y z)) (pos 0)
empty_zero x y false e = cc
empty_zero true y true e = zero_bit
empty_zero false true true e = zero_bit
empty_zero false false true e = zero_in

missing_one : (x y z : Bool) → x ≡ true → IsIn (missing_range (may x y z)) (pos 1)
missing_one false y z e = cc
missing_one true true z e = one_bit
missing_one true false true e = one_bit
missing_one true false false e = one_in

missing_zero : (x y z : Bool) → (y || z) ≡ true → IsIn (missing_range (may x y z)) (pos 0)
missing_zero false y z e = zero_in
missing_zero true true z e = zero_bit
missing_zero true false true e = zero_bit
missing_zero true false false e = cc

either_first : (a b : Bool) → a ≡ true → (a || b) ≡ true
either_first true b h = refl
either_first false b h = cc

either_last : (a b : Bool) → b ≡ true → (a || b) ≡ true
either_last true b h = refl
either_last false b h = h

empty_by : (m : May) (b : Bool) → allows m b ≡ true → Fits (Number (empty_range m)) (truth b)
empty_by m true h = empty_one m.missing m.blank m.inked (either_last m.missing m.blank h)
empty_by m false h = empty_zero m.missing m.blank m.inked h

pub empty_in : (m : May) (o : Option (List ℕ)) → FieldFits m o → Fits (Number (empty_range m)) (truth (is_blank o))
empty_in m None h = empty_one m.missing m.blank m.inked (either_first m.missing m.blank h)
empty_in m (Some t) h = empty_by m (list_all is_white t) h

missing_by : (m : May) (b : Bool) → allows m b ≡ true → IsIn (missing_range m) (pos 0)
missing_by m true h = missing_zero m.missing m.blank m.inked (either_first m.blank m.inked h)
missing_by m false h = missing_zero m.missing m.blank m.inked (either_last m.blank m.inked h)

pub missing_in : (m : May) (o : Option (List ℕ)) → FieldFits m o → Fits (Number (missing_range m)) (truth (is_none o))
missing_in m None h = missing_one m.missing m.blank m.inked h
missing_in m (Some t) h = missing_by m (list_all is_white t) h

-- texts

any_by : (b : Bool) → allows any_text b ≡ true
any_by true = refl
any_by false = refl

pub any_in : (t : List ℕ) → TextFits any_text t
any_in t = any_by (list_all is_white t)

white_and : (a b c : Bool) (d : Bool) → d ≡ (b && c) → (a && d) ≡ ((a && b) && c)
white_and true b c d h = h
white_and false b c d h = refl

white_append : (t u : List ℕ) → list_all is_white (t ++ u) ≡ (list_all is_white t && list_all is_white u)
white_append [] u = refl
white_append (c ∷ t) u = white_and (is_white c) (list_all is_white t) (list_all is_white u) (list_all is_white (t ++ u)) (white_append t u)

both_true : (a b : Bool) → a ≡ true → b ≡ true → (a && b) ≡ true
both_true true b h i = i
both_true false b h i = cc

allows_join : (m n : May) (a b : Bool) → allows m a ≡ true → allows n b ≡ true → allows (joined_may m n) (a && b) ≡ true
allows_join m n true true h i = both_true m.blank n.blank h i
allows_join m n true false h i = either_last m.inked n.inked i
allows_join m n false b h i = either_first m.inked n.inked h

pub join_in : (m n : May) (t u : List ℕ) → TextFits m t → TextFits n u → TextFits (joined_may m n) (t ++ u)
join_in m n t u h i =
    subst (λ b. allows (joined_may m n) b ≡ true) (sym (white_append t u)) (allows_join m n (list_all is_white t) (list_all is_white u) h i)

-- names

some_between : (t : List ℕ) (start : ℕ) (places : List ℕ) → 1 ≤ length (texts_between t start places)
some_between t start [] = omega arith
some_between t start (i ∷ places) = omega arith

some_names : (m : May) (t : List ℕ) → m.blank ≡ false → TextFits m t → 1 ≤ length (names_of t)
unfolding names_of
some_names m [] e h = absurd (true≢false (sym h ∙ e))
some_names m (c ∷ t) e h = some_between (c ∷ t) 0 (places_of_and (c ∷ t))

pub names_in : (m : May) (t : List ℕ) → TextFits m t → IsIn (names_range m) (pos (length (names_of t)))
names_in m t h = by m.blank refl
  where
    by : (b : Bool) → m.blank ≡ b → IsIn (if b then at_least (pos 0) else at_least (pos 1)) (pos (length (names_of t)))
    by true e = (omega (arith, ints), tt)
    by false e = let k = some_names m t e h in (omega (arith, ints), tt)
