-- An answer that was put on the stack is what pushing it does.
use Rattle.std.proofs.Common.{◌≡◌, ℕ, ◌<◌, ◌≤◌, ◌+◌, Bool, true, false, List, [], ◌∷◌, ◌++◌, length, drop, refl, ap, sym, ◌∙◌, arith, length-append, length-drop}
use Rattle.std.proofs.lemmas.Bool.{false≢true}
use Rattle.std.proofs.lemmas.Option.{none-some, same_Some}
use Rattle.std.specs.Prelude.{Option, Some, None, nat_lt, nat_le, if◌then◌else◌, option_and_then, slice_get, is_none, ◌||◌}
use Rattle.std.specs.Option.{option_zip}
use Rattle.bt_style.specs.declared.builtin.Builtin.{Builtin as Primitive}
use Rattle.bt_actions.specs.declared.complaint.Complaint.TheVariants.{StackPassed, TextPassed}
use Rattle.bt_style.specs.declared.builtin.Builtin.TheVariants as builtin
use Rattle.bt_actions.specs.Arguments.{as_text, all_three, is_wrong, judged, taken_two, taken_three}
use Rattle.bt_actions.specs.Given.{valued, empty_item}
use Rattle.bt_actions.specs.Item.{Item, Txt}
use Rattle.bt_actions.specs.inner.Rows.{join_of}
use Rattle.bt_actions.specs.State.{pushed, popped, text_len}
use Rattle.bt_actions.specs.World.{World, Goes, Stops, say, with_stack}
use Rattle.bt_stack.specs.Desk.{Desk, with_items, with_answer}
use Rattle.bt_stack.specs.Tops.{joined_text, joined_tops}

-- what follows of an answer that was put on the stack
pub record IsAnswered (b : Bool) (v : Item) (count : ℕ) (d d' : Desk) : Type 0 where
  pub fits : b ≡ true
  pub desk : d' ≡ with_items (v ∷ drop count d.items) d

pub is_answered : (b : Bool) (v : Item) (count : ℕ) (d d' : Desk) → (let r : Bool × Desk = (true, d') in r ≡ with_answer (if b then Some v else None) count d) → IsAnswered b v count d d'
is_answered true v count d d' e = record { fits = refl; desk = ap (λ p. p.1) e }
is_answered false v count d d' e = absurd (false≢true (sym (ap (λ p. p.0) e)))

pub pushed_is : (v : Item) (w : World) → nat_lt (length w.stack) 1000 ≡ true → nat_le (text_len v) 65536 ≡ true → pushed v w ≡ Goes (with_stack (v ∷ w.stack) w)
pushed_is v w room short i = if room i then (if short i then Goes (with_stack (v ∷ w.stack) w) else Stops (say TextPassed w)) else Stops (say StackPassed w)

-- where arguments were taken away there is room
pub room_after : (l : List Item) (count : ℕ) → length l ≤ 1000 → 0 < count → nat_lt (length (drop count l)) 1000 ≡ true
room_after l count few some = grind (arith, few, some, length-drop count l)

-- Arguments that aren't all there, or not all of their kinds, are taken away and judged.

two_from : {A B : Type 0} (b : Primitive) (lower : Item → Option A) (upper : Item → Option B) (l : List Item) (w : World) → option_zip (option_and_then lower (slice_get l 1)) (option_and_then upper (slice_get l 0)) ≡ None → taken_two b lower upper (with_stack l w) ≡ (None, judged b (is_wrong upper (slice_get l 0) || is_wrong lower (slice_get l 1)) (popped (popped (with_stack l w)).1).1)
two_from b lower upper [] w e = refl
two_from b lower upper (u ∷ []) w e = refl
two_from b lower upper (u ∷ v ∷ rest) w e = ap (λ o. (o, judged b (is_none (upper u) || is_none (lower v)) (with_stack rest w))) e

pub two_refused : {A B : Type 0} (b : Primitive) (lower : Item → Option A) (upper : Item → Option B) (w : World) → option_zip (option_and_then lower (slice_get w.stack 1)) (option_and_then upper (slice_get w.stack 0)) ≡ None → taken_two b lower upper w ≡ (None, judged b (is_wrong upper (slice_get w.stack 0) || is_wrong lower (slice_get w.stack 1)) (popped (popped w).1).1)
two_refused b lower upper w e = two_from b lower upper w.stack w e

three_from : {A B C : Type 0} (b : Primitive) (lower : Item → Option A) (middle : Item → Option B) (upper : Item → Option C) (l : List Item) (w : World) → all_three (option_and_then lower (slice_get l 2)) (option_and_then middle (slice_get l 1)) (option_and_then upper (slice_get l 0)) ≡ None → taken_three b lower middle upper (with_stack l w) ≡ (None, judged b (is_wrong upper (slice_get l 0) || is_wrong middle (slice_get l 1) || is_wrong lower (slice_get l 2)) (popped (popped (popped (with_stack l w)).1).1).1)
three_from b lower middle upper [] w e = refl
three_from b lower middle upper (u ∷ []) w e = refl
three_from b lower middle upper (u ∷ v ∷ []) w e = refl
three_from b lower middle upper (u ∷ v ∷ t ∷ rest) w e = ap (λ o. (o, judged b (is_none (upper u) || is_none (middle v) || is_none (lower t)) (with_stack rest w))) e

pub three_refused : {A B C : Type 0} (b : Primitive) (lower : Item → Option A) (middle : Item → Option B) (upper : Item → Option C) (w : World) → all_three (option_and_then lower (slice_get w.stack 2)) (option_and_then middle (slice_get w.stack 1)) (option_and_then upper (slice_get w.stack 0)) ≡ None → taken_three b lower middle upper w ≡ (None, judged b (is_wrong upper (slice_get w.stack 0) || is_wrong middle (slice_get w.stack 1) || is_wrong lower (slice_get w.stack 2)) (popped (popped (popped w).1).1).1)
three_refused b lower middle upper w e = three_from b lower middle upper w.stack w e

-- the item that was put on the stack
pub record HasItem (o : Option Item) (count : ℕ) (d d' : Desk) : Type 0 where
  pub item : Item
  pub is : Some item ≡ o
  pub desk : d' ≡ with_items (item ∷ drop count d.items) d

pub has_item : (o : Option Item) (count : ℕ) (d d' : Desk) → (let r : Bool × Desk = (true, d') in r ≡ with_answer o count d) → HasItem o count d d'
has_item None count d d' e = absurd (false≢true (sym (ap (λ p. p.0) e)))
has_item (Some v) count d d' e = record { item = v; is = refl; desk = ap (λ p. p.1) e }

-- two texts that were joined
joined_is : (t u : Option (List ℕ)) (j : Item) (rest : List Item) (w : World) → Some j ≡ joined_text (option_zip t u) → length rest ≤ 998 → Goes (with_stack (j ∷ rest) w) ≡ valued join_of empty_item (option_zip t u, judged builtin.Join (is_none u || is_none t) (with_stack rest w))
joined_is None u j rest w e few = absurd (none-some j (sym e))
joined_is (Some t) None j rest w e few = absurd (none-some j (sym e))
joined_is (Some t) (Some u) j rest w e few = texts_joined (nat_le (length t + length u) 65536) refl e
  where
    texts_joined : (b : Bool) → b ≡ nat_le (length t + length u) 65536 → Some j ≡ (if b then Some (Txt (t ++ u)) else None) → Goes (with_stack (j ∷ rest) w) ≡ pushed (Txt (t ++ u)) (with_stack rest w)
    texts_joined false short e = absurd (none-some j (sym e))
    texts_joined true short e =
        ap (λ i. Goes (with_stack (i ∷ rest) w)) (same_Some j (Txt (t ++ u)) e)
        ∙ sym (pushed_is (Txt (t ++ u)) (with_stack rest w) (grind (arith, few)) (ap (λ n. nat_le n 65536) (length-append t u) ∙ sym short))

pub tops_joined_are : (l : List Item) (j : Item) (w : World) → Some j ≡ joined_tops l → length l ≤ 1000 → Goes (with_stack (j ∷ drop 2 l) w) ≡ valued join_of empty_item (taken_two builtin.Join as_text as_text (with_stack l w))
tops_joined_are [] j w e few = absurd (none-some j (sym e))
tops_joined_are (u ∷ []) j w e few = absurd (none-some j (sym e))
tops_joined_are (u ∷ v ∷ rest) j w e few = joined_is (as_text v) (as_text u) j rest w e (omega (arith, few))
