-- What is copied out at a step's end: the variables that it was given, with its values put over them one by one.
use Rattle.std.proofs.Common.{◌≡◌, ℕ, zero, suc, ◌<◌, List, [], ◌∷◌, length, take, get_or, refl, ap, sym, ◌∙◌, arith}
use Rattle.std.specs.Prelude.{Option, Some, None, slice_get}
use Rattle.bt_actions.specs.Arguments.{as_text}
use Rattle.bt_stack.specs.declared.value.Value.{Value}
use Rattle.bt_stack.specs.declared.value.Value.TheVariants as value
use Rattle.bt_stack.specs.inner.Kept.{item_in, text_over, texts_over, value_over, own_of, values_over, put}

put_next : {A : Type 0} (o : Option A) (n : ℕ) (x : A) (l : List A) → put o (suc n) (x ∷ l) ≡ x ∷ put o n l
put_next None n x l = refl
put_next (Some a) n x l = refl

put_nothing : {A : Type 0} (o : Option A) (n : ℕ) → put o n [] ≡ []
put_nothing None n = refl
put_nothing (Some a) n = refl

put_first : {A : Type 0} (o : Option A) (x : A) (l : List A) → put o 0 (x ∷ l) ≡ value_over o x ∷ l
put_first None x l = refl
put_first (Some a) x l = refl

pub values_next : {A : Type 0} (os : List (Option A)) (l : List A) (n : ℕ) (o : Option A) → n < length os → o ≡ own_of (slice_get os n) → values_over (take (suc n) os) l ≡ put o n (values_over (take n os) l)
values_next [] l n o h is_there = absurd (omega (arith, h))
values_next (k ∷ os) [] zero o h is_there = sym (put_nothing o 0)
values_next (k ∷ os) [] (suc n) o h is_there = sym (put_nothing o (suc n))
values_next (k ∷ os) (x ∷ l) zero o h is_there = sym (put_first o x l ∙ ap (λ m. value_over m x ∷ l) is_there)
values_next (k ∷ os) (x ∷ l) (suc n) o h is_there =
    ap (λ m. value_over k x ∷ m) (values_next os l n o (omega (arith, h)) is_there)
    ∙ sym (put_next o n (value_over k x) (values_over (take n os) l))

text_same : (pool : List ℕ) (v : Value) (t : List ℕ) → value_over (as_text (item_in pool v)) t ≡ text_over pool v t
text_same pool (value.Number n) t = refl
text_same pool (value.Given u) t = refl
text_same pool (value.Made start count) t = refl
text_same pool (value.Name n) t = refl
text_same pool (value.Block ops) t = refl
text_same pool (value.Missing n) t = refl

-- the next value, put over the variables if it is a text
pub texts_next : (pool : List ℕ) (vs : List Value) (ts : List (List ℕ)) (n : ℕ) (v : Value) → n < length vs → v ≡ get_or vs n v → texts_over pool (take (suc n) vs) ts ≡ put (as_text (item_in pool v)) n (texts_over pool (take n vs) ts)
texts_next pool [] ts n v h is_there = absurd (omega (arith, h))
texts_next pool (u ∷ vs) [] zero v h is_there = sym (put_nothing (as_text (item_in pool v)) 0)
texts_next pool (u ∷ vs) [] (suc n) v h is_there = sym (put_nothing (as_text (item_in pool v)) (suc n))
texts_next pool (u ∷ vs) (t ∷ ts) zero v h is_there =
    sym (put_first (as_text (item_in pool v)) t ts ∙ ap (λ b. b ∷ ts) (text_same pool v t ∙ ap (λ w. text_over pool w t) is_there))
texts_next pool (u ∷ vs) (t ∷ ts) (suc n) v h is_there =
    ap (λ l. text_over pool u t ∷ l) (texts_next pool vs ts n v (omega (arith, h)) is_there)
    ∙ sym (put_next (as_text (item_in pool v)) n (text_over pool u t) (texts_over pool (take n vs) ts))
