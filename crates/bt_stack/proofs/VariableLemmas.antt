-- The values that a step gave to variables, over those that it was given.
use Rattle.std.proofs.Common.{◌≡◌, ℕ, zero, suc, ℤ, ◌<◌, ◌≤◌, List, [], ◌∷◌, ◌++◌, length, get_or, drop, refl, ap, sym, ◌∙◌, arith, true}
use Rattle.std.proofs.lemmas.List.{length-take}
use Rattle.std.specs.Prelude.{Option, Some, None, set, slice_get, option_and_then}
use Rattle.std.proofs.lemmas.Option.{none-some, same_Some, get_or_from_slice_get}
use Rattle.std.proofs.lemmas.Bool.{false≢true}
use Rattle.bt_actions.specs.declared.entry.Variables.{Variables}
use Rattle.bt_actions.specs.Item.{Item, Num, Txt, Fun, Missing}
use Rattle.bt_actions.specs.Arguments.{as_text}
use Rattle.bt_actions.specs.Assignment.{with_text}
use Rattle.bt_stack.specs.declared.value.Value.{Value}
use Rattle.bt_stack.specs.declared.value.Value.TheVariants as value
use Rattle.bt_stack.specs.Desk.{short}
use Rattle.bt_stack.specs.inner.Kept.{part, item_in, text_over, bytes_in, is_text, text_value, texts_over, own_of, value_over, values_over, Fits}

-- a variable that there isn't
pub numbers_none : (ns : List (Option ℤ)) (zs : List ℤ) (n : ℕ) (d : ℤ) → None ≡ slice_get zs n → d ≡ get_or (values_over ns zs) n d
numbers_none [] [] n d e = refl
numbers_none [] (z ∷ zs) zero d e = absurd (none-some z e)
numbers_none [] (z ∷ zs) (suc n) d e = numbers_none [] zs n d e
numbers_none (m ∷ ns) [] n d e = refl
numbers_none (m ∷ ns) (z ∷ zs) zero d e = absurd (none-some z e)
numbers_none (m ∷ ns) (z ∷ zs) (suc n) d e = numbers_none ns zs n d e

pub numbers_at : (ns : List (Option ℤ)) (zs : List ℤ) (n : ℕ) (z d : ℤ) → Some z ≡ slice_get zs n → value_over (own_of (slice_get ns n)) z ≡ get_or (values_over ns zs) n d
numbers_at [] zs n z d e = sym (get_or_from_slice_get zs n z d (sym e))
numbers_at (k ∷ ns) [] n z d e = absurd (none-some z (sym e))
numbers_at (k ∷ ns) (y ∷ zs) zero z d e = ap (value_over k) (same_Some z y e)
numbers_at (k ∷ ns) (y ∷ zs) (suc n) z d e = numbers_at ns zs n z d e

-- the number of a variable, as it is read
pub number_is : (ns : List (Option ℤ)) (zs : List ℤ) (n : ℕ) (o : Option ℤ) (z y r q d : ℤ) → q ≡ r → r ≡ value_over o y → y ≡ z → o ≡ own_of (slice_get ns n) → Some z ≡ slice_get zs n → q ≡ get_or (values_over ns zs) n d
number_is ns zs n o z y r q d is_returned is_result same is_own is_given =
    is_returned ∙ is_result ∙ (λ i. value_over (is_own i) (same i)) ∙ numbers_at ns zs n z d is_given

-- one place more, which holds no value
pub numbers_padded : (ns : List (Option ℤ)) (zs : List ℤ) → values_over (ns ++ None ∷ []) zs ≡ values_over ns zs
numbers_padded [] [] = refl
numbers_padded [] (z ∷ zs) = refl
numbers_padded (m ∷ ns) [] = refl
numbers_padded (m ∷ ns) (z ∷ zs) = ap (λ l. value_over m z ∷ l) (numbers_padded ns zs)

pub numbers_set : (ns : List (Option ℤ)) (zs : List ℤ) (n : ℕ) (z : ℤ) → n < length ns → values_over (set ns n (Some z)) zs ≡ set (values_over ns zs) n z
numbers_set [] zs n z h = absurd (omega (arith, h))
numbers_set (m ∷ ns) [] zero z h = refl
numbers_set (m ∷ ns) [] (suc n) z h = refl
numbers_set (m ∷ ns) (y ∷ zs) zero z h = refl
numbers_set (m ∷ ns) (y ∷ zs) (suc n) z h = ap (λ l. value_over m y ∷ l) (numbers_set ns zs n z (omega (arith, h)))

-- no variable is set after the last one
pub numbers_past : (ns : List (Option ℤ)) (zs : List ℤ) (n : ℕ) (z : ℤ) → length zs ≤ n → values_over ns zs ≡ set (values_over ns zs) n z
numbers_past [] [] n z h = refl
numbers_past [] (y ∷ zs) zero z h = absurd (omega (arith, h))
numbers_past [] (y ∷ zs) (suc n) z h = ap (λ l. y ∷ l) (numbers_past [] zs n z (omega (arith, h)))
numbers_past (m ∷ ns) [] n z h = refl
numbers_past (m ∷ ns) (y ∷ zs) zero z h = absurd (omega (arith, h))
numbers_past (m ∷ ns) (y ∷ zs) (suc n) z h = ap (λ l. value_over m y ∷ l) (numbers_past ns zs n z (omega (arith, h)))

-- the same of texts
pub texts_none : (pool : List ℕ) (vs : List Value) (ts : List (List ℕ)) (n : ℕ) → None ≡ slice_get ts n → [] ≡ get_or (texts_over pool vs ts) n []
texts_none pool [] [] n e = refl
texts_none pool [] (t ∷ ts) zero e = absurd (none-some t e)
texts_none pool [] (t ∷ ts) (suc n) e = texts_none pool [] ts n e
texts_none pool (v ∷ vs) [] n e = refl
texts_none pool (v ∷ vs) (t ∷ ts) zero e = absurd (none-some t e)
texts_none pool (v ∷ vs) (t ∷ ts) (suc n) e = texts_none pool vs ts n e

-- the text that a step gave to a variable, or the one that it was given
abbrev pub text_or : List ℕ → Option Value → List ℕ → List ℕ
text_or pool None t = t
text_or pool (Some v) t = bytes_in pool v

text_or_is : (pool : List ℕ) (v : Value) (t : List ℕ) → text_or pool (text_value v) t ≡ text_over pool v t
text_or_is pool (value.Number n) t = refl
text_or_is pool (value.Given u) t = refl
text_or_is pool (value.Made start count) t = refl
text_or_is pool (value.Name n) t = refl
text_or_is pool (value.Block ops) t = refl
text_or_is pool (value.Missing n) t = refl

pub texts_at : (pool : List ℕ) (vs : List Value) (ts : List (List ℕ)) (n : ℕ) (t : List ℕ) → Some t ≡ slice_get ts n → text_or pool (option_and_then text_value (slice_get vs n)) t ≡ get_or (texts_over pool vs ts) n []
texts_at pool [] ts n t e = sym (get_or_from_slice_get ts n t [] (sym e))
texts_at pool (v ∷ vs) [] n t e = absurd (none-some t (sym e))
texts_at pool (v ∷ vs) (u ∷ ts) zero t e = text_or_is pool v t ∙ ap (text_over pool v) (same_Some t u e)
texts_at pool (v ∷ vs) (u ∷ ts) (suc n) t e = texts_at pool vs ts n t e

-- a text that isn't too long
pub short_is : (t : List ℕ) → length t ≤ 65536 → short t ≡ Some (Txt t)
short_is t h = grind (arith, h)

pub text_short : (pool : List ℕ) (v : Value) → is_text v ≡ true → Fits (length pool) v → Some (item_in pool v) ≡ short (bytes_in pool v)
text_short pool (value.Number n) text h = absurd (false≢true text)
text_short pool (value.Given t) text h = grind (arith, h)
text_short pool (value.Made start count) text h = sym (short_is (part pool start count) (omega (arith, h.1, length-take count (drop start pool))))
text_short pool (value.Name n) text h = absurd (false≢true text)
text_short pool (value.Block ops) text h = absurd (false≢true text)
text_short pool (value.Missing n) text h = absurd (false≢true text)

pub texts_padded : (pool : List ℕ) (vs : List Value) (ts : List (List ℕ)) (k : ℕ) → texts_over pool (vs ++ value.Missing k ∷ []) ts ≡ texts_over pool vs ts
texts_padded pool [] [] k = refl
texts_padded pool [] (t ∷ ts) k = refl
texts_padded pool (v ∷ vs) [] k = refl
texts_padded pool (v ∷ vs) (t ∷ ts) k = ap (λ l. text_over pool v t ∷ l) (texts_padded pool vs ts k)

text_is : (pool : List ℕ) (v : Value) (t : List ℕ) → is_text v ≡ true → text_over pool v t ≡ bytes_in pool v
text_is pool (value.Number n) t text = absurd (false≢true text)
text_is pool (value.Given u) t text = refl
text_is pool (value.Made start count) t text = refl
text_is pool (value.Name n) t text = absurd (false≢true text)
text_is pool (value.Block ops) t text = absurd (false≢true text)
text_is pool (value.Missing n) t text = absurd (false≢true text)

pub texts_set : (pool : List ℕ) (vs : List Value) (ts : List (List ℕ)) (n : ℕ) (v : Value) → is_text v ≡ true → n < length vs → texts_over pool (set vs n v) ts ≡ set (texts_over pool vs ts) n (bytes_in pool v)
texts_set pool [] ts n v text h = absurd (omega (arith, h))
texts_set pool (u ∷ vs) [] zero v text h = refl
texts_set pool (u ∷ vs) [] (suc n) v text h = refl
texts_set pool (u ∷ vs) (t ∷ ts) zero v text h = ap (λ b. b ∷ texts_over pool vs ts) (text_is pool v t text)
texts_set pool (u ∷ vs) (t ∷ ts) (suc n) v text h = ap (λ l. text_over pool u t ∷ l) (texts_set pool vs ts n v text (omega (arith, h)))

pub texts_past : (pool : List ℕ) (vs : List Value) (ts : List (List ℕ)) (n : ℕ) (t : List ℕ) → length ts ≤ n → texts_over pool vs ts ≡ set (texts_over pool vs ts) n t
texts_past pool [] [] n t h = refl
texts_past pool [] (u ∷ ts) zero t h = absurd (omega (arith, h))
texts_past pool [] (u ∷ ts) (suc n) t h = ap (λ l. u ∷ l) (texts_past pool [] ts n t (omega (arith, h)))
texts_past pool (v ∷ vs) [] n t h = refl
texts_past pool (v ∷ vs) (u ∷ ts) zero t h = absurd (omega (arith, h))
texts_past pool (v ∷ vs) (u ∷ ts) (suc n) t h = ap (λ l. text_over pool v u ∷ l) (texts_past pool vs ts n t (omega (arith, h)))

value_text : (u v : Value) → Some v ≡ text_value u → is_text v ≡ true
value_text (value.Number n) v e = absurd (none-some v (sym e))
value_text (value.Given t) v e = ap is_text (same_Some v (value.Given t) e)
value_text (value.Made start count) v e = ap is_text (same_Some v (value.Made start count) e)
value_text (value.Name n) v e = absurd (none-some v (sym e))
value_text (value.Block ops) v e = absurd (none-some v (sym e))
value_text (value.Missing n) v e = absurd (none-some v (sym e))

own_is_text : (o : Option Value) (v : Value) → Some v ≡ option_and_then text_value o → is_text v ≡ true
own_is_text None v e = absurd (none-some v (sym e))
own_is_text (Some u) v e = value_text u v e

pub text_own : (pool : List ℕ) (vs : List Value) (ts : List (List ℕ)) (n : ℕ) (t : List ℕ) (v : Value) → Some t ≡ slice_get ts n → Some v ≡ option_and_then text_value (slice_get vs n) → Fits (length pool) v → Some (item_in pool v) ≡ short (get_or (texts_over pool vs ts) n [])
text_own pool vs ts n t v is_given is_own fits =
    text_short pool v (own_is_text (slice_get vs n) v is_own) fits
    ∙ ap short (ap (λ o. text_or pool o t) is_own ∙ texts_at pool vs ts n t is_given)

pub text_given : (pool : List ℕ) (vs : List Value) (ts : List (List ℕ)) (n : ℕ) (t : List ℕ) → Some t ≡ slice_get ts n → None ≡ option_and_then text_value (slice_get vs n) → t ≡ get_or (texts_over pool vs ts) n []
text_given pool vs ts n t is_given is_none = ap (λ o. text_or pool o t) is_none ∙ texts_at pool vs ts n t is_given

no_text : (o : Option Item) (n : ℕ) (vs : Variables) → None ≡ option_and_then as_text o → None ≡ option_and_then (λ v. with_text n v vs) o
no_text None n vs e = refl
no_text (Some (Num m)) n vs e = refl
no_text (Some (Txt t)) n vs e = absurd (none-some t e)
no_text (Some (Fun c)) n vs e = refl
no_text (Some (Missing m)) n vs e = refl

-- a value that is no text, of a stack that was read
pub text_refused : (seen : List Value → List Item) (us vs : List Value) (old : List Item) (k n : ℕ) (ws : Variables) → None ≡ option_and_then as_text (slice_get (seen us) k) → us ≡ vs → seen vs ≡ old → None ≡ option_and_then (λ v. with_text n v ws) (slice_get old k)
text_refused seen us vs old k n ws none are_values are_old =
    no_text (slice_get old k) n ws (none ∙ ap (λ l. option_and_then as_text (slice_get l k)) (ap seen are_values ∙ are_old))
