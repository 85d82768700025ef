-- What is done to the topmost values, as it is done to the first items.
use Rattle.std.proofs.Common.{◌≡◌, ℕ, ◌+◌, ◌-◌, ◌<◌, ◌≤◌, List, [], ◌∷◌, ◌++◌, length, get_or, take, drop, map, reverse, refl, ap, sym, subst, ◌∙◌, arith, rules, min, length-append, length-drop}
use Rattle.std.proofs.lemmas.List.{map-append, reverse-append, drop_at, take-append-drop, take_more, take_more_set, take-set, take-set-le, get_or-set_same, get_or-set_other, length-set, get_or_default, same_lists, places, take_all, length-take, length-map, length-reverse}
use Rattle.std.specs.Prelude.{Option, Some, None, Result, Ok, Err, OnErr, option_and_then, slice_get, set}
use Rattle.bt_actions.specs.Item.{Item}
use Rattle.bt_actions.specs.State.{text_len}
use Rattle.bt_stack.specs.declared.value.Value.{Value}
use Rattle.bt_stack.specs.declared.value.Value.TheVariants as value
use Rattle.bt_stack.specs.declared.step_variables.StepVariables.{StepVariables}
use Rattle.bt_stack.specs.Tops.{with_top, exchanged, cut, top_len}
use Rattle.bt_stack.specs.inner.Kept.{part, item_in, items, Fits, AllFit, IsSound}
use Rattle.bt_stack.proofs.GrowLemmas.{all_next, all_cons, items_grow}

pub items_push : (pool : List ℕ) (vs : List Value) (v : Value) → items pool (vs ++ v ∷ []) ≡ item_in pool v ∷ items pool vs
items_push pool vs v = ap reverse (map-append (item_in pool) vs (v ∷ [])) ∙ reverse-append (map (item_in pool) vs) (item_in pool v ∷ [])

-- the values below so many of the topmost ones
pub items_below : (pool : List ℕ) (vs : List Value) (j count : ℕ) → j + count ≡ length vs → items pool (take j vs) ≡ drop count (items pool vs)
items_below pool vs j count long =
    let f : Value → Item = item_in pool in
    let split : items pool vs ≡ reverse (map f (drop j vs)) ++ reverse (map f (take j vs)) =
    ap (λ l. reverse (map f l)) (sym (take-append-drop j vs)) ∙ ap reverse (map-append f (take j vs) (drop j vs)) ∙ reverse-append (map f (take j vs)) (map f (drop j vs)) in
    sym (ap (drop count) split ∙ drop_at (reverse (map f (drop j vs))) (reverse (map f (take j vs))) count
    (length-reverse (map f (drop j vs)) ∙ length-map (drop j vs) f ∙ length-drop j vs ∙ omega (arith, long)))

pub items_len : (pool : List ℕ) (vs : List Value) (old : List Item) → items pool vs ≡ old → length vs ≡ length old
items_len pool vs old are_old = sym (length-reverse (map (item_in pool) vs) ∙ length-map vs (item_in pool)) ∙ ap length are_old

pub items_dropped : (pool : List ℕ) (vs vs' : List Value) (n count : ℕ) (old : List Item) → vs' ≡ take (n - count) vs → n ≡ length vs → count ≤ length old → items pool vs ≡ old → items pool vs' ≡ drop count old
items_dropped pool vs vs' n count old are_values is_length there are_old =
    rw (are_values, ← are_old) (items_below pool vs (n - count) count (omega (arith, is_length, there, items_len pool vs old are_old)))

-- a value takes the place of so many of the topmost ones
pub items_answered : (pool : List ℕ) (vs vs' : List Value) (n count : ℕ) (v : Value) (i : Item) (old : List Item) → vs' ≡ take (n - count + 1) (set vs (n - count) v) → n ≡ length vs → 0 < count → count ≤ length old → item_in pool v ≡ i → items pool vs ≡ old → items pool vs' ≡ i ∷ drop count old
items_answered pool vs vs' n count v i old are_values is_length some there is_item are_old =
    let long = items_len pool vs old are_old in
    ap (items pool) (are_values ∙ take_more_set vs (n - count) v (omega (arith, is_length, some, there, long)))
    ∙ items_push pool (take (n - count) vs) v
    ∙ (λ k. is_item k ∷ (items_below pool vs (n - count) count (omega (arith, is_length, there, long)) ∙ ap (drop count) are_old) k)

-- what a value is, as an argument of a kind, where it was read below the top
pub read_at : {A : Type 0} (kind : Item → Option A) (pool : List ℕ) (vs vs' : List Value) (old : List Item) (v : Value) (k : ℕ) (r : Option A) → r ≡ kind (item_in pool v) → Some (item_in pool v) ≡ slice_get (items pool vs') k → vs' ≡ vs → items pool vs ≡ old → r ≡ option_and_then kind (slice_get old k)
read_at kind pool vs vs' old v k r is_result is_there are_values are_old =
    is_result ∙ ap (option_and_then kind) (is_there ∙ ap (λ s. slice_get s k) (ap (items pool) are_values ∙ are_old))

pub read_none : {A : Type 0} (kind : Item → Option A) (pool : List ℕ) (vs vs' : List Value) (old : List Item) (k : ℕ) → None ≡ slice_get (items pool vs') k → vs' ≡ vs → items pool vs ≡ old → None ≡ option_and_then kind (slice_get old k)
read_none kind pool vs vs' old k is_none are_values are_old = ap (option_and_then kind) (is_none ∙ ap (λ s. slice_get s k) (ap (items pool) are_values ∙ are_old))

-- a clause about a failed call
pub at_err : {T E P : Type 0} (r : Result T E) → P → OnErr r P
at_err (Ok x) p = tt
at_err (Err e) p = p

-- a value that was read fits the pool
pub fit_read : (vs vs' : List Value) (pool pool' : List ℕ) (v : Value) → (AllFit (length pool) vs' → Fits (length pool) v) → vs' ≡ vs → pool' ≡ pool → AllFit (length pool) vs → Fits (length pool') v
fit_read vs vs' pool pool' v fits are_values is_pool all =
    let P : List Value → Type 0 = λ l. AllFit (length pool) l in
    let Q : List ℕ → Type 0 = λ l. Fits (length l) v in
    subst Q (sym is_pool) (fits (subst P (sym are_values) all))

-- the topmost value by itself
pub top_is : (pool : List ℕ) (vs : List Value) (j : ℕ) (d : Value) → length vs ≡ j + 1 → items pool vs ≡ item_in pool (get_or vs j d) ∷ items pool (take j vs)
top_is pool vs j d long =
    ap (items pool) (sym (take_all (j + 1) vs (omega (arith, long))) ∙ take_more vs j d (omega (arith, long)))
    ∙ items_push pool (take j vs) (get_or vs j d)

pub top_changed : (f : Item → Item) (pool : List ℕ) (vs : List Value) (n : ℕ) (v w : Value) (old : List Item) → n ≡ length vs → 0 < n → v ≡ get_or vs (n - 1) v → item_in pool w ≡ f (item_in pool v) → items pool vs ≡ old → items pool (set vs (n - 1) w) ≡ with_top f old
top_changed f pool vs n v w old is_length some is_top is_item are_old =
    let long : length (set vs (n - 1) w) ≡ (n - 1) + 1 = length-set vs (n - 1) w ∙ omega (arith, is_length, some) in
    let at : get_or (set vs (n - 1) w) (n - 1) w ≡ w = get_or-set_same vs (n - 1) w w (omega (arith, is_length, some)) in
    let new : items pool (set vs (n - 1) w) ≡ f (item_in pool v) ∷ items pool (take (n - 1) vs) =
    top_is pool (set vs (n - 1) w) (n - 1) w long ∙ (λ k. (ap (item_in pool) at ∙ is_item) k ∷ items pool (take-set vs (n - 1) w k)) in
    let before : items pool vs ≡ item_in pool v ∷ items pool (take (n - 1) vs) =
    top_is pool vs (n - 1) v (omega (arith, is_length, some)) ∙ ap (λ x. item_in pool x ∷ items pool (take (n - 1) vs)) (sym is_top) in
    new ∙ sym (ap (with_top f) (sym are_old ∙ before))

-- the two topmost values by themselves
pub two_tops : (pool : List ℕ) (vs : List Value) (n : ℕ) (d : Value) → n ≡ length vs → 2 ≤ n → items pool vs ≡ item_in pool (get_or vs (n - 1) d) ∷ item_in pool (get_or vs (n - 2) d) ∷ items pool (take (n - 2) vs)
two_tops pool vs n d is_length two =
    top_is pool vs (n - 1) d (omega (arith, is_length, two))
    ∙ ap (λ l. item_in pool (get_or vs (n - 1) d) ∷ l)
    (ap (λ m. items pool (take m vs)) (omega (arith, two)) ∙ ap (items pool) (take_more vs (n - 2) d (omega (arith, is_length, two))) ∙ items_push pool (take (n - 2) vs) (get_or vs (n - 2) d))

pub tops_exchanged : (pool : List ℕ) (vs vs' : List Value) (n : ℕ) (v u : Value) (old : List Item) → n ≡ length vs → 2 ≤ n → v ≡ get_or vs (n - 1) v → u ≡ get_or vs (n - 2) u → vs' ≡ set (set vs (n - 1) u) (n - 2) v → items pool vs ≡ old → items pool vs' ≡ exchanged old
tops_exchanged pool vs vs' n v u old is_length two is_upper is_lower are_values are_old =
    let inner : List Value = set vs (n - 1) u in
    let after : List Value = set inner (n - 2) v in
    let long : length inner ≡ length vs = length-set vs (n - 1) u in
    let upper : get_or after (n - 1) v ≡ u =
    get_or-set_other inner (n - 2) (n - 1) v v (omega (arith, two)) ∙ get_or-set_same vs (n - 1) u v (omega (arith, is_length, two)) in
    let lower : get_or after (n - 2) v ≡ v = get_or-set_same inner (n - 2) v v (omega (arith, long, is_length, two)) in
    let rest : take (n - 2) after ≡ take (n - 2) vs = take-set inner (n - 2) v ∙ take-set-le (n - 2) vs (n - 1) u (omega (arith, two)) in
    let new : items pool after ≡ item_in pool u ∷ item_in pool v ∷ items pool (take (n - 2) vs) =
    two_tops pool after n v (is_length ∙ sym (length-set inner (n - 2) v ∙ long)) two
    ∙ (λ k. item_in pool (upper k) ∷ item_in pool (lower k) ∷ items pool (rest k)) in
    let before : items pool vs ≡ item_in pool v ∷ item_in pool u ∷ items pool (take (n - 2) vs) =
    two_tops pool vs n v is_length two
    ∙ (λ k. item_in pool (sym is_upper k) ∷ item_in pool ((get_or_default vs (n - 2) v u (omega (arith, is_length, two)) ∙ sym is_lower) k) ∷ items pool (take (n - 2) vs)) in
    ap (items pool) are_values ∙ new ∙ sym (ap exchanged (sym are_old ∙ before))

-- a part of a part
part_cut : (pool : List ℕ) (start count from len a b : ℕ) → start + count ≤ length pool → a ≡ min from count → b ≡ min len (count - a) → part pool (start + a) b ≡ take len (drop from (part pool start count))
part_cut pool start count from len a b inside is_a is_b = same_lists _ _ (search (rules, places)) (λ k d h. grind (arith, places))

pub made_cut : (pool : List ℕ) (v : Value) (start count from len a b : ℕ) → v ≡ value.Made start count → Fits (length pool) v → a ≡ min from count → b ≡ min len (count - a) → item_in pool (value.Made (start + a) b) ≡ cut from len (item_in pool v)
made_cut pool v start count from len a b is_span fits is_a is_b =
    let P : Value → Type 0 = λ x. Fits (length pool) x in
    let inside : Fits (length pool) (value.Made start count) = subst P is_span fits in
    ap Item.Txt (part_cut pool start count from len a b inside.0 is_a is_b) ∙ ap (λ x. cut from len (item_in pool x)) (sym is_span)

-- bytes that end the pool are the text that names them
pub made_last : (pool text : List ℕ) → part (pool ++ text) (length pool) (length text) ≡ text
made_last pool text = ap (take (length text)) (drop_at pool text (length pool) refl) ∙ take_all (length text) text (omega arith)

-- a text that was made takes the place of so many of the topmost values
pub text_answered : (pool pool' text : List ℕ) (vs vs' : List Value) (n count start len : ℕ) (old : List Item) → pool' ≡ pool ++ text → vs' ≡ take (n - count + 1) (set vs (n - count) (value.Made start len)) → start ≡ length pool → len ≡ length text → n ≡ length vs → 0 < count → count ≤ length old → AllFit (length pool) vs → items pool vs ≡ old → items pool' vs' ≡ Item.Txt text ∷ drop count old
text_answered pool pool' text vs vs' n count start len old is_pool are_values is_start is_len is_length some there fit are_old =
    items_answered pool' vs vs' n count (value.Made start len) (Item.Txt text) old are_values is_length some there
    (rw (is_pool, is_start, is_len) (ap Item.Txt (made_last pool text)))
    (ap (λ p. items p vs) is_pool ∙ items_grow pool text vs fit ∙ are_old)

-- a value more
pub fit_pushed : (size : ℕ) (vs vs' : List Value) (v : Value) → AllFit size vs → Fits size v → vs' ≡ vs ++ v ∷ [] → AllFit size vs'
fit_pushed size vs vs' v fit fits are_values =
    let P : List Value → Type 0 = λ l. AllFit size l in
    subst P (sym are_values) (all_more vs fit)
  where
    all_more : (us : List Value) → AllFit size us → AllFit size (us ++ v ∷ [])
    all_more [] all = all_cons (Fits size) v [] fits all
    all_more (u ∷ us) all = all_cons (Fits size) u (us ++ v ∷ []) (all 0 u (omega arith)) (all_more us (all_next (Fits size) u us all))

pub few_pushed : (pool : List ℕ) (vs vs' : List Value) (v : Value) (old : List Item) → items pool vs ≡ old → length old < 1000 → vs' ≡ vs ++ v ∷ [] → length vs' ≤ 1000
few_pushed pool vs vs' v old are_old room are_values =
    omega (arith, room, items_len pool vs old are_old, ap length are_values, length-append vs (v ∷ []))

pub pushed_sound : (pool : List ℕ) (vs vs' : List Value) (v : Value) (g o : StepVariables) (old : List Item) → IsSound (length pool) vs g o → Fits (length pool) v → items pool vs ≡ old → length old < 1000 → vs' ≡ vs ++ v ∷ [] → IsSound (length pool) vs' g o
pushed_sound pool vs vs' v g o old sound fits are_old room are_values =
    record {
      fit = fit_pushed (length pool) vs vs' v sound.fit fits are_values;
      globals_fit = sound.globals_fit;
      own_fit = sound.own_fit;
      few = few_pushed pool vs vs' v old are_old room are_values;
    }

-- variables with other texts

pub globals_sound : (size : ℕ) (vs : List Value) (g g' o : StepVariables) → AllFit size g'.texts.items → IsSound size vs g o → IsSound size vs g' o
globals_sound size vs g g' o fit sound = record { fit = sound.fit; globals_fit = fit; own_fit = sound.own_fit; few = sound.few }

pub own_sound : (size : ℕ) (vs : List Value) (g o o' : StepVariables) → AllFit size o'.texts.items → IsSound size vs g o → IsSound size vs g o'
own_sound size vs g o o' fit sound = record { fit = sound.fit; globals_fit = sound.globals_fit; own_fit = fit; few = sound.few }

item_short : (pool : List ℕ) (v : Value) → Fits (length pool) v → text_len (item_in pool v) ≤ 65536
item_short pool (value.Number n) h = omega arith
item_short pool (value.Given t) h = h
item_short pool (value.Made start count) h = omega (arith, h.1, length-take count (drop start pool))
item_short pool (value.Name n) h = omega arith
item_short pool (value.Block ops) h = omega arith
item_short pool (value.Missing n) h = omega arith

top_short : (pool : List ℕ) (vs : List Value) → AllFit (length pool) vs → top_len (items pool vs) ≤ 65536
top_short pool [] fit = omega arith
top_short pool (v ∷ vs) fit =
    let P : List Item → Type 0 = λ l. top_len l ≤ 65536 in
    subst P (sym (top_is pool (v ∷ vs) (length vs) v (omega arith)))
    (item_short pool (get_or (v ∷ vs) (length vs) v) (fit (length vs) v (omega arith)))

-- no text on top is too long
pub top_seen_short : (pool : List ℕ) (vs : List Value) (old : List Item) → AllFit (length pool) vs → items pool vs ≡ old → top_len old ≤ 65536
top_seen_short pool vs old fit are_old =
    let P : List Item → Type 0 = λ l. top_len l ≤ 65536 in
    subst P are_old (top_short pool vs fit)
