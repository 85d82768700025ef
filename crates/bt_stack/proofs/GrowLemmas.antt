-- A pool that grows keeps each text that lies in it, and so all that is seen of a stack.
use Rattle.std.proofs.Common.{◌≡◌, ℕ, zero, suc, ◌+◌, ◌≤◌, List, [], ◌∷◌, ◌++◌, length, get_or, take, drop, map, reverse, refl, ap, sym, ◌∙◌, arith, append_assoc, length-append, length-drop}
use Rattle.std.specs.List.{All}
use Rattle.std.proofs.lemmas.List.{take-append-le, drop-append-le, drop_at}
use Rattle.bt_actions.specs.Item.{Item}
use Rattle.bt_stack.specs.declared.value.Value.{Value}
use Rattle.bt_stack.specs.declared.value.Value.TheVariants as value
use Rattle.bt_stack.specs.declared.step_variables.StepVariables.{StepVariables}
use Rattle.bt_stack.specs.Desk.{Desk, with_items}
use Rattle.bt_stack.specs.inner.Kept.{part, item_in, bytes_in, text_over, items, texts_over, variables_in, desk, Fits, AllFit, IsSound, Grows}

pub all_next : {X : Type 0} (P : X → Type 0) (x : X) (xs : List X) → All P (x ∷ xs) → All P xs
all_next P x xs all k d h = all (suc k) d (omega (arith, h))

pub all_cons : {X : Type 0} (P : X → Type 0) (x : X) (xs : List X) → P x → All P xs → All P (x ∷ xs)
all_cons P x xs first rest zero d h = first
all_cons P x xs first rest (suc k) d h = rest k d (omega (arith, h))

-- equal at each element that fits
pub map_same : {X Y : Type 0} (P : X → Type 0) (f g : X → Y) (xs : List X) → ((x : X) → P x → f x ≡ g x) → All P xs → map f xs ≡ map g xs
map_same P f g [] same all = refl
map_same P f g (x ∷ xs) same all =
    let rest : map f xs ≡ map g xs = map_same P f g xs same (all_next P x xs all) in
    λ i. same x (all 0 x (omega arith)) i ∷ rest i

pub part_grows : (pool more : List ℕ) (start count : ℕ) → start + count ≤ length pool → part (pool ++ more) start count ≡ part pool start count
part_grows pool more start count inside =
    ap (take count) (drop-append-le start pool more (omega (arith, inside)))
    ∙ take-append-le count (drop start pool) more (omega (arith, inside, length-drop start pool))

item_grows : (pool more : List ℕ) (v : Value) → Fits (length pool) v → item_in (pool ++ more) v ≡ item_in pool v
item_grows pool more (value.Number n) h = refl
item_grows pool more (value.Given t) h = refl
item_grows pool more (value.Made start count) h = ap Item.Txt (part_grows pool more start count h.0)
item_grows pool more (value.Name t) h = refl
item_grows pool more (value.Block ops) h = refl
item_grows pool more (value.Missing n) h = refl

text_grows : (pool more : List ℕ) (v : Value) (t : List ℕ) → Fits (length pool) v → text_over (pool ++ more) v t ≡ text_over pool v t
text_grows pool more (value.Number n) t h = refl
text_grows pool more (value.Given u) t h = refl
text_grows pool more (value.Made start count) t h = part_grows pool more start count h.0
text_grows pool more (value.Name n) t h = refl
text_grows pool more (value.Block ops) t h = refl
text_grows pool more (value.Missing n) t h = refl

pub items_grow : (pool more : List ℕ) (vs : List Value) → AllFit (length pool) vs → items (pool ++ more) vs ≡ items pool vs
items_grow pool more vs h = ap reverse (map_same (Fits (length pool)) (item_in (pool ++ more)) (item_in pool) vs (item_grows pool more) h)

texts_grow : (pool more : List ℕ) (vs : List Value) (ts : List (List ℕ)) → AllFit (length pool) vs → texts_over (pool ++ more) vs ts ≡ texts_over pool vs ts
texts_grow pool more [] ts all = refl
texts_grow pool more (v ∷ vs) [] all = refl
texts_grow pool more (v ∷ vs) (t ∷ ts) all =
    let rest : texts_over (pool ++ more) vs ts ≡ texts_over pool vs ts = texts_grow pool more vs ts (all_next (Fits (length pool)) v vs all) in
    λ i. text_grows pool more v t (all 0 v (omega arith)) i ∷ rest i

variables_grow : (pool more : List ℕ) (s : StepVariables) → AllFit (length pool) s.texts.items → variables_in (pool ++ more) s ≡ variables_in pool s
variables_grow pool more s all i = record { numbers = (variables_in pool s).numbers; texts = texts_grow pool more s.texts.items s.given.now.texts all i }

-- the parts of what is seen
pub items_are : (pool : List ℕ) (vs : List Value) (g o : StepVariables) (old : Desk) → desk pool vs g o ≡ old → items pool vs ≡ old.items
items_are pool vs g o old is_old = ap (λ d. d.items) is_old

-- other items beside the same variables
pub desk_with : {a b : List Item} (pool : List ℕ) (vs : List Value) (g o : StepVariables) (old : Desk) → desk pool vs g o ≡ old → a ≡ b → let l : Desk = record { items = a; globals = variables_in pool g; own = variables_in pool o } in l ≡ with_items b old
desk_with pool vs g o old is_old are_new k = record { items = are_new k; globals = (is_old k).globals; own = (is_old k).own }

-- the same where bytes were put after those of the pool
pub desk_grown : {a b : List Item} (pool pool' : List ℕ) (vs : List Value) (g o : StepVariables) (old : Desk) → Grows pool pool' → IsSound (length pool) vs g o → desk pool vs g o ≡ old → a ≡ b → let l : Desk = record { items = a; globals = variables_in pool' g; own = variables_in pool' o } in l ≡ with_items b old
desk_grown pool pool' vs g o old grows sound is_old are_new =
    let globals = ap (λ p. variables_in p g) grows ∙ variables_grow pool (drop (length pool) pool') g sound.globals_fit ∙ ap (λ d. d.globals) is_old in
    let own = ap (λ p. variables_in p o) grows ∙ variables_grow pool (drop (length pool) pool') o sound.own_fit ∙ ap (λ d. d.own) is_old in
    λ k. record { items = are_new k; globals = globals k; own = own k }

pub items_kept : (pool pool' : List ℕ) (vs : List Value) (old : List Item) → Grows pool pool' → AllFit (length pool) vs → items pool vs ≡ old → items pool' vs ≡ old
items_kept pool pool' vs old grows fit are_old = ap (λ p. items p vs) grows ∙ items_grow pool (drop (length pool) pool') vs fit ∙ are_old

-- the same values where bytes were put after those of the pool
pub desk_kept : (pool pool' : List ℕ) (vs : List Value) (g o : StepVariables) (old : Desk) → Grows pool pool' → IsSound (length pool) vs g o → desk pool vs g o ≡ old → desk pool' vs g o ≡ old
desk_kept pool pool' vs g o old grows sound is_old =
    desk_grown pool pool' vs g o old grows sound is_old (items_kept pool pool' vs old.items grows sound.fit (items_are pool vs g o old is_old))

pub appended : (pool pool' more : List ℕ) → pool' ≡ pool ++ more → Grows pool pool'
appended pool pool' more is_pool = rw is_pool (ap (λ l. pool ++ l) (sym (drop_at pool more (length pool) refl)))

grown : (pool pool' : List ℕ) → Grows pool pool' → length pool ≤ length pool'
grown pool pool' grows = omega (arith, ap length grows, length-append pool (drop (length pool) pool'))

fits_more : (m n : ℕ) (v : Value) → m ≤ n → Fits m v → Fits n v
fits_more m n (value.Number x) more h = tt
fits_more m n (value.Given t) more h = h
fits_more m n (value.Made start count) more h = (omega (arith, h.0, more), h.1)
fits_more m n (value.Name x) more h = tt
fits_more m n (value.Block x) more h = tt
fits_more m n (value.Missing x) more h = tt

pub fits_grown : (pool pool' : List ℕ) (v : Value) → Grows pool pool' → Fits (length pool) v → Fits (length pool') v
fits_grown pool pool' v grows fits = fits_more _ _ v (grown pool pool' grows) fits

-- bytes after those of a pool that has grown
pub grown_more : (pool middle pool' more : List ℕ) → Grows pool middle → pool' ≡ middle ++ more → Grows pool pool'
grown_more pool middle pool' more grows is_pool =
    appended pool pool' (drop (length pool) middle ++ more) (is_pool ∙ ap (λ l. l ++ more) grows ∙ append_assoc pool (drop (length pool) middle) more)

pub bytes_grown : (pool pool' : List ℕ) (v : Value) → Grows pool pool' → Fits (length pool) v → bytes_in pool' v ≡ bytes_in pool v
bytes_grown pool pool' v grows fits = ap (λ p. bytes_in p v) grows ∙ text_grows pool (drop (length pool) pool') v [] fits

pub all_fit_more : (pool pool' : List ℕ) (vs : List Value) → Grows pool pool' → AllFit (length pool) vs → AllFit (length pool') vs
all_fit_more pool pool' vs grows fit k d h = fits_more _ _ (get_or vs k d) (grown pool pool' grows) (fit k d h)
