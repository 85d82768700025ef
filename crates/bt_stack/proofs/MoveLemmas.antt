-- Texts that move to another pool stay the same.
use Rattle.std.proofs.Common.{◌≡◌, ℕ, suc, ◌+◌, ◌≤◌, List, [], ◌∷◌, ◌++◌, length, take, drop, map, reverse, refl, ap, sym, ◌∙◌, arith, length-append, length-drop, append_assoc}
use Rattle.std.proofs.lemmas.List.{take_at, drop_at, drop-drop, append-nil, length-take-le}
use Rattle.bt_actions.specs.Item.{Txt}
use Rattle.bt_stack.specs.declared.value.Value.{Value}
use Rattle.bt_stack.specs.declared.value.Value.TheVariants as value
use Rattle.bt_stack.specs.declared.step_variables.StepVariables.{StepVariables}
use Rattle.bt_stack.specs.inner.Kept.{part, item_in, text_over, texts_over, values_over, Fits, AllFit, desk, IsSound}
use Rattle.bt_stack.specs.inner.Moved.{made_len, made_part, made_size, made_bytes, placed, moved}
use Rattle.bt_stack.proofs.GrowLemmas.{all_next, all_cons}

part_len : (pool : List ℕ) (start count : ℕ) → start + count ≤ length pool → length (part pool start count) ≡ count
part_len pool start count inside = length-take-le count (drop start pool) (omega (arith, inside, length-drop start pool))

part_size : (pool : List ℕ) (v : Value) → Fits (length pool) v → length (made_part pool v) ≡ made_len v
part_size pool (value.Number n) h = refl
part_size pool (value.Given t) h = refl
part_size pool (value.Made start count) h = part_len pool start count h.0
part_size pool (value.Name n) h = refl
part_size pool (value.Block ops) h = refl
part_size pool (value.Missing n) h = refl

pub made_size_is : (pool : List ℕ) (vs : List Value) → AllFit (length pool) vs → length (made_bytes pool vs) ≡ made_size vs
made_size_is pool [] fit = refl
made_size_is pool (v ∷ vs) fit =
    length-append (made_part pool v) (made_bytes pool vs)
    ∙ (λ k. part_size pool v (fit 0 v (omega arith)) k + made_size_is pool vs (all_next (Fits (length pool)) v vs fit) k)

-- What is left of another pool begins with a text: it is the text of a value that is placed there.
part_there : (pool pool' : List ℕ) (start count at : ℕ) (rest : List ℕ) → start + count ≤ length pool → drop at pool' ≡ part pool start count ++ rest → part pool' at count ≡ part pool start count
part_there pool pool' start count at rest inside there =
    ap (take count) there ∙ take_at (part pool start count) rest count (part_len pool start count inside)

item_there : (pool pool' : List ℕ) (v : Value) (at : ℕ) (rest : List ℕ) → Fits (length pool) v → drop at pool' ≡ made_part pool v ++ rest → item_in pool' (placed at v) ≡ item_in pool v
item_there pool pool' (value.Number n) at rest h there = refl
item_there pool pool' (value.Given t) at rest h there = refl
item_there pool pool' (value.Made start count) at rest h there = ap Txt (part_there pool pool' start count at rest h.0 there)
item_there pool pool' (value.Name n) at rest h there = refl
item_there pool pool' (value.Block ops) at rest h there = refl
item_there pool pool' (value.Missing n) at rest h there = refl

text_there : (pool pool' : List ℕ) (v : Value) (t : List ℕ) (at : ℕ) (rest : List ℕ) → Fits (length pool) v → drop at pool' ≡ made_part pool v ++ rest → text_over pool' (placed at v) t ≡ text_over pool v t
text_there pool pool' (value.Number n) t at rest h there = refl
text_there pool pool' (value.Given u) t at rest h there = refl
text_there pool pool' (value.Made start count) t at rest h there = part_there pool pool' start count at rest h.0 there
text_there pool pool' (value.Name n) t at rest h there = refl
text_there pool pool' (value.Block ops) t at rest h there = refl
text_there pool pool' (value.Missing n) t at rest h there = refl

fits_there : (pool pool' : List ℕ) (v : Value) (at : ℕ) (rest : List ℕ) → Fits (length pool) v → at ≤ length pool' → drop at pool' ≡ made_part pool v ++ rest → Fits (length pool') (placed at v)
fits_there pool pool' (value.Number n) at rest h before there = tt
fits_there pool pool' (value.Given t) at rest h before there = h
fits_there pool pool' (value.Made start count) at rest h before there =
    (omega (arith, before, length-drop at pool', ap length there, length-append (part pool start count) rest, part_len pool start count h.0), h.1)
fits_there pool pool' (value.Name n) at rest h before there = tt
fits_there pool pool' (value.Block ops) at rest h before there = tt
fits_there pool pool' (value.Missing n) at rest h before there = tt

-- the texts of many values stand in another pool, from a place on
record Stands (pool pool' : List ℕ) (at : ℕ) (vs : List Value) (rest : List ℕ) : Type 0 where
  fit : AllFit (length pool) vs
  before : at ≤ length pool'
  there : drop at pool' ≡ made_bytes pool vs ++ rest

first_there : (pool pool' : List ℕ) (at : ℕ) (v : Value) (vs : List Value) (rest : List ℕ) → Stands pool pool' at (v ∷ vs) rest → drop at pool' ≡ made_part pool v ++ (made_bytes pool vs ++ rest)
first_there pool pool' at v vs rest s = s.there ∙ append_assoc (made_part pool v) (made_bytes pool vs) rest

next_stands : (pool pool' : List ℕ) (at : ℕ) (v : Value) (vs : List Value) (rest : List ℕ) → Stands pool pool' at (v ∷ vs) rest → Stands pool pool' (at + made_len v) vs rest
next_stands pool pool' at v vs rest s =
    let long : length (made_part pool v) ≡ made_len v = part_size pool v (s.fit 0 v (omega arith)) in
    let first = first_there pool pool' at v vs rest s in
    record {
      fit = all_next (Fits (length pool)) v vs s.fit;
      before = omega (arith, s.before, long, length-drop at pool', ap length first, length-append (made_part pool v) (made_bytes pool vs ++ rest));
      there = sym (drop-drop (made_len v) at pool') ∙ ap (drop (made_len v)) first ∙ drop_at (made_part pool v) (made_bytes pool vs ++ rest) (made_len v) long;
    }

items_there : (pool pool' : List ℕ) (at : ℕ) (vs : List Value) (rest : List ℕ) → Stands pool pool' at vs rest → map (item_in pool') (moved at vs) ≡ map (item_in pool) vs
items_there pool pool' at [] rest s = refl
items_there pool pool' at (v ∷ vs) rest s =
    let first = item_there pool pool' v at _ (s.fit 0 v (omega arith)) (first_there pool pool' at v vs rest s) in
    let others = items_there pool pool' (at + made_len v) vs rest (next_stands pool pool' at v vs rest s) in
    λ k. first k ∷ others k

texts_there : (pool pool' : List ℕ) (at : ℕ) (vs : List Value) (ts : List (List ℕ)) (rest : List ℕ) → Stands pool pool' at vs rest → texts_over pool' (moved at vs) ts ≡ texts_over pool vs ts
texts_there pool pool' at [] ts rest s = refl
texts_there pool pool' at (v ∷ vs) [] rest s = refl
texts_there pool pool' at (v ∷ vs) (t ∷ ts) rest s =
    let first = text_there pool pool' v t at _ (s.fit 0 v (omega arith)) (first_there pool pool' at v vs rest s) in
    let others = texts_there pool pool' (at + made_len v) vs ts rest (next_stands pool pool' at v vs rest s) in
    λ k. first k ∷ others k

fit_there : (pool pool' : List ℕ) (at : ℕ) (vs : List Value) (rest : List ℕ) → Stands pool pool' at vs rest → AllFit (length pool') (moved at vs)
fit_there pool pool' at [] rest s = λ k d h. absurd (omega (arith, h))
fit_there pool pool' at (v ∷ vs) rest s =
    all_cons (Fits (length pool')) (placed at v) (moved (at + made_len v) vs)
    (fits_there pool pool' v at _ (s.fit 0 v (omega arith)) s.before (first_there pool pool' at v vs rest s))
    (fit_there pool pool' (at + made_len v) vs rest (next_stands pool pool' at v vs rest s))

length-moved : (at : ℕ) (vs : List Value) → length (moved at vs) ≡ length vs
length-moved at [] = refl
length-moved at (v ∷ vs) = ap suc (length-moved (at + made_len v) vs)

-- a stack whose texts all lie in another pool
pub record Compacted (pool pool' : List ℕ) (vs vs' : List Value) (g g' o o' : StepVariables) : Type 0 where
  pub sound : IsSound (length pool') vs' g' o'
  pub same : desk pool' vs' g' o' ≡ desk pool vs g o

pub compacted : (pool pool₁ pool₂ pool' : List ℕ) (vs vs' : List Value) (g g' o o' : StepVariables) (a b : ℕ) → IsSound (length pool) vs g o → pool₁ ≡ [] ++ made_bytes pool vs → pool₂ ≡ pool₁ ++ made_bytes pool g.texts.items → pool' ≡ pool₂ ++ made_bytes pool o.texts.items → a ≡ length pool₁ → b ≡ length pool₂ → vs' ≡ moved 0 vs → g'.texts.items ≡ moved a g.texts.items → o'.texts.items ≡ moved b o.texts.items → g'.given ≡ g.given → o'.given ≡ o.given → g'.numbers.items ≡ g.numbers.items → o'.numbers.items ≡ o.numbers.items → Compacted pool pool' vs vs' g g' o o'
compacted pool pool₁ pool₂ pool' vs vs' g g' o o' a b sound is_first is_second is_pool is_a is_b are_values are_globals are_own g_given o_given g_numbers o_numbers =
    let own_bytes : List ℕ = made_bytes pool o.texts.items in
    let rest : List ℕ = made_bytes pool g.texts.items ++ own_bytes in
    let whole : pool' ≡ made_bytes pool vs ++ rest =
    is_pool ∙ ap (λ p. p ++ own_bytes) (is_second ∙ ap (λ p. p ++ made_bytes pool g.texts.items) is_first)
    ∙ append_assoc (made_bytes pool vs) (made_bytes pool g.texts.items) own_bytes in
    let values_stand : Stands pool pool' 0 vs rest = record { fit = sound.fit; before = omega arith; there = whole } in
    let globals_stand : Stands pool pool' a g.texts.items own_bytes = record {
      fit = sound.globals_fit;
      before = omega (arith, is_a, ap length is_pool, ap length is_second, length-append pool₂ own_bytes, length-append pool₁ (made_bytes pool g.texts.items));
      there = ap (drop a) whole ∙ drop_at (made_bytes pool vs) rest a (sym (is_a ∙ ap length is_first));
    } in
    let own_stand : Stands pool pool' b o.texts.items [] = record {
      fit = sound.own_fit;
      before = omega (arith, is_b, ap length is_pool, length-append pool₂ own_bytes);
      there = ap (drop b) is_pool ∙ drop_at pool₂ own_bytes b (sym is_b) ∙ sym (append-nil own_bytes);
    } in
    let P : List Value → Type 0 = λ l. AllFit (length pool') l in
    let globals = (λ k. texts_over pool' (are_globals k) (g_given k).now.texts) ∙ texts_there pool pool' a g.texts.items g.given.now.texts own_bytes globals_stand in
    let own = (λ k. texts_over pool' (are_own k) (o_given k).now.texts) ∙ texts_there pool pool' b o.texts.items o.given.now.texts [] own_stand in
    let values = ap (map (item_in pool')) are_values ∙ items_there pool pool' 0 vs rest values_stand in
    record {
      sound = record {
        fit = rw are_values (fit_there pool pool' 0 vs rest values_stand);
        globals_fit = rw are_globals (fit_there pool pool' a g.texts.items own_bytes globals_stand);
        own_fit = rw are_own (fit_there pool pool' b o.texts.items [] own_stand);
        few = omega (arith, sound.few, length-moved 0 vs, ap length are_values);
      };
      same = λ k. record {
        items = reverse (values k);
        globals = record { numbers = values_over (g_numbers k) (g_given k).now.numbers; texts = globals k };
        own = record { numbers = values_over (o_numbers k) (o_given k).now.numbers; texts = own k };
      };
    }
