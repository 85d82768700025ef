-- Two kept texts become one.
use Rattle.std.proofs.Common.{◌≡◌, ℕ, ◌+◌, ◌-◌, ◌<◌, ◌≤◌, Bool, true, false, List, ◌∷◌, ◌++◌, length, get_or, take, drop, refl, ap, sym, subst, ◌∙◌, arith, length-append, length-drop}
use Rattle.std.proofs.lemmas.List.{drop_at, take_all, take-take, drop-append-le, drop-take, drop-drop, length-take-le, take-append-drop, get_or_default}
use Rattle.std.proofs.lemmas.List.Elements.{All-set, All-take}
use Rattle.std.specs.Prelude.{Option, Some, None, set}
use Rattle.bt_actions.specs.Item.{Item}
use Rattle.bt_stack.specs.declared.value.Value.{Value}
use Rattle.bt_stack.specs.declared.value.Value.TheVariants as value
use Rattle.bt_stack.specs.declared.step_variables.StepVariables.{StepVariables}
use Rattle.bt_stack.specs.Desk.{Desk, short, with_answer}
use Rattle.bt_stack.specs.Tops.{joined_two, joined_tops}
use Rattle.bt_stack.specs.inner.Kept.{part, item_in, bytes_in, items, desk, Fits, AllFit, IsSound, Grows}
use Rattle.bt_stack.proofs.GrowLemmas.{items_are, items_kept, desk_kept, desk_grown, bytes_grown, all_fit_more, appended}
use Rattle.bt_stack.proofs.TopLemmas.{two_tops, items_answered, items_len, text_answered, made_last}
use Rattle.bt_stack.proofs.VariableLemmas.{short_is}

-- two texts side by side are one
sides_joined : (pool : List ℕ) (start a b : ℕ) → start + a + b ≤ length pool → part pool start (a + b) ≡ part pool start a ++ part pool (start + a) b
sides_joined pool start a b inside =
    let rest : List ℕ = drop start pool in
    sym (take-append-drop a (take (a + b) rest))
    ∙ (λ k. take-take a (a + b) rest (omega arith) k ++ (drop-take a b rest ∙ ap (take b) (drop-drop a start pool)) k)

pub made_joined : (pool : List ℕ) (v u : Value) (start a next b len : ℕ) → v ≡ value.Made start a → u ≡ value.Made next b → start + a ≡ next → Fits (length pool) v → Fits (length pool) u → len ≡ length (bytes_in pool v) + length (bytes_in pool u) → item_in pool (value.Made start len) ≡ Item.Txt (bytes_in pool v ++ bytes_in pool u)
made_joined pool v u start a next b len is_lower is_upper beside lower upper is_len =
    let P : Value → Type 0 = λ x. Fits (length pool) x in
    let lower_in : Fits (length pool) (value.Made start a) = subst P is_lower lower in
    let upper_in : Fits (length pool) (value.Made next b) = subst P is_upper upper in
    let first : length (part pool start a) ≡ a = length-take-le a (drop start pool) (omega (arith, length-drop start pool, lower_in.0)) in
    let second : length (part pool next b) ≡ b = length-take-le b (drop next pool) (omega (arith, length-drop next pool, upper_in.0)) in
    let long : len ≡ a + b = is_len ∙ (λ k. length (bytes_in pool (is_lower k)) + length (bytes_in pool (is_upper k))) ∙ (λ k. first k + second k) in
    ap Item.Txt (ap (part pool start) long ∙ sides_joined pool start a b (omega (arith, beside, upper_in.0))
    ∙ ap (λ n. part pool start a ++ part pool n b) beside
    ∙ (λ k. bytes_in pool (sym is_lower k) ++ bytes_in pool (sym is_upper k)))

-- A text that ends a pool, and one that is put after it, are one.
pub last_part : (pool : List ℕ) (start count : ℕ) → start + count ≡ length pool → drop start pool ≡ part pool start count
last_part pool start count ends =
    sym (take_all count (drop start pool) (omega (arith, ends, length-drop start pool)))

pub put_last_part : (pool pool' text : List ℕ) → pool' ≡ pool ++ text → part pool' (length pool) (length text) ≡ text
put_last_part pool pool' text is_pool =
    ap (λ p. part p (length pool) (length text)) is_pool ∙ made_last pool text

pub last_joined : (pool middle pool' : List ℕ) (v u : Value) (start len : ℕ) → Grows pool middle → start ≤ length middle → drop start middle ≡ bytes_in pool v → Fits (length pool) u → pool' ≡ middle ++ bytes_in middle u → len ≡ length (bytes_in pool v) + length (bytes_in pool u) → item_in pool' (value.Made start len) ≡ Item.Txt (bytes_in pool v ++ bytes_in pool u)
last_joined pool middle pool' v u start len grows within last fits is_pool is_len =
    let a = bytes_in pool v in
    let b = bytes_in pool u in
    let whole : drop start pool' ≡ a ++ b =
    ap (drop start) is_pool ∙ drop-append-le start middle (bytes_in middle u) within ∙ (λ k. last k ++ bytes_grown pool middle u grows fits k) in
    ap Item.Txt (ap (take len) whole ∙ take_all len (a ++ b) (omega (arith, is_len, length-append a b)))

-- the two topmost values, read, as one text or none
tops_joined : (pool : List ℕ) (vs : List Value) (n : ℕ) (v u : Value) (old : List Item) (o : Option Item) → n ≡ length vs → 2 ≤ n → u ≡ get_or vs (n - 2) u → v ≡ get_or vs (n - 1) v → items pool vs ≡ old → o ≡ joined_two (item_in pool u) (item_in pool v) → o ≡ joined_tops old
tops_joined pool vs n v u old o is_length two is_lower is_upper are_old is_joined =
    is_joined
    ∙ sym (ap joined_tops (sym are_old ∙ two_tops pool vs n v is_length two
    ∙ (λ k. item_in pool (sym is_upper k) ∷ item_in pool ((get_or_default vs (n - 2) v u (omega (arith, is_length, two)) ∙ sym is_lower) k) ∷ items pool (take (n - 2) vs))))

pub join_refused : (pool pool' : List ℕ) (vs : List Value) (g o : StepVariables) (n : ℕ) (v u : Value) (old : Desk) → Grows pool pool' → IsSound (length pool) vs g o → n ≡ length vs → 2 ≤ n → u ≡ get_or vs (n - 2) u → v ≡ get_or vs (n - 1) v → desk pool vs g o ≡ old → None ≡ joined_two (item_in pool u) (item_in pool v) → let r : Bool × Desk = (false, desk pool' vs g o) in r ≡ with_answer (joined_tops old.items) 2 old
join_refused pool pool' vs g o n v u old grows sound is_length two is_lower is_upper is_old none =
    ap (λ d. (false, d)) (desk_kept pool pool' vs g o old grows sound is_old)
    ∙ ap (λ a. with_answer a 2 old) (tops_joined pool vs n v u old.items None is_length two is_lower is_upper (items_are pool vs g o old is_old) none)

pub join_done : (pool pool' : List ℕ) (vs vs' : List Value) (g o : StepVariables) (n : ℕ) (v u w : Value) (old : Desk) → Grows pool pool' → IsSound (length pool) vs g o → n ≡ length vs → 2 ≤ n → u ≡ get_or vs (n - 2) u → v ≡ get_or vs (n - 1) v → desk pool vs g o ≡ old → Some (item_in pool' w) ≡ joined_two (item_in pool u) (item_in pool v) → vs' ≡ take (n - 1) (set vs (n - 2) w) → let r : Bool × Desk = (true, desk pool' vs' g o) in r ≡ with_answer (joined_tops old.items) 2 old
join_done pool pool' vs vs' g o n v u w old grows sound is_length two is_lower is_upper is_old some are_values =
    let are_old = items_are pool vs g o old is_old in
    let kept : items pool' vs ≡ old.items = items_kept pool pool' vs old.items grows sound.fit are_old in
    let there : 2 ≤ length old.items = omega (arith, is_length, two, items_len pool vs old.items are_old) in
    let new : items pool' vs' ≡ item_in pool' w ∷ drop 2 old.items =
    items_answered pool' vs vs' n 2 w (item_in pool' w) old.items (are_values ∙ ap (λ m. take m (set vs (n - 2) w)) (omega (arith, two))) is_length (omega arith) there refl kept in
    ap (λ d. (true, d)) (desk_grown pool pool' vs g o old grows sound is_old new)
    ∙ ap (λ a. with_answer a 2 old) (tops_joined pool vs n v u old.items (Some (item_in pool' w)) is_length two is_lower is_upper are_old some)

pub fit_joined : (pool pool' : List ℕ) (vs vs' : List Value) (n m : ℕ) (w : Value) → Grows pool pool' → AllFit (length pool) vs → Fits (length pool') w → vs' ≡ take n (set vs m w) → AllFit (length pool') vs'
fit_joined pool pool' vs vs' n m w grows fit fits are_values =
    let P : List Value → Type 0 = λ l. AllFit (length pool') l in
    subst P (sym are_values) (All-take (Fits (length pool')) n (set vs m w) (All-set (Fits (length pool')) vs m w fits (all_fit_more pool pool' vs grows fit)))

-- a text that was written takes the place of arguments
pub text_done : (pool pool' text : List ℕ) (vs vs' : List Value) (g o : StepVariables) (n count start len : ℕ) (old : Desk) → pool' ≡ pool ++ text → vs' ≡ take (n - count + 1) (set vs (n - count) (value.Made start len)) → start ≡ length pool → len ≡ length text → len ≤ 65536 → n ≡ length vs → 0 < count → count ≤ length old.items → IsSound (length pool) vs g o → desk pool vs g o ≡ old → let r : Bool × Desk = (true, desk pool' vs' g o) in r ≡ with_answer (short text) count old
text_done pool pool' text vs vs' g o n count start len old is_pool are_values is_start is_len is_short is_length some there sound is_old =
    ap (λ d. (true, d)) (desk_grown pool pool' vs g o old (appended pool pool' text is_pool) sound is_old
    (text_answered pool pool' text vs vs' n count start len old.items is_pool are_values is_start is_len is_length some there sound.fit (items_are pool vs g o old is_old)))
    ∙ ap (λ a. with_answer a count old) (sym (short_is text (omega (arith, is_len, is_short))))
