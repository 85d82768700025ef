-- A variable gets a text, which is copied into the pool first unless it lies there.
use Rattle.std.proofs.Common.{◌≡◌, ℕ, true, List, length, ap, sym, ◌∙◌}
use Rattle.std.specs.Prelude.{Bool, Option, Some, None, slice_get, slice_set, option_and_then}
use Rattle.std.proofs.lemmas.Option.{none-some, same_Some}
use Rattle.bt_actions.specs.declared.entry.Variables.{Variables}
use Rattle.bt_actions.specs.Item.{Item, Num, Txt, Fun, Missing}
use Rattle.bt_actions.specs.Arguments.{as_text}
use Rattle.bt_actions.specs.Assignment.{with_text}
use Rattle.bt_stack.specs.declared.value.Value.{Value}
use Rattle.bt_stack.specs.declared.step_variables.StepVariables.{StepVariables}
use Rattle.bt_stack.specs.Desk.{Desk, with_globals, with_own}
use Rattle.bt_stack.specs.inner.Kept.{items, texts_over, values_over, desk, IsSound, Grows}
use Rattle.bt_stack.proofs.GrowLemmas.{desk_kept, items_are, all_fit_more}

-- the values beside a pool that has grown, and other texts of the style's variables
pub desk_globals : (pool pool' : List ℕ) (vs : List Value) (g g' o : StepVariables) (old : Desk) (t : List (List ℕ)) → Grows pool pool' → IsSound (length pool) vs g o → desk pool vs g o ≡ old → values_over g'.numbers.items g'.given.now.numbers ≡ values_over g.numbers.items g.given.now.numbers → texts_over pool' g'.texts.items g'.given.now.texts ≡ t → desk pool' vs g' o ≡ record old { globals = record old.globals { texts = t } }
desk_globals pool pool' vs g g' o old t grows sound is_old numbers texts =
    let kept = desk_kept pool pool' vs g o old grows sound is_old in
    λ i. record { items = (kept i).items; globals = record { numbers = (numbers ∙ ap (λ d. d.globals.numbers) kept) i; texts = texts i }; own = (kept i).own }

-- the same of the entry
pub desk_own : (pool pool' : List ℕ) (vs : List Value) (g o o' : StepVariables) (old : Desk) (t : List (List ℕ)) → Grows pool pool' → IsSound (length pool) vs g o → desk pool vs g o ≡ old → values_over o'.numbers.items o'.given.now.numbers ≡ values_over o.numbers.items o.given.now.numbers → texts_over pool' o'.texts.items o'.given.now.texts ≡ t → desk pool' vs g o' ≡ record old { own = record old.own { texts = t } }
desk_own pool pool' vs g o o' old t grows sound is_old numbers texts =
    let kept = desk_kept pool pool' vs g o old grows sound is_old in
    λ i. record { items = (kept i).items; globals = (kept i).globals; own = record { numbers = (numbers ∙ ap (λ d. d.own.numbers) kept) i; texts = texts i } }

-- an item that is a text, given to a variable
with_found : (o : Option Item) (b : List ℕ) (n : ℕ) (vs : Variables) → Some b ≡ option_and_then as_text o → option_and_then (λ v. with_text n v vs) o ≡ Some (record vs { texts = slice_set vs.texts n b })
with_found None b n vs e = absurd (none-some b (sym e))
with_found (Some (Num m)) b n vs e = absurd (none-some b (sym e))
with_found (Some (Txt t)) b n vs e = ap (λ u. Some (record vs { texts = slice_set vs.texts n u })) (same_Some t b (sym e))
with_found (Some (Fun c)) b n vs e = absurd (none-some b (sym e))
with_found (Some (Missing m)) b n vs e = absurd (none-some b (sym e))

-- the same of an item of a stack that was read
text_found : (pool : List ℕ) (us vs : List Value) (g o : StepVariables) (old : Desk) (k n : ℕ) (b : List ℕ) (ws : Variables) → desk pool vs g o ≡ old → us ≡ vs → Some b ≡ option_and_then as_text (slice_get (items pool us) k) → option_and_then (λ v. with_text n v ws) (slice_get old.items k) ≡ Some (record ws { texts = slice_set ws.texts n b })
text_found pool us vs g o old k n b ws is_old are_values is_text =
    with_found (slice_get old.items k) b n ws
    (is_text ∙ ap (λ l. option_and_then as_text (slice_get l k)) (ap (items pool) are_values ∙ items_are pool vs g o old is_old))

pub globals_assigned : (pool pool' : List ℕ) (us vs : List Value) (g g' o : StepVariables) (old : Desk) (k n : ℕ) (b m : List ℕ) → Grows pool pool' → IsSound (length pool) vs g o → desk pool vs g o ≡ old → us ≡ vs → Some b ≡ option_and_then as_text (slice_get (items pool us) k) → m ≡ b → values_over g'.numbers.items g'.given.now.numbers ≡ values_over g.numbers.items g.given.now.numbers → texts_over pool' g'.texts.items g'.given.now.texts ≡ slice_set (texts_over pool' g.texts.items g.given.now.texts) n m → let r : Bool × Desk = (true, desk pool' vs g' o) in r ≡ with_globals (option_and_then (λ v. with_text n v old.globals) (slice_get old.items k)) old
globals_assigned pool pool' us vs g g' o old k n b m grows sound is_old are_values is_text is_copy numbers is_set =
    let before : texts_over pool' g.texts.items g.given.now.texts ≡ old.globals.texts = ap (λ d. d.globals.texts) (desk_kept pool pool' vs g o old grows sound is_old) in
    let after : texts_over pool' g'.texts.items g'.given.now.texts ≡ slice_set old.globals.texts n b = is_set ∙ (λ i. slice_set (before i) n (is_copy i)) in
    ap (λ d. (true, d)) (desk_globals pool pool' vs g g' o old _ grows sound is_old numbers after)
    ∙ sym (ap (λ a. with_globals a old) (text_found pool us vs g o old k n b old.globals is_old are_values is_text))

-- the same of the entry
pub own_assigned : (pool pool' : List ℕ) (us vs : List Value) (g o o' : StepVariables) (old : Desk) (k n : ℕ) (b m : List ℕ) → Grows pool pool' → IsSound (length pool) vs g o → desk pool vs g o ≡ old → us ≡ vs → Some b ≡ option_and_then as_text (slice_get (items pool us) k) → m ≡ b → values_over o'.numbers.items o'.given.now.numbers ≡ values_over o.numbers.items o.given.now.numbers → texts_over pool' o'.texts.items o'.given.now.texts ≡ slice_set (texts_over pool' o.texts.items o.given.now.texts) n m → let r : Bool × Desk = (true, desk pool' vs g o') in r ≡ with_own (option_and_then (λ v. with_text n v old.own) (slice_get old.items k)) old
own_assigned pool pool' us vs g o o' old k n b m grows sound is_old are_values is_text is_copy numbers is_set =
    let before : texts_over pool' o.texts.items o.given.now.texts ≡ old.own.texts = ap (λ d. d.own.texts) (desk_kept pool pool' vs g o old grows sound is_old) in
    let after : texts_over pool' o'.texts.items o'.given.now.texts ≡ slice_set old.own.texts n b = is_set ∙ (λ i. slice_set (before i) n (is_copy i)) in
    ap (λ d. (true, d)) (desk_own pool pool' vs g o o' old _ grows sound is_old numbers after)
    ∙ sym (ap (λ a. with_own a old) (text_found pool us vs g o old k n b old.own is_old are_values is_text))

-- what holds of a stack still holds when its pool has grown
pub sound_grown : (pool pool' : List ℕ) (vs : List Value) (g o : StepVariables) → Grows pool pool' → IsSound (length pool) vs g o → IsSound (length pool') vs g o
sound_grown pool pool' vs g o grows sound = record {
  fit = all_fit_more _ _ vs grows sound.fit;
  globals_fit = all_fit_more _ _ g.texts.items grows sound.globals_fit;
  own_fit = all_fit_more _ _ o.texts.items grows sound.own_fit;
  few = sound.few;
}
