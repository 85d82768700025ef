-- The values that are logged one after another.
use Rattle.std.proofs.Common.{◌≡◌, ◌<◌, Bool, true, false, List, [], ◌∷◌, ◌++◌, length, refl, ap, sym, ◌∙◌, arith}
use Rattle.std.proofs.lemmas.Bool.{false≢true}
use Rattle.std.proofs.lemmas.List.{append-nil}
use Rattle.std.specs.Prelude.{ℕ, None, map, option_map, slice_get}
use Rattle.bt_style.specs.Program.{Program}
use Rattle.bt_actions.specs.Item.{Item}
use Rattle.bt_actions.specs.declared.complaint.Complaint.TheVariants.{Shown}
use Rattle.bt_actions.specs.World.{World, told_message, with_stack}
use Rattle.bt_actions.specs.LogLines.{shown_value, log_stack}
use Rattle.bt_actions.proofs.LoggingLemmas.{log_stack_next}
use Rattle.bt_stack.specs.declared.value.Value.{Value}
use Rattle.bt_stack.specs.inner.Kept.{items}
use Rattle.bt_stack.specs.inner.Logged.{logged_from}

-- after a value that was logged, all that are left give what all gave before
pub all_more : (p : Program) (vs : List Item) (b : Bool) (first before after : World) → before.stack ≡ vs → log_stack p before ≡ log_stack p first → (let r : Bool × World = (b, after) in r ≡ logged_from p vs before) → b ≡ true → log_stack p after ≡ log_stack p first
all_more p [] b first before after top known e logged = absurd (false≢true (sym (ap (λ r. r.0) e) ∙ logged))
all_more p (v ∷ vs) b first before after top known e logged = log_stack_next p v before (with_stack vs before) after top refl (ap (λ r. r.1) e) ∙ known

-- and there is one value fewer
pub fewer_left : (p : Program) (vs : List Item) (b : Bool) (before after : World) → before.stack ≡ vs → (let r : Bool × World = (b, after) in r ≡ logged_from p vs before) → b ≡ true → length after.stack < length before.stack
fewer_left p [] b before after top e logged = absurd (false≢true (sym (ap (λ r. r.0) e) ∙ logged))
fewer_left p (v ∷ vs) b before after top e logged = rw (ap (λ r. r.1.stack) e, top) (grind arith)

-- of no value there is nothing to log
pub none_left : (p : Program) (vs : List Item) (b : Bool) (first before after : World) → before.stack ≡ vs → log_stack p before ≡ log_stack p first → (let r : Bool × World = (b, after) in r ≡ logged_from p vs before) → b ≡ false → after ≡ log_stack p first
none_left p [] b first before after top known e none =
    ap (λ r. r.1) e
    ∙ (λ i. record before { messages = (sym (append-nil before.messages) ∙ ap (λ l. before.messages ++ map (λ v. told_message before (Shown (shown_value p v))) l) (sym top)) i; stack = top i })
    ∙ known
none_left p (v ∷ vs) b first before after top known e none = absurd (false≢true (sym none ∙ ap (λ r. r.0) e))

-- there are no words without a value
pub words_none : {A : Type 0} (f : Item → A) (pool : List ℕ) (vs vs' : List Value) (old : List Item) (k : ℕ) → None ≡ slice_get (items pool vs') k → vs' ≡ vs → items pool vs ≡ old → None ≡ option_map f (slice_get old k)
words_none f pool vs vs' old k is_none are_values are_old = ap (option_map f) (is_none ∙ ap (λ s. slice_get s k) (ap (items pool) are_values ∙ are_old))
